-- What a written file takes over from the files that are read below its writer.
use Rattle.std.specs.Prelude.{ℕ, ℤ, ◌==◌, Bool, false, ◌&&◌, if◌then◌else◌, List, [], ◌∷◌, map, get_or, Option, Some, None, option_map}
use Rattle.std.specs.List.{list_all}
use Rattle.std.specs.Ordering.{int_eq}
use Rattle.std.specs.Str.{bytes_eq}
use Rattle.decimal_coords.specs.declared.grid.Scale.{Scale}
use Rattle.las_header.specs.declared.block.Header.{Header}
use Rattle.las_vlr.specs.declared.entry.Vlr.{Vlr}
use Rattle.forward_rules.specs.declared.form.LasForm.{LasForm}
use Rattle.forward_rules.specs.declared.options.LasOpts.{LasOpts}
use Rattle.forward_rules.specs.declared.values.HeaderValues.{HeaderValues}
use Rattle.forward_rules.specs.Asked.{asked}
use Rattle.las_vlr.specs.Same.{same_list}
use Rattle.forward_rules.specs.Lists.{without_extra_bytes}
use Rattle.forward_rules.specs.Values.{filled, default_values, format_in, values_of, scale_on, offset_on, same_format, same_scale}

-- a file that is read: the values of its header, the bytes of its records, and its two lists
pub record ReadFile : Type 0 where
  pub values : HeaderValues
  pub record_length : ℕ
  pub vlrs : List Vlr
  pub evlrs : List Vlr

abbrev pub read_file : Header → List Vlr → List Vlr → ReadFile
read_file header vlrs evlrs = record { values = values_of header; record_length = header.record_length; vlrs = vlrs; evlrs = evlrs }

-- a value: the one that is given; or else the one that all files read have, where it is asked for; or else the default
abbrev pub decided : {A : Type 0} → (A → A → Bool) → Option A → Bool → List A → A → A
decided same (Some v) is_asked read default = v
decided same None is_asked [] default = default
decided same None is_asked (v ∷ rest) default = if is_asked && list_all (same v) rest then v else default

abbrev pub given_on : {A : Type 0} → List (Option A) → ℕ → Option A
given_on given axis = get_or given axis None

abbrev pub flag_on : List Bool → ℕ → Bool
flag_on flags axis = get_or flags axis false

-- the scale of an axis, and its offset
abbrev pub decided_scale : LasOpts → List ReadFile → ℕ → Scale
decided_scale opts reads axis = decided same_scale (given_on opts.scale axis) (flag_on (asked opts.forward).scale axis) (map (λ r. scale_on r.values.scale axis) reads) (scale_on default_values.scale axis)

abbrev pub decided_offset : LasOpts → List ReadFile → ℕ → ℤ
decided_offset opts reads axis = decided int_eq (given_on opts.offset axis) (flag_on (asked opts.forward).offset axis) (map (λ r. offset_on r.values.offset axis) reads) (offset_on default_values.offset axis)

abbrev pub same_lists : List Vlr × List Vlr → List Vlr × List Vlr → Bool
same_lists a b = same_list a.0 b.0 && same_list a.1 b.1

-- the two lists, which go over together
abbrev pub decided_lists : LasOpts → List ReadFile → List Vlr × List Vlr
decided_lists opts reads = decided same_lists None (asked opts.forward).lists (map (λ r. (r.vlrs, r.evlrs)) reads) ([], [])

abbrev pub given_or : {A : Type 0} → Option A → A → A
given_or (Some v) default = v
given_or None default = default

-- what a writer with these options writes around the points of these files
unfoldable pub form_of : LasOpts → List ReadFile → LasForm
form_of opts reads = record {
  format = format_in (given_or opts.minor 4) (decided same_format opts.format (asked opts.forward).format (map (λ r. r.values.format) reads) default_values.format);
  minor = given_or opts.minor 4;
  scale = decided_scale opts reads 0 ∷ decided_scale opts reads 1 ∷ decided_scale opts reads 2 ∷ [];
  offset = decided_offset opts reads 0 ∷ decided_offset opts reads 1 ∷ decided_offset opts reads 2 ∷ [];
  source_id = decided (λ a b. a == b) opts.source_id (asked opts.forward).source_id (map (λ r. r.values.source_id) reads) default_values.source_id;
  encoding = decided (λ a b. a == b) opts.encoding (asked opts.forward).encoding (map (λ r. r.values.encoding) reads) default_values.encoding;
  guid = decided bytes_eq None (asked opts.forward).guid (map (λ r. r.values.guid) reads) default_values.guid;
  system = decided bytes_eq (option_map filled opts.system) (asked opts.forward).system (map (λ r. r.values.system) reads) default_values.system;
  software = decided bytes_eq (option_map filled opts.software) (asked opts.forward).software (map (λ r. r.values.software) reads) default_values.software;
  day = decided (λ a b. a == b) opts.day (asked opts.forward).day (map (λ r. r.values.day) reads) default_values.day;
  year = decided (λ a b. a == b) opts.year (asked opts.forward).year (map (λ r. r.values.year) reads) default_values.year;
  vlrs = without_extra_bytes (decided_lists opts reads).0;
  evlrs = (decided_lists opts reads).1;
  extra = [];
}
