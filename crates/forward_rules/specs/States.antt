-- What is kept of the files that were read so far.
use Rattle.std.specs.Prelude.{ℕ, ℤ, ◌==◌, Bool, true, false, ◌&&◌, if◌then◌else◌, List, [], ◌∷◌, map, Option, Some, None, option_map}
use Rattle.std.specs.List.{list_all}
use Rattle.std.specs.Ordering.{int_eq}
use Rattle.std.specs.Str.{bytes_eq}
use Rattle.cloud_points.specs.declared.extra.ExtraField.{ExtraField}
use Rattle.las_vlr.specs.declared.entry.Vlr.{Vlr}
use Rattle.forward_rules.specs.declared.fields.Fields.{Fields}
use Rattle.forward_rules.specs.declared.forwarding.Forwarding.{Forwarding}
use Rattle.forward_rules.specs.declared.given.GivenValues.{GivenValues}
use Rattle.forward_rules.specs.declared.options.LasOpts.{LasOpts}
use Rattle.forward_rules.specs.declared.values.HeaderValues.{HeaderValues}
use Rattle.forward_rules.specs.Asked.{asked}
use Rattle.forward_rules.specs.declared.form.LasForm.{LasForm}
use Rattle.forward_rules.specs.Forwarded.{ReadFile, flag_on, given_on, given_or, same_lists}
use Rattle.decimal_coords.specs.declared.grid.Scale.{Scale}
use Rattle.las_vlr.specs.Same.{same_list}
use Rattle.forward_rules.specs.Values.{filled, default_values, format_in, scale_on, offset_on, same_format, same_scale}

abbrev pub given_of : LasOpts → GivenValues
given_of opts = record {
  format = opts.format;
  minor = opts.minor;
  scale = opts.scale;
  offset = opts.offset;
  source_id = opts.source_id;
  encoding = opts.encoding;
  day = opts.day;
  year = opts.year;
  system = option_map filled opts.system;
  software = option_map filled opts.software;
}

-- the fields that went over so far, without those in which these values differ
abbrev pub agreeing_scale : Fields → HeaderValues → HeaderValues → ℕ → Bool
agreeing_scale goes first values axis = flag_on goes.scale axis && same_scale (scale_on first.scale axis) (scale_on values.scale axis)

abbrev pub agreeing_offset : Fields → HeaderValues → HeaderValues → ℕ → Bool
agreeing_offset goes first values axis = flag_on goes.offset axis && int_eq (offset_on first.offset axis) (offset_on values.offset axis)

unfoldable pub agreeing : Fields → HeaderValues → HeaderValues → Bool → Fields
agreeing goes first values lists = record {
  format = goes.format && same_format first.format values.format;
  scale = agreeing_scale goes first values 0 ∷ agreeing_scale goes first values 1 ∷ agreeing_scale goes first values 2 ∷ [];
  offset = agreeing_offset goes first values 0 ∷ agreeing_offset goes first values 1 ∷ agreeing_offset goes first values 2 ∷ [];
  source_id = goes.source_id && (first.source_id == values.source_id);
  encoding = goes.encoding && (first.encoding == values.encoding);
  guid = goes.guid && bytes_eq first.guid values.guid;
  system = goes.system && bytes_eq first.system values.system;
  software = goes.software && bytes_eq first.software values.software;
  day = goes.day && (first.day == values.day);
  year = goes.year && (first.year == values.year);
  lists = lists;
}

-- a field goes over where it is asked for and all other files have what the first one has
abbrev pub all_have : {A : Type 0} → (A → A → Bool) → (ReadFile → A) → Bool → ReadFile → List ReadFile → Bool
all_have same get is_asked first rest = is_asked && list_all (same (get first)) (map get rest)

abbrev pub scale_goes : Fields → ReadFile → List ReadFile → ℕ → Bool
scale_goes asked r rest axis = all_have same_scale (λ q. scale_on q.values.scale axis) (flag_on asked.scale axis) r rest

abbrev pub offset_goes : Fields → ReadFile → List ReadFile → ℕ → Bool
offset_goes asked r rest axis = all_have int_eq (λ q. offset_on q.values.offset axis) (flag_on asked.offset axis) r rest

unfoldable pub goes_over : Fields → List ReadFile → Fields
goes_over asked [] = asked
goes_over asked (r ∷ rest) = record {
  format = all_have same_format (λ q. q.values.format) asked.format r rest;
  scale = scale_goes asked r rest 0 ∷ scale_goes asked r rest 1 ∷ scale_goes asked r rest 2 ∷ [];
  offset = offset_goes asked r rest 0 ∷ offset_goes asked r rest 1 ∷ offset_goes asked r rest 2 ∷ [];
  source_id = all_have (λ a b. a == b) (λ q. q.values.source_id) asked.source_id r rest;
  encoding = all_have (λ a b. a == b) (λ q. q.values.encoding) asked.encoding r rest;
  guid = all_have bytes_eq (λ q. q.values.guid) asked.guid r rest;
  system = all_have bytes_eq (λ q. q.values.system) asked.system r rest;
  software = all_have bytes_eq (λ q. q.values.software) asked.software r rest;
  day = all_have (λ a b. a == b) (λ q. q.values.day) asked.day r rest;
  year = all_have (λ a b. a == b) (λ q. q.values.year) asked.year r rest;
  lists = all_have same_lists (λ q. (q.vlrs, q.evlrs)) asked.lists r rest;
}

abbrev pub first_values : List ReadFile → HeaderValues
first_values [] = default_values
first_values (r ∷ rest) = r.values

-- the lists of the first file, where they are asked for
abbrev pub first_vlrs : Bool → List ReadFile → List Vlr
first_vlrs is_asked [] = []
first_vlrs is_asked (r ∷ rest) = if is_asked then r.vlrs else []

abbrev pub first_evlrs : Bool → List ReadFile → List Vlr
first_evlrs is_asked [] = []
first_evlrs is_asked (r ∷ rest) = if is_asked then r.evlrs else []

abbrev pub is_begun : List ReadFile → Bool
is_begun [] = false
is_begun (r ∷ rest) = true

-- what is kept after these files
unfoldable pub forwarding_of : LasOpts → List ReadFile → Forwarding
forwarding_of opts reads = record {
  given = given_of opts;
  goes = goes_over (asked opts.forward) reads;
  begun = is_begun reads;
  first = first_values reads;
  vlrs = first_vlrs (asked opts.forward).lists reads;
  evlrs = first_evlrs (asked opts.forward).lists reads;
}

-- a value that is given, or else goes over, or else is the default
abbrev pub picked : {A : Type 0} → Option A → Bool → A → A → A
picked (Some v) goes read default = v
picked None goes read default = if goes then read else default

abbrev pub picked_scale : GivenValues → Fields → HeaderValues → ℕ → Scale
picked_scale given goes first axis = picked (given_on given.scale axis) (flag_on goes.scale axis) (scale_on first.scale axis) (scale_on default_values.scale axis)

abbrev pub picked_offset : GivenValues → Fields → HeaderValues → ℕ → ℤ
picked_offset given goes first axis = picked (given_on given.offset axis) (flag_on goes.offset axis) (offset_on first.offset axis) (offset_on default_values.offset axis)

abbrev pub picked_scales : GivenValues → Fields → HeaderValues → List Scale
picked_scales given goes first = picked_scale given goes first 0 ∷ picked_scale given goes first 1 ∷ picked_scale given goes first 2 ∷ []

abbrev pub picked_offsets : GivenValues → Fields → HeaderValues → List ℤ
picked_offsets given goes first = picked_offset given goes first 0 ∷ picked_offset given goes first 1 ∷ picked_offset given goes first 2 ∷ []

-- the form that is decided by what is kept, with these lists and extra dimensions
unfoldable pub picked_form : GivenValues → Fields → HeaderValues → List Vlr → List Vlr → List ExtraField → LasForm
picked_form given goes first vlrs evlrs extra = record {
  format = format_in (given_or given.minor 4) (picked given.format goes.format first.format default_values.format);
  minor = given_or given.minor 4;
  scale = picked_scales given goes first;
  offset = picked_offsets given goes first;
  source_id = picked given.source_id goes.source_id first.source_id default_values.source_id;
  encoding = picked given.encoding goes.encoding first.encoding default_values.encoding;
  guid = picked None goes.guid first.guid default_values.guid;
  system = picked given.system goes.system first.system default_values.system;
  software = picked given.software goes.software first.software default_values.software;
  day = picked given.day goes.day first.day default_values.day;
  year = picked given.year goes.year first.year default_values.year;
  vlrs = vlrs;
  evlrs = evlrs;
  extra = extra;
}

-- a list, where it goes over
abbrev pub kept : Bool → List Vlr → List Vlr
kept goes vlrs = if goes then vlrs else []

-- what is kept after the first file
abbrev pub started : Forwarding → ReadFile → Forwarding
started f r = record f {
  begun = true;
  first = r.values;
  vlrs = (if f.goes.lists then r.vlrs else f.vlrs);
  evlrs = (if f.goes.lists then r.evlrs else f.evlrs);
}

-- what is kept after a further file
abbrev pub agreed : Forwarding → ReadFile → Forwarding
agreed f r = record f { goes = agreeing f.goes f.first r.values (f.goes.lists && (same_list f.vlrs r.vlrs && same_list f.evlrs r.evlrs)) }
