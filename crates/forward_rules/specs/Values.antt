-- The values of a header that may go over into a written file.
use Rattle.std.specs.Prelude.{ℕ, ℤ, pos, ◌==◌, Bool, if◌then◌else◌, List, [], ◌∷◌, ◌++◌, take, replicate, get_or, codes}
use Rattle.std.specs.Ordering.{int_eq}
use Rattle.std.specs.Int.Signed.{le_z_yes}
use Rattle.decimal_coords.specs.declared.grid.Scale.{Scale}
use Rattle.las_header.specs.declared.block.Header.{Header}
use Rattle.las_header.specs.declared.form.Format.{Format}
use Rattle.las_header.specs.declared.form.Format.TheVariants.{F3}
use Rattle.las_header.specs.Formats.{format_number}
use Rattle.las_header.specs.Versions.{takes_format}
use Rattle.forward_rules.specs.declared.values.HeaderValues.{HeaderValues}

-- a text of at most 32 bytes, filled with zero bytes
abbrev pub filled : List ℕ → List ℕ
filled text = take 32 (text ++ replicate 32 0)

-- steps of 0.01
abbrev pub default_scale : Scale
default_scale = record { nano = pos 10_000_000; low = le_z_yes tt; high = le_z_yes tt }

abbrev pub default_values : HeaderValues
default_values = record {
  format = F3;
  scale = default_scale ∷ default_scale ∷ default_scale ∷ [];
  offset = pos 0 ∷ pos 0 ∷ pos 0 ∷ [];
  source_id = 0;
  encoding = 0;
  guid = replicate 16 0;
  system = filled (codes "lasline");
  software = filled (codes "lasline 1");
  day = 0;
  year = 0;
}

abbrev pub values_of : Header → HeaderValues
values_of h = record {
  format = h.format;
  scale = h.scale;
  offset = h.offset;
  source_id = h.source_id;
  encoding = h.encoding;
  guid = h.guid;
  system = h.system;
  software = h.software;
  day = h.day;
  year = h.year;
}

abbrev pub scale_on : List Scale → ℕ → Scale
scale_on scales axis = get_or scales axis default_scale

abbrev pub offset_on : List ℤ → ℕ → ℤ
offset_on offsets axis = get_or offsets axis (pos 0)

abbrev pub same_format : Format → Format → Bool
same_format a b = format_number a == format_number b

abbrev pub same_scale : Scale → Scale → Bool
same_scale a b = int_eq a.nano b.nano

-- a format that files of the version don't have doesn't go over
abbrev pub format_in : ℕ → Format → Format
format_in minor format = if takes_format minor format then format else default_values.format
