-- Descriptors that are written.
use Rattle.std.specs.Prelude.{◌≡◌, ℕ, ◌+◌, ◌≤◌, pos, int_le, Bool, true, false, List, [], ◌∷◌, ◌++◌, length, replicate, drop, map, ⊤, if◌then◌else◌}
use Rattle.std.specs.List.{flat_map}
use Rattle.std.specs.Int.{w64, to_le_bytes}
use Rattle.decimal_coords.specs.declared.grid.Scale.{Scale}
use Rattle.ieee_words.specs.NearWord.{near_word}
use Rattle.text_bytes.specs.Bytes.{is_name}
use Rattle.cloud_points.specs.ExtraFields.{kind_size}
use Rattle.cloud_points.specs.declared.extra.ExtraKind.{ExtraKind}
use Rattle.cloud_points.specs.declared.extra.ExtraKind.TheVariants.{U8, I8, U16, I16, U32, I32, U64, I64}
use Rattle.cloud_points.specs.declared.extra.ExtraField.{ExtraField}
use Rattle.extra_bytes.specs.Descriptors.{is_taken, fields_of}

-- the number of a kind
abbrev pub kind_number : ExtraKind → ℕ
kind_number U8 = 1
kind_number I8 = 2
kind_number U16 = 3
kind_number I16 = 4
kind_number U32 = 5
kind_number I32 = 6
kind_number U64 = 7
kind_number I64 = 8

-- a scale is from 1 to 10 ^ 9 nanounits, and so 1 where it isn't below 10 ^ 9
abbrev pub is_unit : Scale → Bool
is_unit scale = int_le (pos 1_000_000_000) scale.nano

-- bit 3 of the options marks the scale as relevant, where it isn't 1
abbrev pub scale_options : Scale → ℕ
scale_options scale = if is_unit scale then 0 else 8

abbrev pub scale_part : Scale → List ℕ
scale_part scale = if is_unit scale then replicate 8 0 else to_le_bytes w64 (near_word scale.nano 9)

-- its name has room
abbrev pub HasShortName : ExtraField → Type 0
HasShortName f = length f.name ≤ 32

-- the descriptor of a field whose offset is 0; what isn't named is zero
abbrev pub descriptor_bytes : ExtraField → List ℕ
descriptor_bytes f = (0 ∷ 0 ∷ kind_number f.kind ∷ scale_options f.scale ∷ []) ++ (f.name ++ (drop (length f.name) (replicate 32 0)
    ++ (replicate 76 0 ++ (scale_part f.scale ++ replicate 72 0))))

-- the same field, with place 0
abbrev pub unplaced : ExtraField → ExtraField
unplaced f = record f { place = 0 }

-- a field that a descriptor can describe
pub record IsDescribed (f : ExtraField) : Type 0 where
  pub name : is_name f.name ≡ true
  pub short : length f.name ≤ 32
  pub offset : f.offset ≡ pos 0

-- fields with new names, one right behind another from a place on, that end within a record of so many bytes
abbrev pub AreDescribed : List ExtraField → ℕ → ℕ → List ExtraField → Type 0
AreDescribed before at size [] = ⊤
AreDescribed before at size (f ∷ rest) = IsDescribed f × (is_taken f.name before ≡ false) × (f.at ≡ at) × (at + kind_size f.kind ≤ size)
    × AreDescribed (before ++ unplaced f ∷ []) (at + kind_size f.kind) size rest

-- fields are read as they were written, but for their places
abbrev pub WrittenAreRead : Type 0
WrittenAreRead = (from size : ℕ) (fields : List ExtraField) → AreDescribed [] from size fields
    → fields_of (flat_map descriptor_bytes fields) from size ≡ map unplaced fields
