-- Worked examples of fields and records.
use Rattle.std.specs.Prelude.{ℕ, ℤ, ◌==◌, pos, Bool, true, not, List, [], ◌∷◌, ◌++◌, replicate, codes}
use Rattle.std.specs.Int.Signed.{le_z_yes}
use Rattle.decimal_coords.specs.declared.grid.Scale.{Scale}
use Rattle.cloud_points.specs.declared.extra.ExtraKind.{ExtraKind}
use Rattle.cloud_points.specs.declared.extra.ExtraKind.TheVariants.{I16, I32, I64}
use Rattle.cloud_points.specs.declared.extra.ExtraField.{ExtraField}
use Rattle.cloud_points.specs.declared.dims.Dim.{Dim}
use Rattle.cloud_points.specs.declared.dims.Dim.TheVariants.{Extra}
use Rattle.option_texts.specs.declared.extra_dims.NamedField.{NamedField}

-- what a field is, its scale in nanounits
pub record Parts : Type 0 where
  pub name : List ℕ
  pub place : ℕ
  pub kind : ExtraKind
  pub at : ℕ
  pub scale : ℤ
  pub offset : ℤ

abbrev pub parts_of : ExtraField → Parts
parts_of f = record { name = f.name; place = f.place; kind = f.kind; at = f.at; scale = f.scale.nano; offset = f.offset }

abbrev pub height : ExtraKind → ℕ → Scale → ExtraField
height kind at scale = record { name = codes "Height"; place = 0; kind = kind; at = at; scale = scale; offset = pos 0 }

-- 32 bits in steps of 0.01, at a place
abbrev pub hundredths : ℕ → ExtraField
hundredths at = height I32 at (record { nano = pos 10_000_000; low = le_z_yes tt; high = le_z_yes tt })

-- 16 bits in steps of 0.1, behind the fields of format 0
abbrev pub tenths : ExtraField
tenths = height I16 20 (record { nano = pos 100_000_000; low = le_z_yes tt; high = le_z_yes tt })

-- the descriptor of a scaled type with the word of a scale
abbrev pub height_descriptor : ℕ → List ℕ → List ℕ
height_descriptor number word = (0 ∷ 0 ∷ number ∷ 8 ∷ []) ++ (codes "Height" ++ (replicate 26 0 ++ (replicate 76 0 ++ (word ++ replicate 72 0))))

-- the word of 0.01 is 0x3F847AE147AE147B, and that of 0.1 is 0x3FB999999999999A
abbrev pub hundredths_descriptor : List ℕ
hundredths_descriptor = height_descriptor 6 (123 ∷ 20 ∷ 174 ∷ 71 ∷ 225 ∷ 122 ∷ 132 ∷ 63 ∷ [])

abbrev pub tenths_descriptor : List ℕ
tenths_descriptor = height_descriptor 4 (154 ∷ 153 ∷ 153 ∷ 153 ∷ 153 ∷ 153 ∷ 185 ∷ 63 ∷ [])

-- behind the descriptor of a float of four bytes
abbrev pub float_and_hundredths : List ℕ
float_and_hundredths = (0 ∷ 0 ∷ 9 ∷ 0 ∷ []) ++ (codes "Intensities" ++ (replicate 177 0 ++ hundredths_descriptor))

-- records with 20 bytes of format 0
abbrev pub high_record : List ℕ
high_record = replicate 20 0 ++ (250 ∷ 0 ∷ 0 ∷ 0 ∷ [])

abbrev pub low_record : List ℕ
low_record = replicate 20 0 ++ (255 ∷ 255 ∷ 255 ∷ 255 ∷ [])

abbrev pub empty_record : List ℕ
empty_record = replicate 22 7

abbrev pub high_tenths : List ℕ
high_tenths = replicate 20 7 ++ (25 ∷ 0 ∷ [])

abbrev pub low_tenths : List ℕ
low_tenths = replicate 20 7 ++ (0 ∷ 0 ∷ [])

-- three extra names, and a layout that holds the first and the last of them
abbrev pub three_names : List (List ℕ)
three_names = codes "Height" ∷ codes "Width" ∷ codes "Depth" ∷ []

abbrev pub but_width : Dim → Bool
but_width (Extra place) = not (place == 1)
but_width dim = true

-- a field that is asked for by the name in other case, in 16 bits with one place
abbrev pub height_asked : NamedField
height_asked = record { name = codes "HEIGHT"; kind = I16; places = 1 }

abbrev pub width_asked : NamedField
width_asked = record { name = codes "Width"; kind = I16; places = 0 }

-- 64 bits in steps of a nanounit
abbrev pub fine : List ℕ → ℕ → ℕ → Parts
fine name place at = record { name = name; place = place; kind = I64; at = at; scale = pos 1; offset = pos 0 }
