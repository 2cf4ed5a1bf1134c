-- The scales that are read, and the words at their places.
use Rattle.std.specs.Prelude.{◌≡◌, ◌↔◌, ℕ, ℤ, List, [], ◌∷◌, Ok}
use Rattle.decimal_coords.specs.declared.grid.Scale.{Scale}
use Rattle.ieee_words.specs.Scale.{IsScaleOf}
use Rattle.byte_numbers.specs.Bytes.{number_at}
use Rattle.las_header.specs.Headers.{scales_of}

-- nano / 10 ^ 9 is from 10 ^ -9 to 1 and has this nearest word, and no other such decimal has it
pub record IsTheScaleOf (w : ℕ) (nano : ℤ) : Type 0 where
  pub scale : IsScaleOf w nano
  pub only : (n : ℤ) → IsScaleOf w n → n ≡ nano

-- each is the scale of the word at its axis' place
abbrev pub AreTheScalesIn : List ℕ → Scale → Scale → Scale → Type 0
AreTheScalesIn bytes x y z = IsTheScaleOf (number_at 131 8 bytes) x.nano
    × IsTheScaleOf (number_at 139 8 bytes) y.nano
    × IsTheScaleOf (number_at 147 8 bytes) z.nano

-- scales are read exactly where they are the ones of these words
abbrev pub ScalesHaveTheirWords : Type 0
ScalesHaveTheirWords = (bytes : List ℕ) (x y z : Scale) → (scales_of bytes ≡ Ok (x ∷ y ∷ z ∷ [])) ↔ AreTheScalesIn bytes x y z
