-- a polygon that is being read
use Rattle.std.specs.Prelude.{ℕ, ℤ, List, [], ◌∷◌, ◌++◌, Bool, false, nat_le, ◌==◌}
use Rattle.limits_text.specs.declared.control.Control.{Control}
use Rattle.limits_text.specs.declared.control.Control.TheVariants.{CornerX, CornerY, Corner}
use Rattle.limits_text.specs.declared.control.WordKind.{WordKind}
use Rattle.limits_text.specs.declared.control.WordKind.TheVariants.{Sign}
use Rattle.limits_text.specs.declared.steps.NextWord.{NextWord}

-- a further corner is one too many
abbrev pub is_full : Control → ℕ → Bool
is_full CornerX n = nat_le 1024 n
is_full _ n = false

-- the word ends the ring
abbrev pub ends_ring : Control → WordKind → Bool
ends_ring Corner (Sign b) = b == 41
ends_ring _ k = false

-- with a word, where c came before it
abbrev pub x_with : Control → NextWord → ℤ → ℤ
x_with CornerX s x = s.value
x_with _ s x = x

abbrev pub place_with : Control → NextWord → ℕ → ℕ
place_with CornerX s p = s.start
place_with _ s p = p

abbrev pub corners_with : Control → NextWord → ℤ → List (ℤ × ℤ) → List (ℤ × ℤ)
corners_with CornerY s x ps = ps ++ (x, s.value) ∷ []
corners_with _ s x ps = ps
