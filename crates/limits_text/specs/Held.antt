-- coordinates that decimals may have
use Rattle.std.specs.Prelude.{◌*◌, ◌^◌, ◌≤◌, List, [], ◌∷◌, ℤ, IfSome, unsigned_abs}
use Rattle.limits_text.specs.declared.shapes.Box3.{Box3}

-- at most 4 * 10 ^ 9 in size, in nanounits
abbrev pub IsHeld : ℤ → Type 0
IsHeld v = unsigned_abs v ≤ 4 * 10 ^ 18

-- both numbers of each pair
abbrev pub AreHeld : List (ℤ × ℤ) → Type 0
AreHeld [] = Unit {0}
AreHeld (p ∷ ps) = IsHeld p.0 × IsHeld p.1 × AreHeld ps

abbrev pub IsPairHeld : ℤ × ℤ → Type 0
IsPairHeld p = IsHeld p.0 × IsHeld p.1

abbrev pub IsBoxHeld : Box3 → Type 0
IsBoxHeld b = IsPairHeld b.x × IsPairHeld b.y × IfSome b.z IsPairHeld
