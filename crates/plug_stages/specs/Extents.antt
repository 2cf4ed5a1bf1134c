-- The least and the greatest coordinates.
use Rattle.std.specs.Prelude.{ℕ, ℤ, int_lt, List, [], ◌∷◌, ◌++◌, map, fold, Option, Some, None, if◌then◌else◌, codes}
use Rattle.cloud_points.specs.declared.point.Point.{Point}
use Rattle.decimal_coords.specs.Fixed.{fixed_text}
use Rattle.plug_stages.specs.declared.bounds.Extent.{Extent}

abbrev pub lesser : ℤ → ℤ → ℤ
lesser a b = if int_lt b a then b else a

abbrev pub greater : ℤ → ℤ → ℤ
greater a b = if int_lt a b then b else a

-- six numbers with 3 places
abbrev pub six_text : ℤ → ℤ → ℤ → ℤ → ℤ → ℤ → List ℕ
six_text a b c d e f =
    fixed_text a 3 ++ codes " " ++ fixed_text b 3 ++ codes " " ++ fixed_text c 3 ++ codes " " ++ fixed_text d 3 ++ codes " " ++ fixed_text e 3 ++ codes " " ++ fixed_text f 3

-- the least and the greatest of one number and others
abbrev pub least : ℤ → List ℤ → ℤ
least a others = fold lesser a others

abbrev pub greatest : ℤ → List ℤ → ℤ
greatest a others = fold greater a others

-- the least X, Y and Z of points and the greatest, or that there is none
abbrev pub bounds_text : List Point → List ℕ
bounds_text [] = codes "empty"
bounds_text (p ∷ ps) =
    six_text (least p.x (map (λ q. q.x) ps)) (least p.y (map (λ q. q.y) ps)) (least p.z (map (λ q. q.z) ps))
    (greatest p.x (map (λ q. q.x) ps)) (greatest p.y (map (λ q. q.y) ps)) (greatest p.z (map (λ q. q.z) ps))

-- ---- the same as a step: remembered are the six numbers

abbrev pub numbers_of : Extent → List ℤ
numbers_of e = e.low_x ∷ e.low_y ∷ e.low_z ∷ e.high_x ∷ e.high_y ∷ e.high_z ∷ []

abbrev pub numbers_if : Option Extent → List ℤ
numbers_if None = []
numbers_if (Some e) = numbers_of e

abbrev pub extent_with : List ℤ → Point → List ℤ
extent_with (a ∷ b ∷ c ∷ d ∷ e ∷ f ∷ []) p = lesser a p.x ∷ lesser b p.y ∷ lesser c p.z ∷ greater d p.x ∷ greater e p.y ∷ greater f p.z ∷ []
extent_with _ p = p.x ∷ p.y ∷ p.z ∷ p.x ∷ p.y ∷ p.z ∷ []

abbrev pub extent_text : List ℤ → List ℕ
extent_text (a ∷ b ∷ c ∷ d ∷ e ∷ f ∷ []) = six_text a b c d e f
extent_text _ = codes "empty"
