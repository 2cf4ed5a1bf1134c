-- Points that a mask names: its lowest bit is the first one's.
use Rattle.std.specs.Prelude.{◌≡◌, ℕ, ◌+◌, ◌*◌, ◌/◌, ◌%◌, ◌==◌, Bool, if◌then◌else◌, List, [], ◌∷◌, Ok}
use Rattle.std.specs.List.{cons_option}
use Rattle.stage_meanings.specs.Filters.{Rule, keeps}
use Rattle.stage_meanings.specs.ByRule.{judged}

abbrev pub is_odd : ℕ → Bool
is_odd n = n % 2 == 1

-- the points whose bits are set
abbrev pub marked : {P : Type 0} → ℕ → List P → List P
marked mask [] = []
marked mask (p ∷ ps) = cons_option (keeps (is_odd mask) p) (marked (mask / 2) ps)

-- the mask of the points that pass a test
abbrev pub mask_of : {P : Type 0} → (P → Bool) → List P → ℕ
mask_of test [] = 0
mask_of test (p ∷ ps) = 2 * mask_of test ps + (if test p then 1 else 0)

-- just these points go on by a rule, as they are, wherever they stand
abbrev pub IsMaskOf : {P R : Type 0} → Rule P R → ℕ → List P → Type 0
IsMaskOf rule mask [] = Unit {0}
IsMaskOf rule mask (p ∷ ps) = ((place : ℕ) → judged rule place p ≡ Ok (keeps (is_odd mask) p)) × IsMaskOf rule (mask / 2) ps
