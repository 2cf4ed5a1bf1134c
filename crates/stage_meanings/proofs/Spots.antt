-- Where the next point stands behind others.
use Rattle.std.proofs.Common.{◌≡◌, ℕ, ◌+◌, Bool, true, false, cond, List, ◌∷◌, length, refl, ap, ◌∙◌, arith}
use Rattle.stage_meanings.specs.declared.spot.Spot.{Spot}
use Rattle.stage_meanings.specs.ByRule.{IsWithin, spot_after, spot_past}

pub after_within : (b : Bool) (s : Spot) → IsWithin s → IsWithin (spot_after b s)
after_within true s h = record { number = omega arith; place = omega arith }
after_within false s h = record { number = omega arith; place = h.place }

pub same_spot : (a b c d : ℕ) → a ≡ c → b ≡ d → ◌≡◌ {A = Spot} (record { number = a; place = b }) (record { number = c; place = d })
same_spot a b c d e h = ap (λ n. record { number = n; place = b }) e ∙ ap (λ n. record { number = c; place = n }) h

pub one_then : (b : Bool) (points passed : ℕ) (s : Spot) → spot_past points passed (spot_after b s) ≡ spot_past (points + 1) (cond b (passed + 1) passed) s
one_then true points passed s = same_spot _ _ _ _ (omega arith) (omega arith)
one_then false points passed s = same_spot _ _ _ _ (omega arith) refl

pub count : {P : Type 0} (b : Bool) (p : P) (rest : List P) → length (cond b (p ∷ rest) rest) ≡ cond b (length rest + 1) (length rest)
count true p rest = omega arith
count false p rest = refl
