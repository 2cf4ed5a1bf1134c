use Rattle.std.proofs.Common.{arith, ◌≡◌, ℕ, ◌+◌, ◌-◌, ◌*◌, ◌/◌, ◌^◌, ◌<◌, ◌≤◌, ◌∙◌, ap, sym, refl, ◌⊎◌, inl, inr, pos, neg_ℤ, w64, List, ◌∷◌, ◌++◌, length, drop, set}
use Rattle.std.proofs.lemmas.Int.{ints, to_z-of_z}
use Rattle.std.proofs.lemmas.List.{take-set-le, drop-set}
use Rattle.decimal_coords.specs.Fixed.{places_text}
use Rattle.decimal_coords.proofs.Padded.{take_shorter}
use Rattle.decimal_coords.proofs.Printing.{whole_smaller, unit_places, ten_some, fixed_plain, fixed_minus}
use Rattle.decimal_coords.proofs.Backward.{cut_out, cut_behind}
use Rattle.decimal_coords.proofs.put.put_fixed.Goals as goal
use Rattle.decimal_coords.proofs.put.put_fixed.Goals.{then-nano-ge0-via-then-nano-ge0, then-nano-ge0-via-else-nano-ge0+then-rounded-eq0}

rounded_is : (r s unit p : ℕ) → unit ≡ 10 ^ (9 - p) → r ≡ (s + unit / 2) / 10 ^ (9 - p) → r ≡ (s + unit / 2) / unit
rounded_is r s unit p u e = e ∙ ap (λ x. (s + unit / 2) / x) (sym u)

small : (r s unit p : ℕ) → p ≤ 9 → s ≤ 2 ^ 63 → unit ≡ 10 ^ (9 - p) → r ≡ (s + unit / 2) / unit → r / 10 ^ p < 10 ^ 10
small r s unit p few h u e = rw e (whole_smaller s unit (10 ^ p) h (ap (λ x. x * 10 ^ p) u ∙ unit_places p few) (ten_some p))

-- a sign before the text
signed : (text line rest : List ℕ) (at : ℕ) → 0 < at → at ≤ length line → drop at line ≡ text ++ rest → drop (at - 1) (set line (at - 1) 45) ≡ (45 ∷ text) ++ rest
signed text line rest at some h d =
    let e : at - 1 + 1 ≡ at = omega arith in
    rw (drop-set line (at - 1) 45 (omega arith), e, d) refl

pub put_places-at-requires-clause-small : goal.put_places-at-requires-clause-small
put_places-at-requires-clause-small c =
    small c.divided-rounded.result c.unsigned_abs.result c.power_of_ten-unit.result c.args.places c.requires.places c.unsigned_abs.ensures.bound c.power_of_ten-unit.ensures.value
    (rounded_is c.divided-rounded.result c.unsigned_abs.result c.power_of_ten-unit.result c.args.places c.power_of_ten-unit.ensures.value c.divided-rounded.ensures)

pub returns-then-nano-ge0-clause-written : goal.returns-then-nano-ge0-clause-written
returns-then-nano-ge0-clause-written c =
    let i = to_z-of_z w64 c.args.nano c.ranges.nano in
    let s : ℕ = c.unsigned_abs.result in
    let unit : ℕ = c.power_of_ten-unit.result in
    let r = rounded_is c.divided-rounded.result s unit c.args.places c.power_of_ten-unit.ensures.value c.divided-rounded.ensures in
    let k : (c.args.nano ≡ pos s) ⊎ ((c.args.nano ≡ neg_ℤ (pos s)) × ((s + unit / 2) / unit ≡ 0)) =
    elim c.then-nano-ge0.branch [
      | then-nano-ge0-via-then-nano-ge0 w ↦ inl (let z : c.args.nano ≡ pos s = grind (arith, ints) in z)
      | then-nano-ge0-via-else-nano-ge0+then-rounded-eq0 w ↦ inr ((let z : c.args.nano ≡ neg_ℤ (pos s) = grind (arith, ints) in z), omega arith)
    ] in
    cut_out (places_text c.args.places c.divided-rounded.result) c.put_places-at.new.line (drop c.args.end c.args.line.now) c.put_places-at.result c.args.end
    c.put_places-at.ensures.start c.put_places-at.ensures.written
    ∙ ap (places_text c.args.places) r
    ∙ fixed_plain c.args.nano s unit c.args.places c.power_of_ten-unit.ensures.value k

pub returns-then-nano-ge0-clause-after : goal.returns-then-nano-ge0-clause-after
returns-then-nano-ge0-clause-after c =
    cut_behind (places_text c.args.places c.divided-rounded.result) c.put_places-at.new.line (drop c.args.end c.args.line.now) c.put_places-at.result c.args.end
    c.put_places-at.ensures.start c.put_places-at.ensures.written

pub returns-clause-written : goal.returns-clause-written
returns-clause-written c =
    let i = to_z-of_z w64 c.args.nano c.ranges.nano in
    let s : ℕ = c.unsigned_abs.result in
    let unit : ℕ = c.power_of_ten-unit.result in
    let r = rounded_is c.divided-rounded.result s unit c.args.places c.power_of_ten-unit.ensures.value c.divided-rounded.ensures in
    let text : List ℕ = places_text c.args.places c.divided-rounded.result in
    let z : c.args.nano ≡ neg_ℤ (pos s) = grind (arith, ints) in
    let b : 0 < c.put_places-at.result = omega arith in
    cut_out (45 ∷ text) (set c.put_places-at.new.line (c.put_places-at.result - 1) 45) (drop c.args.end c.args.line.now) (c.put_places-at.result - 1) c.args.end
    (omega arith) (signed text c.put_places-at.new.line (drop c.args.end c.args.line.now) c.put_places-at.result b (omega arith) c.put_places-at.ensures.written)
    ∙ ap (λ x. 45 ∷ places_text c.args.places x) r
    ∙ fixed_minus c.args.nano s unit c.args.places c.power_of_ten-unit.ensures.value z (omega arith)

pub returns-clause-before : goal.returns-clause-before
returns-clause-before c =
    take-set-le (c.put_places-at.result - 1) c.put_places-at.new.line (c.put_places-at.result - 1) 45 (omega arith)
    ∙ take_shorter (c.put_places-at.result - 1) c.put_places-at.result _ _ (omega arith) c.put_places-at.ensures.before

pub returns-clause-after : goal.returns-clause-after
returns-clause-after c =
    let text : List ℕ = places_text c.args.places c.divided-rounded.result in
    let b : 0 < c.put_places-at.result = omega arith in
    cut_behind (45 ∷ text) (set c.put_places-at.new.line (c.put_places-at.result - 1) 45) (drop c.args.end c.args.line.now) (c.put_places-at.result - 1) c.args.end
    (omega arith) (signed text c.put_places-at.new.line (drop c.args.end c.args.line.now) c.put_places-at.result b (omega arith) c.put_places-at.ensures.written)
