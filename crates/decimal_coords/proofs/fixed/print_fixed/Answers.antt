use Rattle.std.proofs.Common.{arith, ◌≡◌, ℕ, ◌+◌, ◌*◌, ◌/◌, ◌^◌, [], ◌∷◌, ◌++◌, sym, ap, ◌∙◌, ◌⊎◌, inl, inr, pos, neg_ℤ}
use Rattle.std.specs.Int.{w128}
use Rattle.std.proofs.lemmas.Grind.{common_steps}
use Rattle.decimal_coords.proofs.fixed.print_fixed.Goals.{then-nano-lt0+then-rounded-gt0, else-nano-lt0, else-nano-lt0-via-then-nano-lt0+else-rounded-gt0, else-nano-lt0-via-else-nano-lt0}
use Rattle.std.proofs.lemmas.Int.{ints, to_z-of_z}
use Rattle.decimal_coords.specs.Fixed.{places_text}
use Rattle.decimal_coords.proofs.Printing.{whole_small, unit_places, ten_some, fixed_plain, fixed_minus}
use Rattle.decimal_coords.proofs.Lengths.{fixed_short}
use Rattle.decimal_coords.proofs.fixed.print_fixed.Goals as goal

pub push_places-requires-clause-small : goal.push_places-requires-clause-small
push_places-requires-clause-small c =
    rw (c.split-rounded.ensures.quotient, ← c.power_of_ten-unit.ensures.value) (whole_small c.unsigned_abs.result c.power_of_ten-unit.result (10 ^ c.args.places) c.unsigned_abs.ensures.bound
    (ap (λ x. x * 10 ^ c.args.places) c.power_of_ten-unit.ensures.value ∙ unit_places c.args.places c.requires)
    (ten_some c.args.places))

pub returns-clause-text : goal.returns-clause-text
returns-clause-text c =
    let i = to_z-of_z w128 c.args.nano c.ranges.nano in
    let s : ℕ = c.unsigned_abs.result in
    let unit : ℕ = c.power_of_ten-unit.result in
    let g : c.split-rounded.result.quotient ≡ (s + unit / 2) / unit =
    c.split-rounded.ensures.quotient ∙ ap (λ x. (s + unit / 2) / x) (sym c.power_of_ten-unit.ensures.value) in
    elim c.if-nano-lt0.branch [
      | then-nano-lt0+then-rounded-gt0 w ↦
          let z : c.args.nano ≡ neg_ℤ (pos s) = grind (arith, ints) in
          let b : c.if-nano-lt0.out.bytes ≡ 45 ∷ [] = grind (arith, common_steps) in
          let t : c.push_places.new.out.bytes ≡ 45 ∷ places_text c.args.places ((s + unit / 2) / unit) =
          (rw (c.split-rounded.ensures.quotient, ← c.power_of_ten-unit.ensures.value) at c.push_places.ensures) ∙ ap (λ x. x ++ places_text c.args.places ((s + unit / 2) / unit)) b in
          t ∙ fixed_minus c.args.nano s unit c.args.places c.power_of_ten-unit.ensures.value z (omega arith)
      | else-nano-lt0 w ↦
          let b : c.if-nano-lt0.out.bytes ≡ [] = grind (arith, common_steps) in
          let t : c.push_places.new.out.bytes ≡ places_text c.args.places ((s + unit / 2) / unit) =
          (rw (c.split-rounded.ensures.quotient, ← c.power_of_ten-unit.ensures.value) at c.push_places.ensures) ∙ ap (λ x. x ++ places_text c.args.places ((s + unit / 2) / unit)) b in
          let k : (c.args.nano ≡ pos s) ⊎ ((c.args.nano ≡ neg_ℤ (pos s)) × ((s + unit / 2) / unit ≡ 0)) =
          elim w.else-nano-lt0.branch [
            | else-nano-lt0-via-then-nano-lt0+else-rounded-gt0 v ↦ inr ((let z : c.args.nano ≡ neg_ℤ (pos s) = grind (arith, ints) in z), omega arith)
            | else-nano-lt0-via-else-nano-lt0 v ↦ inl (let z : c.args.nano ≡ pos s = grind (arith, ints) in z)
          ] in
          t ∙ fixed_plain c.args.nano s unit c.args.places c.power_of_ten-unit.ensures.value k
    ]

pub returns-clause-short : goal.returns-clause-short
returns-clause-short c = λ h. rw (returns-clause-text c) (fixed_short c.args.nano c.args.places c.requires h)
