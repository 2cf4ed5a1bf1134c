use Rattle.std.proofs.Common.{arith, ◌≡◌, ℕ, ◌-◌, ◌%◌, ◌^◌, ◌<◌, ◌≤◌, length, List, ap, ◌∙◌, refl}
use Rattle.std.specs.Prelude.{decimal}
use Rattle.std.proofs.Math.ListN.{length-replicate}
use Rattle.decimal_coords.proofs.Printing.{part_length}
use Rattle.decimal_coords.proofs.fixed.push_places.Goals as goal

-- the lengths of the two numbers
part_fits : (part : List ℕ) (n p one : ℕ) → one ≡ 10 ^ p → part ≡ decimal (n % one) → 0 < p → p ≤ 9 → length part ≤ p
part_fits part n p one e t some few = rw (t, e) (part_length n p some few)

pub overflow_sub-places : goal.overflow_sub-places
overflow_sub-places c = part_fits c.format-part.result.now c.args.n c.args.places (10 ^ c.args.places) refl (c.format-part.ensures.text ∙ ap decimal c.split-parts.ensures.rest) (omega arith) c.requires.places

pub push_str-requires-2 : goal.push_str-requires-2
push_str-requires-2 c =
    let a : length c.format-part.result.now ≤ c.args.places = part_fits c.format-part.result.now c.args.n c.args.places (10 ^ c.args.places) refl (c.format-part.ensures.text ∙ ap decimal c.split-parts.ensures.rest) (omega arith) c.requires.places in
    let z : length c.zeros.result.now ≡ c.args.places - length c.format-part.result.now = ap length c.zeros.ensures ∙ simp length-replicate in
    (omega arith, omega arith)

pub push_str-requires-3 : goal.push_str-requires-3
push_str-requires-3 c =
    let a : length c.format-part.result.now ≤ c.args.places = part_fits c.format-part.result.now c.args.n c.args.places (10 ^ c.args.places) refl (c.format-part.ensures.text ∙ ap decimal c.split-parts.ensures.rest) (omega arith) c.requires.places in
    let z : length c.zeros.result.now ≡ c.args.places - length c.format-part.result.now = ap length c.zeros.ensures ∙ simp length-replicate in
    (omega arith, omega arith)
