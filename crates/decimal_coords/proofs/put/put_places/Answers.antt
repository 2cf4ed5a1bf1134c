use Rattle.std.proofs.Common.{arith, ◌≡◌, ℕ, ◌-◌, ◌/◌, ◌^◌, ◌<◌, ◌≤◌, ◌∙◌, ap, length, length-set}
use Rattle.std.specs.Prelude.{decimal}
use Rattle.std.proofs.lemmas.List.{take-set-le}
use Rattle.decimal_coords.proofs.Padded.{take_shorter}
use Rattle.decimal_coords.proofs.Printing.{whole_shorter}
use Rattle.decimal_coords.proofs.Backward.{whole_text, length_parts, length_whole}
use Rattle.decimal_coords.proofs.put.put_places.Goals as goal

-- the digits before the point
whole_fits : (n p whole : ℕ) → whole ≡ n / 10 ^ p → n / 10 ^ p < 10 ^ 10 → length (decimal whole) ≤ 10
whole_fits n p whole e h = whole_shorter whole (omega arith)

pub write_digits-requires : goal.write_digits-requires
write_digits-requires c = let l = length_whole c.args.places c.args.n c.if-places-eq0.true c.requires.small in (omega arith, omega arith)

pub returns-then-places-eq0-clause-short : goal.returns-then-places-eq0-clause-short
returns-then-places-eq0-clause-short c =
    let l = length_whole c.args.places c.args.n c.if-places-eq0.true c.requires.small in
    let e = ap length (whole_text c.args.places c.args.n c.if-places-eq0.true) in omega arith

pub write_digits-requires-2 : goal.write_digits-requires-2
write_digits-requires-2 c =
    let l = whole_fits c.args.n c.args.places c.divided-whole.result c.divided-whole.ensures c.requires.small in
    (omega arith, omega (arith, length-set c.put_padded-at.new.line (c.put_padded-at.result - 1) 46))

pub returns-clause-start : goal.returns-clause-start
returns-clause-start c =
    let l = whole_fits c.args.n c.args.places c.divided-whole.result c.divided-whole.ensures c.requires.small in
    let e = length_parts c.args.places c.args.n c.if-places-eq0.false c.requires.places in
    let d = ap (λ x. length (decimal x)) c.divided-whole.ensures in
    omega arith

pub returns-clause-short : goal.returns-clause-short
returns-clause-short c =
    let l = whole_fits c.args.n c.args.places c.divided-whole.result c.divided-whole.ensures c.requires.small in
    let e = length_parts c.args.places c.args.n c.if-places-eq0.false c.requires.places in
    let d = ap (λ x. length (decimal x)) c.divided-whole.ensures in
    omega arith

pub returns-clause-before : goal.returns-clause-before
returns-clause-before c =
    let l = whole_fits c.args.n c.args.places c.divided-whole.result c.divided-whole.ensures c.requires.small in
    let h : c.write_digits-2.result ≤ c.put_padded-at.result - 1 = omega arith in
    c.write_digits-2.ensures.before ∙ take-set-le c.write_digits-2.result c.put_padded-at.new.line (c.put_padded-at.result - 1) 46 h
    ∙ take_shorter c.write_digits-2.result c.put_padded-at.result _ _ (omega arith) c.put_padded-at.ensures.before
