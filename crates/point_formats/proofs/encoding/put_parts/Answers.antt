use Rattle.std.proofs.Common.{◌≡◌, ◌+◌, ◌-◌, ◌≤◌, ◌++◌, length, length-append, drop, ap, ◌∙◌, arith}
use Rattle.std.proofs.lemmas.Slice.{drop-put_mid, drop-append-drop}
use Rattle.point_formats.proofs.encoding.put_parts.Goals as goal

pub returns-clause-after : goal.returns-clause-after
returns-clause-after c =
    let a = length c.args.first.now in
    let n = a + length c.args.rest.now in
    let out = c.args.out.now in
    let first = c.copy_from_slice.new.self in
    let first_size : length first ≡ a = ap length c.copy_from_slice.ensures.after in
    let rest_size : length c.copy_from_slice-2.new.self ≡ n - a = (let e = ap length c.copy_from_slice-2.ensures.after in omega (arith, e)) in
    let room : a ≤ length (first ++ drop a out) = (let l = length-append first (drop a out) in omega (arith, l, first_size)) in
    drop-put_mid a (n - a) (first ++ drop a out) c.copy_from_slice-2.new.self n (omega arith) room rest_size
    ∙ drop-append-drop a out first n (omega arith) first_size
