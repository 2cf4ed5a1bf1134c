use Rattle.std.proofs.Common.{arith, ◌≤◌, length}
use Rattle.decimal_coords.proofs.Printing.{whole_length}
use Rattle.decimal_coords.proofs.fixed.push_whole.Goals as goal

pub returns-in_default-clause-len : goal.returns-in_default-clause-len
returns-in_default-clause-len c =
    let t = whole_length c.args.n c.requires.small in
    let x : length c.format-in_default.result.now ≤ 30 = rw c.format-in_default.ensures.text t in
    omega arith
