use Rattle.std.proofs.Common.{◌≡◌, ◌≤◌, None, vec_len}
use Rattle.run_ending.proofs.Written.{Written}
use Rattle.run_ending.proofs.views.write_each.Given as goal

abbrev pub invariant-loop-one : goal.invariant-loop-one
invariant-loop-one g l =
    let files = g.F.Files in
    record {
      written : Written l.stages l.fn.each.items l.each.items (files.map l.fn.files) (files.map l.files);
      untold : files.map l.fn.files ≡ None → files.map l.files ≡ None;
      lent : files.lent l.files ≡ files.lent l.fn.files;
      later : files.faults l.fn.files ≤ files.faults l.files;
    }

abbrev pub decreases-loop-one : goal.decreases-loop-one
decreases-loop-one g l = vec_len l.each
