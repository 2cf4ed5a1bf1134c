use Rattle.std.proofs.Common.{◌≡◌, ◌≤◌, None, take}
use Rattle.run_outcome.specs.Cause.{WerePut}
use Rattle.run_ending.specs.Each.{files_from}
use Rattle.run_ending.proofs.views.write_views.Given as goal

abbrev pub invariant-loop-v : goal.invariant-loop-v
invariant-loop-v g l =
    let files = g.F.Files in
    record {
      same : l.writing ≡ l.fn.writing;
      put : WerePut (files.map l.fn.files) (files_from l.stage l.name l.fn.writing 1 (take l.v l.views.views)) (files.map l.files);
      untold : files.map l.fn.files ≡ None → files.map l.files ≡ None;
      lent : files.lent l.files ≡ files.lent l.fn.files;
      later : files.faults l.fn.files ≤ files.faults l.files;
    }
