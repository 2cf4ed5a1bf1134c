use Rattle.std.proofs.Common.{◌≡◌, ◌≤◌, ◌+◌, length, vec_len}
use Rattle.std.specs.Prelude.{vec_capacity}
use Rattle.run_opening.specs.Begun.{AreOpened}
use Rattle.held_devices.specs.Holding.{all_there}
use Rattle.run_opening.proofs.open.open_readers.Given as goal

abbrev pub invariant-loop-i : goal.invariant-loop-i
invariant-loop-i g l =
    let files = g.F.Files in
    record {
      opened : AreOpened g.F.In.Source (files.map l.fn.files) l.stages l.readers.items;
      count : vec_len l.readers ≡ l.i;
      room : length l.stages ≤ vec_capacity l.readers;
      map : files.map l.files ≡ files.map l.fn.files;
      lent : files.lent l.files ≡ files.lent l.fn.files + all_there l.readers.items;
      read : files.read_to l.files ≡ files.read_to l.fn.files;
      counts : files.counts l.files ≡ files.counts l.fn.files;
      later : files.faults l.fn.files ≤ files.faults l.files;
    }
