use Rattle.std.proofs.Common.{◌≡◌, ◌≤◌, ◌+◌, ℕ}
use Rattle.std.specs.Prelude.{option_map}
use Rattle.held_devices.specs.Holding.{all_there}
use Rattle.held_devices.proofs.Releasing.{ToldSoFar}
use Rattle.held_devices.proofs.release.give_back.Given as goal

abbrev pub invariant-loop-reader : goal.invariant-loop-reader
invariant-loop-reader g l =
    let files = g.F.Files in
    record {
      map : files.map l.files ≡ files.map l.fn.files;
      lent : (others : ℕ) → files.lent l.fn.files ≡ others + all_there l.fn.readers.items → files.lent l.files ≡ others + all_there l.readers.items;
      later : files.faults l.fn.files ≤ files.faults l.files;
      told : ToldSoFar (files.counts l.fn.files) (files.counts l.files) (option_map (λ r. g.F.In.Source.faults r.source)) l.fn.readers.items l.readers.items;
    }

abbrev pub decreases-loop-reader : goal.decreases-loop-reader
decreases-loop-reader g l = goal.left-loop-reader g l
