use Rattle.std.proofs.Common.{◌≡◌, ◌≤◌, ◌+◌, ℕ, Some, vec_len}
use Rattle.std.specs.Prelude.{sum_by}
use Rattle.stage_kinds.specs.Leads.{reached_of}
use Rattle.held_devices.proofs.Handing.{StillFilters, StillTallies}
use Rattle.stage_kinds.specs.Held.{held_by}
use Rattle.held_devices.specs.Holding.{all_held, count_on}
use Rattle.held_devices.proofs.Releasing.{Released, ToldSoFar}
use Rattle.held_devices.proofs.release.release_works.Given as goal

abbrev pub invariant-loop-work : goal.invariant-loop-work
invariant-loop-work g l =
    let files = g.F.Files in
    record {
      map : files.map l.files ≡ files.map l.fn.files;
      lent : (others : ℕ) → files.lent l.fn.files ≡ others + all_held l.fn.works.items → files.lent l.files ≡ others + all_held l.works.items;
      later : files.faults l.fn.files ≤ files.faults l.files;
      read : (x : ℕ) → files.read_to l.files ≡ Some x
          → (y : ℕ) × (files.read_to l.fn.files ≡ Some y) × (x + sum_by (reached_of g.F.In.Source.reached) l.works.items ≡ y + sum_by (reached_of g.F.In.Source.reached) l.fn.works.items);
      told : ToldSoFar (files.counts l.fn.files) (files.counts l.files) (λ w. count_on g.F.In.Source.faults g.F.Out.Sink.faults (held_by w)) l.fn.works.items l.works.items;
      filters : StillFilters g.P.PlugFilter l.fn.works.items l.fn.places.filters.items l.works.items l.places.filters.items;
      tallies : StillTallies g.Q.PlugTally l.fn.works.items l.fn.places.tallies.items l.works.items l.places.tallies.items;
      released : Released g.F.In.Source.faults g.F.Out.Sink.faults l.fn.works.items l.works.items (files.faults l.fn.files) (files.faults l.files);
    }

abbrev pub decreases-loop-work : goal.decreases-loop-work
decreases-loop-work g l = vec_len l.works
