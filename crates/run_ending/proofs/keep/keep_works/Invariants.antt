use Rattle.std.proofs.Common.{◌≡◌, ◌≤◌, ◌+◌, ℕ, length, drop, reverse, vec_len}
use Rattle.held_devices.proofs.Handing.{StillFilters, StillTallies}
use Rattle.held_devices.specs.Holding.{all_held}
use Rattle.run_ending.specs.Keeping.{kept_first}
use Rattle.run_ending.specs.Putting.{with_filters, with_tallies}
use Rattle.run_ending.proofs.keep.keep_works.Given as goal

abbrev pub invariant-loop-work : goal.invariant-loop-work
invariant-loop-work g l =
    let files = g.F.Files in
    record {
      left : reverse l.works.items ≡ drop l.at l.fn.works.items;
      count : l.at + vec_len l.works ≡ length l.fn.works.items;
      kept : files.map l.files ≡ kept_first g.F.Out.Sink.bytes l.at (files.map l.fn.files) l.stages l.fn.works.items;
      lent : (others : ℕ) → files.lent l.fn.files ≡ others + all_held l.fn.works.items → files.lent l.files ≡ others + all_held l.works.items;
      later : files.faults l.fn.files ≤ files.faults l.files;
      put_filters : with_filters (reverse l.works.items) l.places.filters.items ≡ with_filters l.fn.works.items l.fn.places.filters.items;
      put_tallies : with_tallies (reverse l.works.items) l.places.tallies.items ≡ with_tallies l.fn.works.items l.fn.places.tallies.items;
      filters : StillFilters g.P.PlugFilter l.fn.works.items l.fn.places.filters.items l.works.items l.places.filters.items;
      tallies : StillTallies g.Q.PlugTally l.fn.works.items l.fn.places.tallies.items l.works.items l.places.tallies.items;
    }

abbrev pub decreases-loop-work : goal.decreases-loop-work
decreases-loop-work g l = vec_len l.works
