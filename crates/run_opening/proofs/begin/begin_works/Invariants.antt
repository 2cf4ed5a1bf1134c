use Rattle.std.proofs.Common.{◌≡◌, ◌≤◌, ◌+◌, ℕ, length, drop, reverse, vec_len}
use Rattle.std.specs.Prelude.{slice_get, vec_capacity}
use Rattle.plug_stages.specs.Handed.{filter_nature, handed_by, tally_nature_at}
use Rattle.stage_forms.specs.Out.{AreTakenOut}
use Rattle.stage_forms.specs.Starts.{AreHandedIn}
use Rattle.stage_options.specs.Roles.{plug_of, tally_of}
use Rattle.run_opening.proofs.Taken.{AreStill}
use Rattle.run_opening.specs.Begun.{AreBegun}
use Rattle.held_devices.specs.Holding.{all_there, all_held}
use Rattle.run_opening.proofs.begin.begin_works.Given as goal

abbrev pub invariant-loop-reader : goal.invariant-loop-reader
invariant-loop-reader g l =
    let files = g.F.Files in
    record {
      left : reverse l.readers.items ≡ drop l.at l.fn.readers.items;
      count : l.at + vec_len l.readers ≡ length l.fn.readers.items;
      begun : AreBegun g.F.In.Source g.F.Out.Sink (files.map l.fn.files) l.stages l.fn.readers.items l.fn.bound.forms.items l.fn.bound.layouts.items l.works.items;
      handed : AreHandedIn g.P.PlugFilter g.Q.PlugTally l.stages l.works.items (handed_by g.P.PlugFilter g.Q.PlugTally l.fn.places);
      out : AreTakenOut g.P.PlugFilter g.Q.PlugTally l.stages l.fn.places l.works.items l.places;
      filters : AreStill (filter_nature g.P.PlugFilter) plug_of l.stages l.fn.places.filters.items l.places.filters.items l.at;
      tallies : AreStill (tally_nature_at g.Q.PlugTally) tally_of l.stages l.fn.places.tallies.items l.places.tallies.items l.at;
      forms : length l.forms.items ≡ length l.stages;
      left_forms : (j : ℕ) → l.at ≤ j → slice_get l.forms.items j ≡ slice_get l.fn.bound.forms.items j;
      works : vec_len l.works ≡ l.at;
      room : length l.stages ≤ vec_capacity l.works;
      map : files.map l.files ≡ files.map l.fn.files;
      lent : files.lent l.files + all_there l.fn.readers.items ≡ files.lent l.fn.files + all_there l.readers.items + all_held l.works.items;
      read : files.read_to l.files ≡ files.read_to l.fn.files;
      counts : files.counts l.files ≡ files.counts l.fn.files;
      later : files.faults l.fn.files ≤ files.faults l.files;
    }

abbrev pub decreases-loop-reader : goal.decreases-loop-reader
decreases-loop-reader g l = vec_len l.readers
