-- What works hold of a caller's is put back into its place.
use Rattle.std.specs.Prelude.{ℕ, Bool, List, [], map, set, Option, Some}
use Rattle.plug_stages.specs.Handed.{filter_nature, tally_nature_at}
use Rattle.plug_stages.specs.Out.{AreOut}
use Rattle.plug_stages.specs.declared.filter.PlugFilter as filter
use Rattle.plug_stages.specs.declared.tally.PlugTally as tally
use Rattle.stage_kinds.specs.declared.held.Held.{Held}
use Rattle.stage_kinds.specs.declared.held.Held.TheVariants.{Filter, Tally}
use Rattle.stage_kinds.specs.declared.stage_work.StageWork.{StageWork}
use Rattle.stage_kinds.specs.Held.{filter_in, tally_in}

module _ {S K P Q : Type 0} where
  -- the places of filters, and of tallies, with what a work held
  abbrev pub with_filter : Held S K P Q → List (Option P) → List (Option P)
  with_filter (Filter p at) places = set places at (Some p)
  with_filter _ places = places

  abbrev pub with_tally : Held S K P Q → List (Option Q) → List (Option Q)
  with_tally (Tally q at) places = set places at (Some q)
  with_tally _ places = places

  -- what these works hold is out of the places, each of which is used, and nothing else is
  abbrev pub FiltersOut : filter.Ghosts P → (ℕ → Bool) → List (StageWork S K P Q) → List (Option P) → List (Option P) → Type 0
  FiltersOut filters used works before now = AreOut (filter_nature filters) used (map (filter_in filters) works) before now

  abbrev pub TalliesOut : tally.Ghosts Q → (ℕ → Bool) → List (StageWork S K P Q) → List (Option Q) → List (Option Q) → Type 0
  TalliesOut tallies used works before now = AreOut (tally_nature_at tallies) used (map (tally_in tallies) works) before now
