-- What works hold of the caller's is put back into its places.
use Rattle.std.specs.Prelude.{◌≡◌, List, fold, Option}
use Rattle.held_devices.specs.Handing.{with_filter, with_tally}
use Rattle.plug_stages.specs.declared.places.Places.{Places}
use Rattle.stage_kinds.specs.Held.{held_by}
use Rattle.stage_kinds.specs.declared.stage_work.StageWork.{StageWork}

module _ {S K P Q : Type 0} where
  -- the places of filters, and of tallies, with what these works held, one after the other
  abbrev pub with_filters : List (StageWork S K P Q) → List (Option P) → List (Option P)
  with_filters works places = fold (λ now work. with_filter (held_by work) now) places works

  abbrev pub with_tallies : List (StageWork S K P Q) → List (Option Q) → List (Option Q)
  with_tallies works places = fold (λ now work. with_tally (held_by work) now) places works

  -- each is in its place, as it is then, and no other place changed
  pub record ArePut (works : List (StageWork S K P Q)) (old new : Places P Q) : Type 0 where
    pub filters : new.filters.items ≡ with_filters works old.filters.items
    pub tallies : new.tallies.items ≡ with_tallies works old.tallies.items
