-- What a caller hands in: filters and tallies, each in a place and with a name.
use Rattle.std.specs.Prelude.{◌≡◌, ℕ, ◌+◌, List, [], ◌∷◌, Option, Some, None, get_or, set, bytes_eq, if◌then◌else◌}
use Rattle.std.specs.Option.{option_map}
use Rattle.cloud_points.specs.Meaning.{Nature}
use Rattle.cloud_points.specs.declared.point.Point.{Point}
use Rattle.plug_stages.specs.declared.filter.PlugFilter as filter
use Rattle.plug_stages.specs.declared.places.Places.{Places}
use Rattle.plug_stages.specs.declared.tally.PlugTally as tally

-- what they are, as far as no call changes it, by their places; an empty place has none
pub record Handed : Type 0 where
  pub filters : List (Option (Nature Point))
  pub tallies : List (Option (Nature Point))

-- nothing
abbrev pub none_handed : Handed
none_handed = record { filters = []; tallies = [] }

-- the first one of this name
abbrev pub named_in : List (Option (Nature Point)) → List ℕ → Option (Nature Point)
named_in [] name = None
named_in (None ∷ ns) name = named_in ns name
named_in (Some n ∷ ns) name = if bytes_eq n.called name then Some n else named_in ns name

abbrev pub filter_nature : {P : Type 0} → filter.Ghosts P → ℕ → P → Nature Point
filter_nature plug place p = record { place = place; called = plug.called p; opening = plug.opening p; step = plug.step p; text = λ s. [] }

abbrev pub tally_nature_at : {T : Type 0} → tally.Ghosts T → ℕ → T → Nature Point
tally_nature_at tally place t = record { place = place; called = tally.called t; opening = tally.opening t; step = λ s p. (tally.step t s p, Some p); text = tally.text t }

-- those of places, from this place on
abbrev pub natures_from : {X : Type 0} → (ℕ → X → Nature Point) → ℕ → List (Option X) → List (Option (Nature Point))
natures_from nature place [] = []
natures_from nature place (o ∷ os) = option_map (nature place) o ∷ natures_from nature (place + 1) os

-- those of what a caller's places hold
abbrev pub handed_by : {P Q : Type 0} → filter.Ghosts P → tally.Ghosts Q → Places P Q → Handed
handed_by fs ts places = record { filters = natures_from (filter_nature fs) 0 places.filters.items; tallies = natures_from (tally_nature_at ts) 0 places.tallies.items }

-- ---- places

-- what stands in a place
abbrev pub at_place : {X : Type 0} → List (Option X) → ℕ → Option X
at_place places i = get_or places i None

-- x was taken out of this place, the first one of this name
pub record IsTaken {X : Type 0} (nature : ℕ → X → Nature Point) (name : List ℕ) (old new : List (Option X)) (at : ℕ) (x : X) : Type 0 where
  pub there : at_place old at ≡ Some x
  pub named : named_in (natures_from nature 0 old) name ≡ Some (nature at x)
  pub left : new ≡ set old at None
