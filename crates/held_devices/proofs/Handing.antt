-- The last one of some works is put back.
use Rattle.std.proofs.Common.{◌≡◌, ℕ, Bool, List, [], ◌∷◌, ◌++◌, map, Option, refl, ap, subst, sym, ◌∙◌}
use Rattle.std.proofs.lemmas.List.{map-append}
use Rattle.cloud_points.specs.Meaning.{Nature}
use Rattle.cloud_points.specs.declared.point.Point.{Point}
use Rattle.plug_stages.proofs.Out.{put-back, put-none}
use Rattle.plug_stages.specs.Handed.{filter_nature, tally_nature_at}
use Rattle.plug_stages.specs.Out.{AreOut}
use Rattle.plug_stages.specs.declared.filter.PlugFilter as filter
use Rattle.plug_stages.specs.declared.tally.PlugTally as tally
use Rattle.stage_kinds.specs.declared.stage_work.StageWork.{StageWork}
use Rattle.stage_kinds.specs.declared.stage_work.StageWork.TheVariants.{Reader, Filter, Plug, Tally, Collector, Views, ViewFiles, Writer}
use Rattle.stage_kinds.specs.Held.{filter_in, held_by, tally_in}
use Rattle.held_devices.specs.Handing.{FiltersOut, TalliesOut, with_filter, with_tally}

module _ {S K P Q : Type 0} (filters : filter.Ghosts P) (used : ℕ → Bool) (before now : List (Option P)) (rest : List (Option (Nature Point))) where
  one-filter : (w : StageWork S K P Q) → AreOut (filter_nature filters) used (rest ++ filter_in filters w ∷ []) before now → AreOut (filter_nature filters) used rest before (with_filter (held_by w) now)
  one-filter (Plug v) are = put-back (filter_nature filters) used are v.plug refl
  one-filter (Reader r) are = put-none (filter_nature filters) used are
  one-filter (Filter f) are = put-none (filter_nature filters) used are
  one-filter (Tally v) are = put-none (filter_nature filters) used are
  one-filter (Collector c) are = put-none (filter_nature filters) used are
  one-filter (Views h) are = put-none (filter_nature filters) used are
  one-filter (ViewFiles t) are = put-none (filter_nature filters) used are
  one-filter (Writer v) are = put-none (filter_nature filters) used are

module _ {S K P Q : Type 0} (tallies : tally.Ghosts Q) (used : ℕ → Bool) (before now : List (Option Q)) (rest : List (Option (Nature Point))) where
  one-tally : (w : StageWork S K P Q) → AreOut (tally_nature_at tallies) used (rest ++ tally_in tallies w ∷ []) before now → AreOut (tally_nature_at tallies) used rest before (with_tally (held_by w) now)
  one-tally (Tally v) are = put-back (tally_nature_at tallies) used are v.tally refl
  one-tally (Reader r) are = put-none (tally_nature_at tallies) used are
  one-tally (Filter f) are = put-none (tally_nature_at tallies) used are
  one-tally (Plug v) are = put-none (tally_nature_at tallies) used are
  one-tally (Collector c) are = put-none (tally_nature_at tallies) used are
  one-tally (Views h) are = put-none (tally_nature_at tallies) used are
  one-tally (ViewFiles t) are = put-none (tally_nature_at tallies) used are
  one-tally (Writer v) are = put-none (tally_nature_at tallies) used are

-- what is out of the places with some works that are left of all, where it was out with all before any was put back
abbrev pub StillFilters : {S K P Q : Type 0} → filter.Ghosts P → List (StageWork S K P Q) → List (Option P) → List (StageWork S K P Q) → List (Option P) → Type 0
StillFilters {P = P} filters all start left now = (used : ℕ → Bool) (before : List (Option P)) → FiltersOut filters used all before start → FiltersOut filters used left before now

abbrev pub StillTallies : {S K P Q : Type 0} → tally.Ghosts Q → List (StageWork S K P Q) → List (Option Q) → List (StageWork S K P Q) → List (Option Q) → Type 0
StillTallies {Q = Q} tallies all start left now = (used : ℕ → Bool) (before : List (Option Q)) → TalliesOut tallies used all before start → TalliesOut tallies used left before now

module _ {S K P Q : Type 0} (works rest : List (StageWork S K P Q)) (w : StageWork S K P Q) (last : works ≡ rest ++ w ∷ []) (used : ℕ → Bool) where
  pub filter-back : (filters : filter.Ghosts P) (before now after : List (Option P)) → after ≡ with_filter (held_by w) now → FiltersOut filters used works before now → FiltersOut filters used rest before after
  filter-back filters before now after is are = subst (AreOut (filter_nature filters) used (map (filter_in filters) rest) before) (sym is)
      (one-filter filters used before now (map (filter_in filters) rest) w
      (subst (λ out. AreOut (filter_nature filters) used out before now) (ap (map (filter_in filters)) last ∙ map-append (filter_in filters) rest (w ∷ [])) are))

  pub tally-back : (tallies : tally.Ghosts Q) (before now after : List (Option Q)) → after ≡ with_tally (held_by w) now → TalliesOut tallies used works before now → TalliesOut tallies used rest before after
  tally-back tallies before now after is are = subst (AreOut (tally_nature_at tallies) used (map (tally_in tallies) rest) before) (sym is)
      (one-tally tallies used before now (map (tally_in tallies) rest) w
      (subst (λ out. AreOut (tally_nature_at tallies) used out before now) (ap (map (tally_in tallies)) last ∙ map-append (tally_in tallies) rest (w ∷ [])) are))

-- where none is left
module _ {S K P Q : Type 0} (all left : List (StageWork S K P Q)) (none : left ≡ []) (used : ℕ → Bool) where
  pub filters-done : (filters : filter.Ghosts P) (start now before : List (Option P)) → StillFilters filters all start left now → FiltersOut filters used all before start
      → AreOut (filter_nature filters) used [] before now
  filters-done filters start now before still are = subst (λ out. FiltersOut filters used out before now) none (still used before are)

  pub tallies-done : (tallies : tally.Ghosts Q) (start now before : List (Option Q)) → StillTallies tallies all start left now → TalliesOut tallies used all before start
      → AreOut (tally_nature_at tallies) used [] before now
  tallies-done tallies start now before still are = subst (λ out. TalliesOut tallies used out before now) none (still used before are)
