-- What works hold of a caller's, in the order in which they are kept, and once views were taken out of them.
use Rattle.std.proofs.Common.{◌≡◌, ℕ, Bool, List, [], ◌∷◌, ◌++◌, map, reverse, Option, refl, ap, subst, sym, ◌∙◌}
use Rattle.std.proofs.lemmas.List.{map-append, reverse-append}
use Rattle.held_devices.specs.Handing.{FiltersOut, TalliesOut}
use Rattle.plug_stages.proofs.Out.{reversed}
use Rattle.plug_stages.specs.Handed.{filter_nature, tally_nature_at}
use Rattle.plug_stages.specs.Out.{AreOut}
use Rattle.plug_stages.specs.declared.filter.PlugFilter as plug_type
use Rattle.plug_stages.specs.declared.tally.PlugTally as tally_type
use Rattle.stage_forms.proofs.Out.{map-same}
use Rattle.stage_forms.specs.Later.{AreLater}
use Rattle.stage_kinds.specs.Held.{filter_in, tally_in}
use Rattle.stage_kinds.specs.declared.stage_work.StageWork.{StageWork}

map-turned : {A B : Type 0} (f : A → B) (xs : List A) → map f (reverse xs) ≡ reverse (map f xs)
map-turned f [] = refl
map-turned f (x ∷ xs) = ap (map f) (reverse-append (x ∷ []) xs) ∙ map-append f (reverse xs) (x ∷ [])
    ∙ ap (λ ys. ys ++ f x ∷ []) (map-turned f xs) ∙ sym (reverse-append (f x ∷ []) (map f xs))

-- where the works stand the other way round
module _ {S K P Q : Type 0} (works turned : List (StageWork S K P Q)) (is : turned ≡ reverse works) (used : ℕ → Bool) where
  pub filters-turned : (fs : plug_type.Ghosts P) (before now : List (Option P)) → FiltersOut fs used works before now → FiltersOut fs used turned before now
  filters-turned fs before now are = subst (λ out. AreOut (filter_nature fs) used out before now)
      (sym (ap (map (filter_in fs)) is ∙ map-turned (filter_in fs) works)) (reversed (filter_nature fs) used are)

  pub tallies-turned : (ts : tally_type.Ghosts Q) (before now : List (Option Q)) → TalliesOut ts used works before now → TalliesOut ts used turned before now
  tallies-turned ts before now are = subst (λ out. AreOut (tally_nature_at ts) used out before now)
      (sym (ap (map (tally_in ts)) is ∙ map-turned (tally_in ts) works)) (reversed (tally_nature_at ts) used are)

-- of the same works later
module _ {S K P Q : Type 0} (fs : plug_type.Ghosts P) (ts : tally_type.Ghosts Q) (faults : StageWork S K P Q → ℕ) (old new : List (StageWork S K P Q)) (later : AreLater fs ts faults old new) (used : ℕ → Bool) where
  pub filters-later : (before now : List (Option P)) → FiltersOut fs used old before now → FiltersOut fs used new before now
  filters-later before now are = subst (λ out. AreOut (filter_nature fs) used out before now)
      (sym (map-same (filter_in fs) old new later.count (λ i v w e f. (later.same i v w e f).0))) are

  pub tallies-later : (before now : List (Option Q)) → TalliesOut ts used old before now → TalliesOut ts used new before now
  tallies-later before now are = subst (λ out. AreOut (tally_nature_at ts) used out before now)
      (sym (map-same (tally_in ts) old new later.count (λ i v w e f. (later.same i v w e f).1))) are
