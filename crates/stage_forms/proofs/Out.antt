-- What works hold of a caller's is back, or is still out with the same works later.
use Rattle.std.proofs.Common.{◌≡◌, ◌⊎◌, ℕ, suc, Bool, inl, inr, true, false, true≢false, List, [], ◌∷◌, length, map, slice_get, Option, Some, refl, ap, subst, sym, ◌∙◌, arith}
use Rattle.answer_model.specs.Naming.{AreBack, is_used}
use Rattle.cloud_points.specs.Meaning.{Nature}
use Rattle.cloud_points.specs.declared.point.Point.{Point}
use Rattle.plug_stages.proofs.Out.{all-back, kept-or-used}
use Rattle.plug_stages.specs.Handed.{filter_nature, handed_by, tally_nature_at}
use Rattle.plug_stages.specs.Out.{AreOut}
use Rattle.plug_stages.specs.declared.filter.PlugFilter as plug_type
use Rattle.plug_stages.specs.declared.places.Places.{Places}
use Rattle.plug_stages.specs.declared.tally.PlugTally as tally_type
use Rattle.stage_forms.specs.Out.{AreTakenOut}
use Rattle.stage_kinds.specs.Held.{HoldsSame, filter_in, tally_in}
use Rattle.stage_kinds.specs.declared.stage_work.StageWork.{StageWork}
use Rattle.stage_options.specs.Roles.{plug_of, tally_of}
use Rattle.stage_options.specs.declared.stage.StageSpec.{StageSpec}

-- lists of the same at each place
pub map-same : {A B : Type 0} (f : A → B) (xs ys : List A) → length ys ≡ length xs → ((i : ℕ) (x y : A) → slice_get xs i ≡ Some x → slice_get ys i ≡ Some y → f y ≡ f x) → map f ys ≡ map f xs
map-same f [] [] e same = refl
map-same f [] (y ∷ ys) e same = absurd (omega (arith, e))
map-same f (x ∷ xs) [] e same = absurd (omega (arith, e))
map-same f (x ∷ xs) (y ∷ ys) e same = ap (λ z. z ∷ map f ys) (same 0 x y refl refl) ∙ ap (λ zs. f x ∷ zs) (map-same f xs ys (omega (arith, e)) (λ i. same (suc i)))

-- the places that stages name
module _ {P Q : Type 0} (fs : plug_type.Ghosts P) (ts : tally_type.Ghosts Q) (stages : List StageSpec) (old : Places P Q) where
  abbrev filters_used : ℕ → Bool
  filters_used = is_used plug_of (handed_by fs ts old).filters stages

  abbrev tallies_used : ℕ → Bool
  tallies_used = is_used tally_of (handed_by fs ts old).tallies stages

-- a place that isn't used holds what it held
kept-unless : {X : Type 0} {held : X} {now : X} (used : Bool) → (now ≡ held) ⊎ (used ≡ true) → used ≡ false → now ≡ held
kept-unless used (inl same) other = same
kept-unless used (inr is) other = absurd (true≢false (sym is ∙ other))

module _ {S K P Q : Type 0} (fs : plug_type.Ghosts P) (ts : tally_type.Ghosts Q) (stages : List StageSpec) (old : Places P Q) where
  -- once none is out, what was handed in is back
  pub taken-back : (now : Places P Q) → AreTakenOut {S = S} {K = K} {P = P} {Q = Q} fs ts stages old [] now → AreBack fs ts stages old now
  taken-back now are = record {
    same = ap (λ (ns : List (Option (Nature Point))). record (handed_by fs ts now) { filters = ns }) (all-back (filter_nature fs) (filters_used fs ts stages old) are.filters)
        ∙ ap (λ (ns : List (Option (Nature Point))). record (handed_by fs ts old) { tallies = ns }) (all-back (tally_nature_at ts) (tallies_used fs ts stages old) are.tallies);
    filters = λ k other. kept-unless (filters_used fs ts stages old k) (kept-or-used (filter_nature fs) (filters_used fs ts stages old) are.filters k) other;
    tallies = λ k other. kept-unless (tallies_used fs ts stages old k) (kept-or-used (tally_nature_at ts) (tallies_used fs ts stages old) are.tallies k) other;
  }

  -- what is out with works is out with them later
  pub taken-later : (works later : List (StageWork S K P Q)) (now : Places P Q) → AreTakenOut fs ts stages old works now → length later ≡ length works
      → ((i : ℕ) (v w : StageWork S K P Q) → slice_get works i ≡ Some v → slice_get later i ≡ Some w → HoldsSame fs ts v w) → AreTakenOut fs ts stages old later now
  taken-later works later now are count same = record {
    filters = subst (λ out. AreOut (filter_nature fs) (filters_used fs ts stages old) out old.filters.items now.filters.items)
        (sym (map-same (filter_in fs) works later count (λ i v w e f. (same i v w e f).0))) are.filters;
    tallies = subst (λ out. AreOut (tally_nature_at ts) (tallies_used fs ts stages old) out old.tallies.items now.tallies.items)
        (sym (map-same (tally_in ts) works later count (λ i v w e f. (same i v w e f).1))) are.tallies;
  }
