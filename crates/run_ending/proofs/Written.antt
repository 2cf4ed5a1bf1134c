-- The files of views are written, those of one stage after the other.
use Rattle.std.proofs.Common.{◌≡◌, ℕ, zero, suc, ◌+◌, ◌≤◌, true, List, [], ◌∷◌, ◌++◌, length, map, reverse, slice_get, Option, Some, None, is_some, not, refl, ap, sym, subst, ◌∙◌, arith}
use Rattle.std.specs.Prelude.{flat_map}
use Rattle.std.proofs.lemmas.Grind.{flat_map-append}
use Rattle.std.proofs.lemmas.List.{append_assoc, append-nil, map-append, reverse-append, reverse-reverse}
use Rattle.std.proofs.lemmas.Option.{none-some, same_Some}
use Rattle.file_devices.specs.Counts.{Rose}
use Rattle.file_devices.specs.Named.{Names}
use Rattle.cloud_points.specs.declared.point.Point.{Point}
use Rattle.cloud_points.specs.Flows.{Flow}
use Rattle.cloud_points.specs.Events.{first_fault}
use Rattle.stage_meanings.specs.Conditions.{passes}
use Rattle.stage_meanings.specs.Filters.{first_from, found, is_true, positions, refusal_in_views, refused_by}
use Rattle.stage_meanings.proofs.Streams.{first-append}
use Rattle.stage_kinds.specs.declared.file_form.Writing.{Writing}
use Rattle.stage_kinds.specs.Files.{unwritten}
use Rattle.stage_kinds.specs.Stages.{stops_nowhere}
use Rattle.stage_options.specs.Roles.{Role}
use Rattle.stage_options.specs.declared.stage.StageSpec.{StageSpec}
use Rattle.run_report.specs.declared.refusal.Refusal.{Refusal}
use Rattle.answer_model.specs.Values.{Output, role_at}
use Rattle.run_outcome.specs.Cause.{WerePut}
use Rattle.run_ending.specs.declared.views.EachStage.{EachStage}
use Rattle.run_ending.specs.Each.{BrokeOffAt, Stops, all_files, each_files, kept_files, shown_each}
use Rattle.run_ending.proofs.Each.{more-put, none-put, stops-among}

-- ---- the views of a stage

-- where none of the points of views is refused, none of those of one is
module _ {P R : Type 0} (why : P → Option R) where
  again : (n m : ℕ) (xs : List P) → first_from why n xs ≡ None → first_from why m xs ≡ None
  again n m [] e = refl
  again n m (x ∷ xs) e = go (why x) (again (n + 1) (m + 1) xs) e
    where
      go : (o : Option R) → (first_from why (n + 1) xs ≡ None → first_from why (m + 1) xs ≡ None) → found n o (first_from why (n + 1) xs) ≡ None → found m o (first_from why (m + 1) xs) ≡ None
      go None rest f = rest f
      go (Some r) rest f = absurd (none-some _ (sym f))

  both-none : (a b : Option (ℕ × R)) → first_fault a b ≡ None → (a ≡ None) × (b ≡ None)
  both-none None b e = (refl, e)
  both-none (Some s) b e = absurd (none-some _ (sym e))

  none-in : {V : Type 0} (each : V → List P) (n : ℕ) (vs : List V) (k : ℕ) (v : V) → first_from why n (flat_map each vs) ≡ None → slice_get vs k ≡ Some v → first_from why 0 (each v) ≡ None
  none-in each n [] k v none at = absurd (none-some _ at)
  none-in each n (w ∷ vs) zero v none at =
      again n 0 (each v) (ap (λ u. first_from why n (each u)) (sym (same_Some w v at)) ∙ (both-none (first_from why n (each w)) (first_from why (n + length (each w)) (flat_map each vs)) (sym (first-append why n (each w) (flat_map each vs)) ∙ none)).0)
  none-in each n (w ∷ vs) (suc k) v none at = none-in each (n + length (each w)) vs k v ((both-none (first_from why n (each w)) (first_from why (n + length (each w)) (flat_map each vs)) (sym (first-append why n (each w) (flat_map each vs)) ∙ none)).1) at

pub nowhere-in : (x : Writing) (flow : Flow Point) → refusal_in_views (unwritten x.form) (passes x.only) flow ≡ None → (k : ℕ) (v : List Point) → slice_get flow.views k ≡ Some v → stops_nowhere x v ≡ true
nowhere-in x flow none k v at =
    ap (λ o. not (is_some o)) (none-in (refused_by (unwritten x.form) (passes x.only)) (positions (λ p. is_true (passes x.only p)) 0) 0 flow.views k v none at)

-- ---- the stages

-- the files of the stages of which nothing is left were put
pub record Written (stages : List StageSpec) (all left : List EachStage) (old now : Option Names) : Type 0 where
  pub done : List EachStage
  pub whole : all ≡ done ++ reverse left
  pub put : WerePut old (all_files stages (map shown_each done)) now

pub none-written : (stages : List StageSpec) (all left : List EachStage) (old now : Option Names) → left ≡ reverse all → now ≡ old → Written stages all left old now
none-written stages all left old now turned same = record {
  done = [];
  whole = sym (ap reverse turned ∙ reverse-reverse all);
  put = none-put old now same;
}

pub all-written : (stages : List StageSpec) (all left : List EachStage) (old now : Option Names) → left ≡ [] → Written stages all left old now → WerePut old (all_files stages (map shown_each all)) now
all-written stages all left old now none w =
    subst (λ es. WerePut old (all_files stages (map shown_each es)) now) (sym (w.whole ∙ ap (λ es. w.done ++ reverse es) none ∙ append-nil w.done)) w.put

module _ (stages : List StageSpec) (all left rest : List EachStage) (one : EachStage) (old now : Option Names) (was : left ≡ rest ++ one ∷ []) (w : Written stages all left old now) where
  whole : all ≡ w.done ++ (one ∷ reverse rest)
  whole = w.whole ∙ ap (λ es. w.done ++ es) (ap reverse was ∙ reverse-append rest (one ∷ []))

  -- the next one stands behind those that were written
  pub next-at : slice_get all (length w.done) ≡ Some one
  next-at = ap (λ es. slice_get es (length w.done)) whole ∙ go w.done
    where
      go : (es : List EachStage) → slice_get (es ++ (one ∷ reverse rest)) (length es) ≡ Some one
      go [] = refl
      go (e ∷ es) = go es

  module _ (new : Option Names) (role : Role) (does : role ≡ role_at stages one.stage) (lost : now ≡ None → new ≡ None) where
    abbrev here : List Output
    here = kept_files stages (shown_each one)

    -- its files were put as well
    pub one-written : WerePut now (each_files one.stage role one.files.writing one.files.views.views) new → Written stages all rest old new
    one-written put = record {
      done = w.done ++ one ∷ [];
      whole = whole ∙ sym (append_assoc w.done (one ∷ []) (reverse rest));
      put = subst (λ fs. WerePut old fs new) (sym files)
          (more-put old now new (all_files stages (map shown_each w.done)) here lost w.put (subst (λ r. WerePut now (each_files one.stage r one.files.writing one.files.views.views) new) does put));
    }
      where
        files : all_files stages (map shown_each (w.done ++ one ∷ [])) ≡ all_files stages (map shown_each w.done) ++ kept_files stages (shown_each one)
        files = ap (all_files stages) (map-append shown_each w.done (one ∷ []))
            ∙ flat_map-append (kept_files stages) (map shown_each w.done) (shown_each one ∷ [])
            ∙ ap (λ fs. all_files stages (map shown_each w.done) ++ fs) (append-nil (kept_files stages (shown_each one)))

    -- it stopped at one of them
    pub one-stops : (f0 f1 f2 : ℕ) (refusal : Refusal) → f0 ≤ f1
        → Stops (Rose f1 f2) now new one.stage one.files.writing.form (each_files one.stage role one.files.writing one.files.views.views) refusal
        → BrokeOffAt (Rose f0 f2) old new stages (map shown_each all) refusal
    one-stops f0 f1 f2 refusal low stops = record {
      place = length w.done;
      stage = one.stage;
      writing = one.files.writing;
      flow = one.files.views.views;
      of = shown (length w.done) all next-at;
      stops = subst (λ fs. Stops (Rose f0 f2) old new one.stage one.files.writing.form fs refusal) (sym files)
          (stops-among old now new f0 f1 f2 f2 one.stage one.files.writing.form (all_files stages (map shown_each w.done)) here (all_files stages (map shown_each (reverse rest))) refusal low (omega arith) lost w.put
          (subst (λ r. Stops (Rose f1 f2) now new one.stage one.files.writing.form (each_files one.stage r one.files.writing one.files.views.views) refusal) does stops));
    }
      where
        shown : (k : ℕ) (es : List EachStage) → slice_get es k ≡ Some one → slice_get (map shown_each es) k ≡ Some (shown_each one)
        shown k [] e = absurd (none-some _ e)
        shown zero (e ∷ es) at = ap (λ (d : EachStage). Some (shown_each d)) (same_Some e one at)
        shown (suc k) (e ∷ es) at = shown k es at

        files : all_files stages (map shown_each all) ≡ all_files stages (map shown_each w.done) ++ (kept_files stages (shown_each one) ++ all_files stages (map shown_each (reverse rest)))
        files = ap (λ es. all_files stages (map shown_each es)) whole
            ∙ ap (all_files stages) (map-append shown_each w.done (one ∷ reverse rest))
            ∙ flat_map-append (kept_files stages) (map shown_each w.done) (shown_each one ∷ map shown_each (reverse rest))
