-- Views are taken out of works, one work after the other.
use Rattle.std.proofs.Common.{◌≡◌, ℕ, ◌+◌, List, [], ◌∷◌, ◌++◌, length, drop, map, slice_get, Option, Some, None, refl, ap, sym, ◌∙◌, inl, inr}
use Rattle.std.specs.Prelude.{option_map, slice_set}
use Rattle.std.proofs.lemmas.Bool.Decides.{eqb_tells}
use Rattle.std.proofs.lemmas.List.{append_assoc, append-nil, map-append}
use Rattle.std.proofs.lemmas.Option.{none-some, same_Some, slice_get_within}
use Rattle.circular_buffer.proofs.Places.{slice_get-set_same, slice_get-set_other}
use Rattle.stage_kinds.specs.declared.stage_work.StageWork.{StageWork}
use Rattle.stage_kinds.specs.declared.view_files.ViewFiles.{ViewFiles}
use Rattle.stage_kinds.specs.Stages.{keeps_of}
use Rattle.stage_kinds.proofs.Judged.{drop-at}
use Rattle.run_ending.specs.declared.views.EachStage.{EachStage}
use Rattle.run_ending.specs.Each.{kept_at, kept_from, shown_each, shown_files}

nothing-shown : (o : Option ViewFiles) → option_map shown_files o ≡ None → o ≡ None
nothing-shown None e = refl
nothing-shown (Some t) e = absurd (none-some _ (sym e))

module _ {S K P Q : Type 0} (old now : List (StageWork S K P Q)) (i : ℕ) (v w : StageWork S K P Q) (was : slice_get old i ≡ Some v) (here : slice_get now i ≡ Some v)
    (o : Option ViewFiles) (kept : option_map shown_files o ≡ keeps_of v) (same : o ≡ None → w ≡ v) where
  -- a work that keeps nothing stays
  pub others-more : ((k : ℕ) (x : StageWork S K P Q) → slice_get old k ≡ Some x → keeps_of x ≡ None → slice_get now k ≡ Some x)
      → (k : ℕ) (x : StageWork S K P Q) → slice_get old k ≡ Some x → keeps_of x ≡ None → slice_get (slice_set now i w) k ≡ Some x
  others-more before k x e none = elim (eqb_tells k i) [
    | inl p ↦ (
        let is : v ≡ x = same_Some v x (sym was ∙ ap (slice_get old) (sym p.1) ∙ e) in
        let stays : w ≡ v = same (nothing-shown o (kept ∙ ap keeps_of is ∙ none)) in
        ap (slice_get (slice_set now i w)) p.1 ∙ slice_get-set_same now i w (slice_get_within now i v here) ∙ ap Some (stays ∙ is))
    | inr p ↦ slice_get-set_other now i k w p.1 ∙ before k x e none
  ]

module _ {S K P Q : Type 0} (works : List (StageWork S K P Q)) (i : ℕ) (w : StageWork S K P Q) (at : slice_get works i ≡ Some w) (each : List EachStage)
    (before : map shown_each each ++ kept_from i (drop i works) ≡ kept_from 0 works) where
  step : (o : Option ViewFiles) → option_map shown_files o ≡ keeps_of w → map shown_each each ++ (kept_at i (option_map shown_files o) ++ kept_from (i + 1) (drop (i + 1) works)) ≡ kept_from 0 works
  step o kept = ap (λ ks. map shown_each each ++ (kept_at i ks ++ kept_from (i + 1) (drop (i + 1) works))) kept ∙ ap (λ ws. map shown_each each ++ kept_from i ws) (sym (drop-at works i w at)) ∙ before

  -- nothing is taken of the next one
  pub none-taken : (o : Option ViewFiles) → option_map shown_files o ≡ keeps_of w → o ≡ None → map shown_each each ++ kept_from (i + 1) (drop (i + 1) works) ≡ kept_from 0 works
  none-taken o kept none = step None (ap (option_map shown_files) (sym none) ∙ kept)

  -- its views are
  pub one-taken : (o : Option ViewFiles) → option_map shown_files o ≡ keeps_of w → (e : EachStage) → e.stage ≡ i → o ≡ Some e.files → map shown_each (each ++ e ∷ []) ++ kept_from (i + 1) (drop (i + 1) works) ≡ kept_from 0 works
  one-taken o kept e stage some =
      ap (λ ks. ks ++ kept_from (i + 1) (drop (i + 1) works)) (map-append shown_each each (e ∷ []))
      ∙ append_assoc (map shown_each each) (shown_each e ∷ []) (kept_from (i + 1) (drop (i + 1) works))
      ∙ ap (λ j. map shown_each each ++ ((j, shown_files e.files) ∷ kept_from (i + 1) (drop (i + 1) works))) stage
      ∙ step (Some e.files) (ap (option_map shown_files) (sym some) ∙ kept)

-- those of all works were taken
pub all-taken : {S K P Q : Type 0} (works : List (StageWork S K P Q)) (i : ℕ) (each : List EachStage) → i ≡ length works → map shown_each each ++ kept_from i (drop i works) ≡ kept_from 0 works → map shown_each each ≡ kept_from 0 works
all-taken works i each all kept = sym (append-nil (map shown_each each)) ∙ ap (λ ws. map shown_each each ++ kept_from i ws) (sym (ap (λ n. drop n works) all ∙ past works)) ∙ kept
  where
    past : {A : Type 0} (xs : List A) → drop (length xs) xs ≡ []
    past [] = refl
    past (x ∷ xs) = past xs
