-- Fields get their places one after the other.
use Rattle.std.proofs.Common.{◌≡◌, drop-cons, ℕ, zero, suc, ◌+◌, List, [], ◌∷◌, ◌++◌, take, drop, length, get_or, ◌<◌, None, Result, Ok, Err, OnErr, ◌⊎◌, inl, inr, ap, sym, ◌∙◌, arith}
use Rattle.cloud_points.specs.ExtraNames.{added}
use Rattle.cloud_points.specs.declared.extra.ExtraField.{ExtraField}
use Rattle.std.proofs.lemmas.List.{append_assoc}
use Rattle.extra_bytes.specs.Bound.{bound_field, bound_fields, field_fault, fields_fault, names_with}
use Rattle.stage_names.specs.Faults.{or_else}

-- from field k on, with these names and behind these fields, comes what comes of all
pub record Going (i : ℕ) (names : List (List ℕ)) (found : List ExtraField) (k : ℕ) (now : List (List ℕ)) (done : List ExtraField) : Type 0 where
  pub names_are : names_with now (drop k found) ≡ names_with names found
  pub fields_are : done ++ bound_fields now (drop k found) ≡ bound_fields names found
  pub fault_is : fields_fault i now (drop k found) ≡ fields_fault i names found
  pub so_far : now ≡ names_with names (take k found)

-- the names with that of one field more
pub names_next : (names : List (List ℕ)) (found : List ExtraField) (k : ℕ) (f : ExtraField) → k < length found → f ≡ get_or found k f → names_with names (take (k + 1) found) ≡ added f.name (names_with names (take k found))
names_next names found k f inside here = ap (λ n. names_with names (take n found)) {x = k + 1} {y = suc k} (omega arith) ∙ go names found k inside here
  where
    go : (names : List (List ℕ)) (found : List ExtraField) (k : ℕ) → k < length found → f ≡ get_or found k f → names_with names (take (suc k) found) ≡ added f.name (names_with names (take k found))
    go names [] k inside here = absurd (omega (arith, inside))
    go names (g ∷ fs) zero inside here = ap (λ x. added x.name names) (sym here)
    go names (g ∷ fs) (suc k) inside here = go (added g.name names) fs k (omega (arith, inside)) here

-- one field more
pub going_on : {i : ℕ} {names : List (List ℕ)} {found : List ExtraField} {k : ℕ} {now : List (List ℕ)} {done : List ExtraField} → Going i names found k now done → (f bound : ExtraField) (next : List (List ℕ)) (after : List ExtraField) → k < length found → f ≡ get_or found k f
    → next ≡ added f.name now → bound ≡ bound_field now f → field_fault i now f ≡ None → after ≡ done ++ bound ∷ [] → Going i names found (k + 1) next after
going_on {i} {names} {found} {k} {now} {done} h f bound next after inside here next_is bound_is sound after_is = record {
  names_are = ap (λ n. names_with n rest) next_is ∙ sym (ap (names_with now) split) ∙ h.names_are;
  fields_are = ap (λ d. d ++ bound_fields next rest) after_is ∙ append_assoc done (bound ∷ []) (bound_fields next rest) ∙ ap (λ b. done ++ b ∷ bound_fields next rest) bound_is
      ∙ ap (λ n. done ++ bound_field now f ∷ bound_fields n rest) next_is ∙ sym (ap (λ fs. done ++ bound_fields now fs) split) ∙ h.fields_are;
  fault_is = ap (λ n. fields_fault i n rest) next_is ∙ sym (ap (λ o. or_else o (fields_fault i (added f.name now) rest)) sound) ∙ sym (ap (fields_fault i now) split) ∙ h.fault_is;
  so_far = next_is ∙ ap (added f.name) h.so_far ∙ sym (names_next names found k f inside here);
}
  where
    rest : List ExtraField
    rest = drop (k + 1) found

    split : drop k found ≡ f ∷ rest
    split = drop-cons found k f inside ∙ ap (λ g. g ∷ drop (suc k) found) (sym here) ∙ ap (λ n. f ∷ drop n found) {x = suc k} {y = k + 1} (omega arith)

-- after an error the names are those with the first fields' names
pub part_bound : {T E : Type 0} (r : Result T E) (names : List (List ℕ)) (found : List ExtraField) (k : ℕ) (f : ExtraField) (before after : List (List ℕ)) → before ≡ names_with names (take k found) → k < length found → f ≡ get_or found k f
    → (after ≡ before) ⊎ (after ≡ added f.name before) → OnErr r ((n : ℕ) × (after ≡ names_with names (take n found)))
part_bound (Ok x) names found k f before after so inside here h = tt
part_bound (Err e) names found k f before after so inside here (inl h) = (k, h ∙ so)
part_bound (Err e) names found k f before after so inside here (inr h) = (k + 1, h ∙ ap (added f.name) so ∙ sym (names_next names found k f inside here))
