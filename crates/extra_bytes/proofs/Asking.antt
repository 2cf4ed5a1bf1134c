-- Fields that are asked for, one after another.
use Rattle.std.proofs.Common.{◌≡◌, drop-cons, length-append, ℕ, suc, ◌+◌, ◌*◌, ◌≤◌, ◌<◌, Bool, true, false, List, [], ◌∷◌, ◌++◌, drop, length, get_or, None, cond, ap, sym, ◌∙◌, arith}
use Rattle.std.proofs.lemmas.List.{append_assoc}
use Rattle.cloud_points.specs.ExtraFields.{kind_size}
use Rattle.cloud_points.specs.declared.dims.Dim.{Dim}
use Rattle.cloud_points.specs.declared.dims.Dim.TheVariants.{Extra}
use Rattle.cloud_points.specs.declared.extra.ExtraField.{ExtraField}
use Rattle.cloud_points.specs.declared.extra.ExtraKind.TheVariants.{I64}
use Rattle.option_texts.specs.declared.extra_dims.NamedField.{NamedField}
use Rattle.stage_names.specs.Faults.{or_else}
use Rattle.extra_bytes.specs.Asked.{all_from, asked_fault, asked_field, asked_fields, field_unknown}

-- behind these fields, of k that were asked for, come those of the others
pub record Asking (i : ℕ) (held : Dim → Bool) (names : List (List ℕ)) (from : ℕ) (asked : List NamedField) (k at : ℕ) (done : List ExtraField) : Type 0 where
  pub fields_are : done ++ asked_fields names at (drop k asked) ≡ asked_fields names from asked
  pub fault_is : asked_fault i held names (drop k asked) ≡ asked_fault i held names asked
  pub near : at ≤ from + 8 * k

pub ask_on : {i : ℕ} {held : Dim → Bool} {names : List (List ℕ)} {from : ℕ} {asked : List NamedField} {k at : ℕ} {done : List ExtraField} → Asking i held names from asked k at done → (f : NamedField) (bound : ExtraField) (after : List ExtraField)
    → k < length asked → f ≡ get_or asked k f → bound ≡ asked_field names at f → field_unknown i held names f ≡ None → kind_size bound.kind ≤ 8 → after ≡ done ++ bound ∷ []
    → Asking i held names from asked (k + 1) (at + kind_size bound.kind) after
ask_on {i} {held} {names} {from} {asked} {k} {at} {done} h f bound after inside here bound_is known small after_is = record {
  fields_are = ap (λ d. d ++ asked_fields names (at + kind_size bound.kind) rest) after_is ∙ append_assoc done (bound ∷ []) (asked_fields names (at + kind_size bound.kind) rest)
      ∙ ap (λ (b : ExtraField). done ++ b ∷ asked_fields names (at + kind_size b.kind) rest) bound_is ∙ sym (ap (λ fs. done ++ asked_fields names at fs) split) ∙ h.fields_are;
  fault_is = sym (ap (λ o. or_else o (asked_fault i held names rest)) known) ∙ sym (ap (asked_fault i held names) split) ∙ h.fault_is;
  near = (let n = h.near in omega (arith, n, small));
}
  where
    rest : List NamedField
    rest = drop (k + 1) asked

    split : drop k asked ≡ f ∷ rest
    split = drop-cons asked k f inside ∙ ap (λ g. g ∷ drop (suc k) asked) (sym here) ∙ ap (λ n. f ∷ drop n asked) {x = suc k} {y = k + 1} (omega arith)

-- behind these come those of the names from place k on
pub record Gathering (held : Dim → Bool) (names : List (List ℕ)) (k : ℕ) (done : List NamedField) : Type 0 where
  pub fields_are : done ++ all_from k held (drop k names) ≡ all_from 0 held names
  pub few : length done ≤ k

module _ {held : Dim → Bool} {names : List (List ℕ)} {k : ℕ} {done : List NamedField} (h : Gathering held names k done) (name : List ℕ) (inside : k < length names) (here : name ≡ get_or names k name) where
  abbrev rest : List (List ℕ)
  rest = drop (k + 1) names

  abbrev pub whole_field : NamedField
  whole_field = record { name = name; kind = I64; places = 9 }

  from-here : (b : Bool) → held (Extra k) ≡ b → all_from k held (drop k names) ≡ cond b (whole_field ∷ all_from (k + 1) held rest) (all_from (k + 1) held rest)
  from-here b e = ap (all_from k held) split ∙ ap (λ b. cond b (whole_field ∷ all_from (k + 1) held rest) (all_from (k + 1) held rest)) e
    where
      split : drop k names ≡ name ∷ drop (k + 1) names
      split = drop-cons names k name inside ∙ ap (λ g. g ∷ drop (suc k) names) (sym here) ∙ ap (λ n. name ∷ drop n names) {x = suc k} {y = k + 1} (omega arith)

  pub gather_on : (after : List NamedField) → held (Extra k) ≡ true → after ≡ done ++ whole_field ∷ [] → Gathering held names (k + 1) after
  gather_on after e after_is = record {
    fields_are = ap (λ d. d ++ all_from (k + 1) held rest) after_is ∙ append_assoc done (whole_field ∷ []) (all_from (k + 1) held rest) ∙ sym (ap (λ fs. done ++ fs) (from-here true e)) ∙ h.fields_are;
    few = (let n = h.few in let size = ap (λ (xs : List NamedField). length xs) after_is ∙ length-append done (whole_field ∷ []) in omega (arith, n, size));
  }

  pub gather_past : held (Extra k) ≡ false → Gathering held names (k + 1) done
  gather_past e = record {
    fields_are = sym (ap (λ fs. done ++ fs) (from-here false e)) ∙ h.fields_are;
    few = (let n = h.few in omega (arith, n));
  }
