-- The kept files are the outputs, put under their names.
use Rattle.std.proofs.Common.{◌≡◌, ◌⊎◌, ℕ, zero, suc, ◌+◌, ◌≤◌, ◌<◌, true, List, [], ◌∷◌, ◌++◌, length, slice_get, Option, Some, None, refl, ap, sym, subst, ◌∙◌, inl, inr, arith}
use Rattle.std.specs.Prelude.{flat_map}
use Rattle.std.specs.List.{range_with_len}
use Rattle.std.proofs.lemmas.Grind.{flat_map-append}
use Rattle.std.proofs.lemmas.List.{append-nil, append_assoc}
use Rattle.network_core.proofs.Opened.{some_at}
use Rattle.file_devices.specs.Named.{Names, put, kept}
use Rattle.file_devices.specs.Told.{IsAsTold}
use Rattle.stage_kinds.specs.declared.stage_work.StageWork.{StageWork}
use Rattle.stage_kinds.specs.Held.{told_by}
use Rattle.stage_options.specs.Roles.{Role, Reads, Filters, Gathers, Writes, WritesEach, is_writing}
use Rattle.stage_options.specs.declared.stage.StageSpec.{StageSpec}
use Rattle.answer_model.specs.Values.{Opened, Output, role_at, row_at, written, written_at, output_at}
use Rattle.answer_model.specs.Runs.{put_all}
use Rattle.run_outcome.specs.Cause.{WerePut}
use Rattle.run_ending.specs.Keeping.{kept_one, kept_if, kept_first}

kept_told : (m : Names) (name text : List ℕ) (old : Option Names) (sink : Option (List ℕ)) → IsAsTold old (Some m) → IsAsTold sink (Some text) → IsAsTold (kept old name sink) (Some (put m name text))
kept_told m name text None sink first told = λ x e. cc
kept_told m name text (Some n) None first told = λ x e. cc
kept_told m name text (Some n) (Some b) first told = λ x e.
    let a : Some m ≡ Some n = first n refl in
    let d : Some text ≡ Some b = told b refl in
    let f : m ≡ n = cc in
    let h : text ≡ b = cc in
    ap (λ y. Some (put y name text)) f ∙ ap (λ y. Some (put n name y)) h ∙ e

put_append : (m : Names) (xs ys : List Output) → put_all m (xs ++ ys) ≡ put_all (put_all m xs) ys
put_append m [] ys = refl
put_append m (x ∷ xs) ys = put_append (put m x.name x.bytes) xs ys

range-more : (a n : ℕ) → range_with_len a (suc n) ≡ range_with_len a n ++ (a + n) ∷ []
range-more a zero = ap (λ x. x ∷ []) (omega arith)
range-more a (suc n) = ap (λ xs. a ∷ xs) (range-more (a + 1) n ∙ ap (λ x. range_with_len (a + 1) n ++ x ∷ []) (omega arith))

-- the outputs of the first so many stages
abbrev pub outputs_below : List StageSpec → Opened → ℕ → List Output
outputs_below stages opened n = flat_map (output_at stages opened) (range_with_len 0 n)

pub below-more : (stages : List StageSpec) (opened : Opened) (n : ℕ) → outputs_below stages opened (suc n) ≡ outputs_below stages opened n ++ output_at stages opened n
below-more stages opened n =
    ap (flat_map (output_at stages opened)) (range-more 0 n)
    ∙ flat_map-append (output_at stages opened) (range_with_len 0 n) ((0 + n) ∷ [])
    ∙ ap (λ xs. outputs_below stages opened n ++ xs) (append-nil (output_at stages opened (0 + n)) ∙ ap (output_at stages opened) (zero-first n))
  where
    zero-first : (n : ℕ) → 0 + n ≡ n
    zero-first n = omega arith

module _ (stages : List StageSpec) (opened : Opened) where
  -- behind those of the stages before one come its own, and then others
  pub below-split : (i n : ℕ) → i < n → (rest : List Output) × (outputs_below stages opened n ≡ outputs_below stages opened i ++ (output_at stages opened i ++ rest))
  below-split i zero h = absurd (omega (arith, h))
  below-split i (suc n) h = by_place (λ p. below-split i n p) (lt_or_eq i n h)
    where
      lt_or_eq : (i n : ℕ) → i < suc n → (i < n) ⊎ (i ≡ n)
      lt_or_eq zero zero h = inr refl
      lt_or_eq zero (suc n) h = inl (omega arith)
      lt_or_eq (suc i) zero h = absurd (omega (arith, h))
      lt_or_eq (suc i) (suc n) h = elim (lt_or_eq i n (omega (arith, h))) [ inl p ↦ inl (omega (arith, p)) | inr p ↦ inr (ap suc p) ]

      by_place : (i < n → (rest : List Output) × (outputs_below stages opened n ≡ outputs_below stages opened i ++ (output_at stages opened i ++ rest))) → (i < n) ⊎ (i ≡ n)
          → (rest : List Output) × (outputs_below stages opened (suc n) ≡ outputs_below stages opened i ++ (output_at stages opened i ++ rest))
      by_place before (inl p) =
          let s = before p in (
            s.0 ++ output_at stages opened n,
            below-more stages opened n ∙ ap (λ xs. xs ++ output_at stages opened n) s.1
                ∙ append_assoc (outputs_below stages opened i) (output_at stages opened i ++ s.0) (output_at stages opened n)
                ∙ ap (λ xs. outputs_below stages opened i ++ xs) (append_assoc (output_at stages opened i) s.0 (output_at stages opened n)),
          )
      by_place before (inr p) = (
        [],
        below-more stages opened n
            ∙ ap (λ j. outputs_below stages opened j ++ output_at stages opened j) (sym p)
            ∙ ap (λ xs. outputs_below stages opened i ++ xs) (sym (append-nil (output_at stages opened i))),
      )

  module _ {S K P Q : Type 0} (bytes : K → Option (List ℕ)) (works : List (StageWork S K P Q))
      (told : (i : ℕ) (w : StageWork S K P Q) → slice_get works i ≡ Some w → is_writing (role_at stages i) ≡ true → IsAsTold (told_by bytes w) (Some ((row_at stages opened i).bytes (written_at stages opened i)))) where
    one-put : (i : ℕ) (w : StageWork S K P Q) (m : Names) (now : Option Names) → slice_get works i ≡ Some w → IsAsTold now (Some m) → IsAsTold (kept_one bytes now (role_at stages i) w) (Some (put_all m (output_at stages opened i)))
    one-put i w m now e before = by_role (role_at stages i) refl
      where
        by_role : (role : Role) → role_at stages i ≡ role → IsAsTold (kept_one bytes now role w) (Some (put_all m (written i role ((row_at stages opened i).bytes (written_at stages opened i)))))
        by_role (Reads name) is = before
        by_role Filters is = before
        by_role Gathers is = before
        by_role (WritesEach name) is = before
        by_role (Writes name) is = kept_told m name ((row_at stages opened i).bytes (written_at stages opened i)) now (told_by bytes w) before (told i w e (ap is_writing is))

    pub first-put : (count : ℕ) (m : Names) (old : Option Names) → count ≤ length works → IsAsTold old (Some m) → IsAsTold (kept_first bytes count old stages works) (Some (put_all m (outputs_below stages opened count)))
    first-put zero m old le before = before
    first-put (suc n) m old le before =
        let w = some_at works n (omega (arith, le)) in
        subst (λ o. IsAsTold (kept_if bytes (kept_first bytes n old stages works) (role_at stages n) o) (Some (put_all m (outputs_below stages opened (suc n))))) (sym w.1)
        (subst (λ os. IsAsTold (kept_one bytes (kept_first bytes n old stages works) (role_at stages n) w.0) (Some (put_all m os))) (sym (below-more stages opened n))
        (subst (λ x. IsAsTold (kept_one bytes (kept_first bytes n old stages works) (role_at stages n) w.0) (Some x)) (sym (put_append m (outputs_below stages opened n) (output_at stages opened n)))
        (one-put n w.0 (put_all m (outputs_below stages opened n)) (kept_first bytes n old stages works) w.1 (first-put n m old (omega (arith, le)) before))))

    pub were-put : (count : ℕ) (old new : Option Names) → count ≤ length works → new ≡ kept_first bytes count old stages works → WerePut old (outputs_below stages opened count) new
    were-put count old new le is m e = subst (λ x. IsAsTold x (Some (put_all m (outputs_below stages opened count)))) (sym is)
        (first-put count m old le (λ x f. sym e ∙ f))
