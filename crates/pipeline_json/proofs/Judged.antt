-- The fold over the elements judges each against those before it.
use Rattle.std.proofs.Common.{ℕ, zero, suc, ◌≡◌, ◌≤◌, ◌<◌, ◌+◌, ◌∙◌, ◌⊎◌, inl, inr, List, [], ◌∷◌, ◌++◌, length, take, drop, get_or, filter, Bool, false, true≢false, not, Option, Some, None, Ok, slice_get, unwrap_or, if◌then◌else◌, refl, ap, sym, subst, arith, length-append}
use Rattle.std.specs.List.{range_with_len}
use Rattle.std.specs.Result.{is_ok, result_unwrap_or}
use Rattle.std.proofs.Math.Seq.{drop-cons, take-suc, take-length, drop-length}
use Rattle.std.proofs.lemmas.List.{take-append-le, length-take-le}
use Rattle.std.proofs.lemmas.Option.{slice_get-get_or, get_or_from_slice_get, slice_get_within}
use Rattle.serde_json.specs.Data.{Data, null}
use Rattle.stage_names.specs.Kinds.{is_reader}
use Rattle.stage_names.specs.declared.faults.PipeFault.{PipeFault}
use Rattle.pipeline_json.specs.Lists.{has}
use Rattle.pipeline_json.specs.Stages.{Stage, Parts, no_parts, element_parts, options_of, taken, pile, ins_of, parts_stage, stage_fault, stage_of}
use Rattle.pipeline_json.specs.Trees.{loose, or_loose, or_fault, is_end, stages_of}
use Rattle.pipeline_json.specs.Judged.{fault_at, stage_at, AreJudged, IsFaulty, AllAreRead, FirstFaultDecides, EachIsJudged, PilesAreTaken}

-- the elements from stage n on, one by one
next : (ds : List Data) (n : ℕ) (d : Data) → slice_get ds n ≡ Some d → drop n ds ≡ d ∷ drop (n + 1) ds
next ds n d here =
    let more : suc n ≡ n + 1 = omega arith in
    subst (λ k. drop n ds ≡ d ∷ drop k ds) more
    (drop-cons ds n null (slice_get_within ds n d here) ∙ ap (λ x. x ∷ drop (suc n) ds) (get_or_from_slice_get ds n d null here))

there : (ds : List Data) (n : ℕ) → n < length ds → slice_get ds n ≡ Some (get_or ds n null)
there ds n h = slice_get-get_or ds n null h

one : (ds : List Data) (stages : List Stage) → AreJudged ds stages → (n : ℕ) → n < length stages → stages_of (take n stages) (drop n ds) ≡ stages_of (take (n + 1) stages) (drop (n + 1) ds)
one ds stages j n h =
    let d = get_or ds n null in
    let here = there ds n (omega (arith, h, j.within)) in
    let rest = drop (n + 1) ds in
    let s = stage_at ds stages n d in
    let more : suc n ≡ n + 1 = omega arith in
    let longer : take (n + 1) stages ≡ take n stages ++ s ∷ [] =
    subst (λ k. take k stages ≡ take n stages ++ s ∷ []) more (take-suc stages n s h ∙ ap (λ x. take n stages ++ x ∷ []) (get_or_from_slice_get stages n s s (j.each n d h here))) in
    ap (stages_of (take n stages)) (next ds n d here)
    ∙ (ap (λ f. or_fault f (stages_of (take n stages ++ s ∷ []) rest)) (j.faultless n d h here) ∙ ap (λ xs. stages_of xs rest) (sym longer))

-- the outcome is that of the elements after the first n, behind their stages
walked : (ds : List Data) (stages : List Stage) → AreJudged ds stages → (n : ℕ) → n ≤ length stages → stages_of [] ds ≡ stages_of (take n stages) (drop n ds)
walked ds stages j zero h = refl
walked ds stages j (suc n) h =
    let more : n + 1 ≡ suc n = omega arith in
    walked ds stages j n (omega (arith, h)) ∙ subst (λ k. stages_of (take n stages) (drop n ds) ≡ stages_of (take k stages) (drop k ds)) more (one ds stages j n (omega (arith, h)))

whole : (ds : List Data) (stages : List Stage) → AreJudged ds stages → stages_of [] ds ≡ stages_of stages (drop (length stages) ds)
whole ds stages j = walked ds stages j (length stages) (omega arith) ∙ ap (λ xs. stages_of xs (drop (length stages) ds)) (take-length stages)

pub all_are_read : AllAreRead
all_are_read ds stages j same = whole ds stages j ∙ ap (stages_of stages) (ap (λ n. drop n ds) same ∙ drop-length ds)

pub first_fault_decides : FirstFaultDecides
first_fault_decides ds stages f j faulty =
    let d = faulty.0 in
    let rest = drop (length stages + 1) ds in
    let told = subst (λ xs. stage_fault xs (is_end xs rest) d ≡ Some f) (take-length stages) faulty.2 in
    whole ds stages j ∙ (ap (stages_of stages) (next ds (length stages) d faulty.1)
    ∙ ap (λ o. or_fault o (stages_of (stages ++ stage_of stages (is_end stages rest) d ∷ []) rest)) told)

-- ---- each list is judged

within_end : {X : Type 0} (xs : List X) (x : X) (i : ℕ) → i < length xs → slice_get (xs ++ x ∷ []) i ≡ slice_get xs i
within_end [] x i h = absurd (omega (arith, h))
within_end (y ∷ xs) x zero h = refl
within_end (y ∷ xs) x (suc i) h = within_end xs x i (omega (arith, h))

very_end : {X : Type 0} (xs : List X) (x : X) → slice_get (xs ++ x ∷ []) (length xs) ≡ Some x
very_end [] x = refl
very_end (y ∷ xs) x = very_end xs x

inside_or_end : {X : Type 0} (xs : List X) (x : X) (i : ℕ) → i < length (xs ++ x ∷ []) → (i < length xs) ⊎ (i ≡ length xs)
inside_or_end [] x zero h = inr refl
inside_or_end [] x (suc i) h = absurd (omega (arith, h))
inside_or_end (y ∷ xs) x zero h = inl (omega arith)
inside_or_end (y ∷ xs) x (suc i) h = elim (inside_or_end xs x i (omega (arith, h))) [
  | inl e ↦ inl (omega (arith, e))
  | inr e ↦ inr (ap suc e)
]

longer : (ds : List Data) (stages : List Stage) (d : Data) → AreJudged ds stages → slice_get ds (length stages) ≡ Some d → fault_at ds stages (length stages) d ≡ None
    → AreJudged ds (stages ++ stage_at ds stages (length stages) d ∷ [])
longer ds stages d j here none = record {
  within = omega (arith, slice_get_within ds (length stages) d here, length-append stages (s ∷ []));
  faultless = λ i c low g. elim (inside_or_end stages s i low) [
    | inl e ↦ subst (λ xs. stage_fault xs (is_end xs (drop (i + 1) ds)) c ≡ None) (sym (kept i (omega (arith, e)))) (j.faultless i c e g)
    | inr e ↦ end_fault i c (sym e) g
  ];
  each = λ i c low g. elim (inside_or_end stages s i low) [
    | inl e ↦ subst (λ xs. slice_get more i ≡ Some (stage_of xs (is_end xs (drop (i + 1) ds)) c)) (sym (kept i (omega (arith, e)))) (within_end stages s i e ∙ j.each i c e g)
    | inr e ↦ end_stage i c (sym e) g
  ];
}
  where
    s : Stage
    s = stage_at ds stages (length stages) d

    more : List Stage
    more = stages ++ s ∷ []

    kept : (i : ℕ) → i ≤ length stages → take i more ≡ take i stages
    kept i low = take-append-le i stages (s ∷ []) low

    end_fault : (i : ℕ) (c : Data) → length stages ≡ i → slice_get ds i ≡ Some c → fault_at ds more i c ≡ None
    end_fault i c e = subst (λ k. slice_get ds k ≡ Some c → fault_at ds more k c ≡ None) e
        (λ g. ap (λ xs. stage_fault xs (is_end xs (drop (length stages + 1) ds)) c) (kept (length stages) (omega arith))
        ∙ (ap (fault_at ds stages (length stages)) (ap (λ o. unwrap_or o d) (sym g ∙ here)) ∙ none))

    end_stage : (i : ℕ) (c : Data) → length stages ≡ i → slice_get ds i ≡ Some c → slice_get more i ≡ Some (stage_at ds more i c)
    end_stage i c e = subst (λ k. slice_get ds k ≡ Some c → slice_get more k ≡ Some (stage_at ds more k c)) e
        (λ g. very_end stages s ∙ ap Some (ap (stage_at ds stages (length stages)) (ap (λ o. unwrap_or o c) (sym here ∙ g))
        ∙ ap (λ xs. stage_of xs (is_end xs (drop (length stages + 1) ds)) c) (sym (kept (length stages) (omega arith)))))

abbrev Judging : List Data → Type 0
Judging ds = (stages : List Stage) × AreJudged ds stages × ((length stages ≡ length ds) ⊎ ((f : PipeFault) × IsFaulty ds stages f))

judging : (ds : List Data) (left : ℕ) (stages : List Stage) → AreJudged ds stages → length ds ≡ length stages + left → Judging ds
judging ds zero stages j e = (stages, j, inl (omega (arith, e)))
judging ds (suc left) stages j e =
    let d = get_or ds (length stages) null in
    let here = there ds (length stages) (omega (arith, e)) in
    go (fault_at ds stages (length stages) d) refl
    (λ none. judging ds left (stages ++ stage_at ds stages (length stages) d ∷ []) (longer ds stages d j here none) (omega (arith, e, length-append stages (stage_at ds stages (length stages) d ∷ []))))
  where
    go : (o : Option PipeFault) → fault_at ds stages (length stages) (get_or ds (length stages) null) ≡ o
        → (fault_at ds stages (length stages) (get_or ds (length stages) null) ≡ None → Judging ds) → Judging ds
    go None is rec = rec is
    go (Some f) is rec = (stages, j, inr (f, (get_or ds (length stages) null, there ds (length stages) (omega (arith, e)), is)))

none_judged : (ds : List Data) → AreJudged ds []
none_judged ds = record {
  within = omega arith;
  faultless = λ i d low. absurd (omega (arith, low));
  each = λ i d low. absurd (omega (arith, low));
}

pub each_is_judged : EachIsJudged
each_is_judged ds = judging ds (length ds) [] (none_judged ds) (omega arith)

-- ---- what stages without inputs take

-- the stages of a list that is read are judged so
read_judged : (ds : List Data) (stages : List Stage) → stages_of [] ds ≡ Ok stages → AreJudged ds stages
read_judged ds stages is = go (each_is_judged ds)
  where
    full : (out : List Stage) → AreJudged ds out → (o : Option ℕ) → or_loose o out ≡ Ok stages → AreJudged ds stages
    full out j None g = subst (AreJudged ds) (ap (λ r. result_unwrap_or r out) g) j
    full out j (Some k) g = absurd (true≢false (sym (ap is_ok g)))

    go : Judging ds → AreJudged ds stages
    go (out, j, end) = elim end [
      | inl same ↦ full out j (loose out) (sym (all_are_read ds out j same) ∙ is)
      | inr faulty ↦ absurd (true≢false (sym (ap is_ok (sym (first_fault_decides ds out faulty.0 j faulty.1) ∙ is))))
    ]

piled : (earlier : List Stage) (ends : Bool) (d : Data) (p : Parts) → element_parts d ≡ Some p → p.inputs ≡ None → is_reader ((stage_of earlier ends d).kind) ≡ false → (stage_of earlier ends d).ins ≡ pile earlier
piled earlier ends d p parts none = subst (λ o. is_reader ((parts_stage earlier ends (options_of d) (unwrap_or o no_parts)).kind) ≡ false → (parts_stage earlier ends (options_of d) (unwrap_or o no_parts)).ins ≡ pile earlier) (sym parts)
    (λ other. ap (ins_of earlier ((parts_stage earlier ends (options_of d) p).kind)) none ∙ ap (λ b. if b then [] else pile earlier) other)

pub piles_are_taken : PilesAreTaken
piles_are_taken ds stages is i d p s at parts none stands other =
    let j = read_judged ds stages is in
    let low = slice_get_within stages i s stands in
    let ends = is_end (take i stages) (drop (i + 1) ds) in
    let same : stage_at ds stages i d ≡ s = ap (λ o. unwrap_or o s) (sym (j.each i d low at) ∙ stands) in
    let plain = subst (λ t. is_reader t.kind ≡ false) (sym same) other in
    subst (λ t. t.ins ≡ filter (λ k. not (has (taken (take i stages)) k)) (range_with_len 0 i)) same
    (piled (take i stages) ends d p parts none plain ∙ ap (λ n. filter (λ k. not (has (taken (take i stages)) k)) (range_with_len 0 n)) (length-take-le i stages (omega (arith, low))))
