-- Works that are released from the last one on.
use Rattle.std.proofs.Common.{◌≡◌, ℕ, zero, suc, ◌+◌, ◌≤◌, List, [], ◌∷◌, ◌++◌, slice_get, Option, Some, None, option_map, refl, ap, sym, ◌∙◌, subst, arith}
use Rattle.std.specs.Prelude.{map, sum_by}
use Rattle.std.proofs.lemmas.Grind.{flat_map-append}
use Rattle.std.proofs.lemmas.List.{map-append}
use Rattle.std.proofs.lemmas.List.{append_assoc, append-nil}
use Rattle.std.proofs.lemmas.Option.{none-some, same_Some}
use Rattle.file_devices.specs.Counts.{all_listed, listed, saturating}
use Rattle.file_devices.specs.Told.{IsAsTold}
use Rattle.held_devices.proofs.Sums.{sum-pop}
use Rattle.stage_kinds.specs.declared.stage_work.StageWork.{StageWork}
use Rattle.stage_kinds.specs.Held.{faults_of}

-- the counts of the works that aren't left any more are in that of the files
pub record Released {S K P Q : Type 0} (source_faults : S → ℕ) (sink_faults : K → ℕ) (all left : List (StageWork S K P Q)) (before after : ℕ) : Type 0 where
  pub done : List (StageWork S K P Q)
  pub whole : all ≡ left ++ done
  pub counted : (i : ℕ) (w : StageWork S K P Q) → slice_get done i ≡ Some w → saturating before (faults_of source_faults sink_faults w) ≤ after

module _ {S K P Q : Type 0} (source_faults : S → ℕ) (sink_faults : K → ℕ) (all : List (StageWork S K P Q)) (before : ℕ) where
  pub none-released : (after : ℕ) → Released source_faults sink_faults all all before after
  none-released after = record { done = []; whole = sym (append-nil all); counted = λ i w e. cc }

  pub one-released : (left rest : List (StageWork S K P Q)) (w : StageWork S K P Q) (now later : ℕ) → left ≡ rest ++ w ∷ [] → before ≤ now → now ≤ later → saturating now (faults_of source_faults sink_faults w) ≤ later
      → Released source_faults sink_faults all left before now → Released source_faults sink_faults all rest before later
  one-released left rest w now later was first more one r = record {
    done = w ∷ r.done;
    whole = r.whole ∙ ap (λ xs. xs ++ r.done) was ∙ append_assoc rest (w ∷ []) r.done;
    counted = counted;
  }
    where
      counted : (i : ℕ) (v : StageWork S K P Q) → slice_get (w ∷ r.done) i ≡ Some v → saturating before (faults_of source_faults sink_faults v) ≤ later
      counted zero v e = let same : w ≡ v = cc in subst (λ x. saturating before (faults_of source_faults sink_faults x) ≤ later) same (omega (arith, first, one))
      counted (suc i) v e = let a = r.counted i v e in omega (arith, a, more)

  pub all-released : (left : List (StageWork S K P Q)) (after : ℕ) → left ≡ [] → Released source_faults sink_faults all left before after
      → (i : ℕ) (w : StageWork S K P Q) → slice_get all i ≡ Some w → saturating before (faults_of source_faults sink_faults w) ≤ after
  all-released left after none r i w e = r.counted i w (ap (λ xs. slice_get xs i) (sym (r.whole ∙ ap (λ xs. xs ++ r.done) none)) ∙ e)

-- ---- how far was read

before-more : (o : Option ℕ) (n x : ℕ) → option_map (λ m. m + n) o ≡ Some x → (z : ℕ) × (o ≡ Some z) × (z + n ≡ x)
before-more None n x e = absurd (none-some x e)
before-more (Some z) n x e = (z, refl, same_Some (z + n) x e)

-- so far as what was given back had read
abbrev ReadSoFar : {W : Type 0} → Option ℕ → Option ℕ → (W → ℕ) → List W → List W → Type 0
ReadSoFar first now reached all left = (x : ℕ) → now ≡ Some x → (y : ℕ) × (first ≡ Some y) × (x + sum_by reached left ≡ y + sum_by reached all)

pub read-one : {W : Type 0} (first before now : Option ℕ) (reached : W → ℕ) (all left rest : List W) (w : W) → left ≡ rest ++ w ∷ [] → ReadSoFar first before reached all left
    → IsAsTold now (option_map (λ n. n + reached w) before) → ReadSoFar first now reached all rest
read-one first before now reached all left rest w is so-far told x e =
    let (z, was, more) = before-more before (reached w) x (told x e) in
    let (y, at, sum) = so-far z was in
    let pop = sum-pop reached left rest w is in
    (y, at, omega (arith, more, sum, pop))

pub read-all : {W : Type 0} (first now : Option ℕ) (reached : W → ℕ) (all left : List W) → left ≡ [] → ReadSoFar first now reached all left → IsAsTold now (option_map (λ n. n + sum_by reached all) first)
read-all first now reached all left none so-far x e =
    let (y, at, sum) = so-far x e in
    let empty : sum_by reached left ≡ 0 = ap (sum_by reached) none in
    let whole : y + sum_by reached all ≡ x = omega (arith, sum, empty) in
    ap (option_map (λ n. n + sum_by reached all)) at ∙ ap (λ n. Some n) whole

-- ---- what is told of the counts

before-listed : (o : Option (List ℕ)) (ns xs : List ℕ) → option_map (λ cs. ns ++ cs) o ≡ Some xs → (zs : List ℕ) × (o ≡ Some zs) × (ns ++ zs ≡ xs)
before-listed None ns xs e = absurd (none-some xs e)
before-listed (Some zs) ns xs e = (zs, refl, same_Some (ns ++ zs) xs e)

-- in front of what was told stand the counts of what was given back
abbrev pub ToldSoFar : {W : Type 0} → Option (List ℕ) → Option (List ℕ) → (W → Option ℕ) → List W → List W → Type 0
ToldSoFar first now count all left = (xs : List ℕ) → now ≡ Some xs → (ys : List ℕ) × (first ≡ Some ys) × (all_listed (map count left) ++ xs ≡ all_listed (map count all) ++ ys)

last-listed : {W : Type 0} (count : W → Option ℕ) (left rest : List W) (w : W) → left ≡ rest ++ w ∷ [] → all_listed (map count left) ≡ all_listed (map count rest) ++ listed (count w)
last-listed count left rest w is =
    ap (λ ws. all_listed (map count ws)) is ∙ ap all_listed (map-append count rest (w ∷ [])) ∙ flat_map-append listed (map count rest) (count w ∷ [])
    ∙ ap (λ zs. all_listed (map count rest) ++ zs) (append-nil (listed (count w)))

pub told-one : {W : Type 0} (first before now : Option (List ℕ)) (count : W → Option ℕ) (all left rest : List W) (w : W) → left ≡ rest ++ w ∷ [] → ToldSoFar first before count all left
    → IsAsTold now (option_map (λ cs. listed (count w) ++ cs) before) → ToldSoFar first now count all rest
told-one first before now count all left rest w is so-far told xs e =
    let (zs, was, more) = before-listed before (listed (count w)) xs (told xs e) in
    let (ys, at, whole) = so-far zs was in (
      ys,
      at,
      ap (λ l. all_listed (map count rest) ++ l) (sym more) ∙ sym (append_assoc (all_listed (map count rest)) (listed (count w)) zs)
          ∙ ap (λ l. l ++ zs) (sym (last-listed count left rest w is)) ∙ whole,
    )

-- where there was nothing to give back, nothing more is told
pub told-none : {W : Type 0} (first now : Option (List ℕ)) (count : W → Option ℕ) (all left rest : List W) (w : W) → left ≡ rest ++ w ∷ [] → count w ≡ None → ToldSoFar first now count all left → ToldSoFar first now count all rest
told-none first now count all left rest w is none so-far = told-one first now now count all left rest w is so-far (λ xs e. ap (option_map (λ cs. listed (count w) ++ cs)) e ∙ ap (λ o. Some (listed o ++ xs)) none)

pub told-all : {W : Type 0} (first now : Option (List ℕ)) (count : W → Option ℕ) (all left : List W) → left ≡ [] → ToldSoFar first now count all left → IsAsTold now (option_map (λ cs. all_listed (map count all) ++ cs) first)
told-all first now count all left none so-far xs e =
    let (ys, at, whole) = so-far xs e in
    ap (option_map (λ cs. all_listed (map count all) ++ cs)) at ∙ ap (λ l. Some l) (sym whole ∙ ap (λ ws. all_listed (map count ws) ++ xs) none)
