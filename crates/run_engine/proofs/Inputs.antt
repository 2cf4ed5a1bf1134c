-- How many stages a stage takes, and which take none.
use Rattle.std.proofs.Common.{◌≡◌, ℕ, zero, suc, ◌+◌, ◌≤◌, ◌<◌, Bool, true, false, true≢false, ◌==◌, ◌||◌, cond, List, [], ◌∷◌, length, slice_get, Option, Some, refl, ap, sym, subst, ◌∙◌, arith, inl, inr, eq-eqb, ne_eqb}
use Rattle.std.proofs.lemmas.Bool.Decides.{eqb_tells}
use Rattle.std.proofs.lemmas.List.Sums.{sum_by-cons}
use Rattle.pipeline_json.specs.Lists.{has, times, is_empty}
use Rattle.pipeline_json.specs.Stages.{Stage, taken}
use Rattle.pipeline_json.specs.Trees.{IsTree}
use Rattle.pipeline_json.proofs.Taken.{times-append}
use Rattle.answer_model.specs.Rows.{Setting}
use Rattle.stage_kinds.specs.declared.stage_work.StageWork.{StageWork}
use Rattle.stage_kinds.specs.Stages.{is_leaf}
use Rattle.stage_options.specs.Shapes.{shape, shapes}
use Rattle.stage_options.specs.declared.stage.StageSpec.{StageSpec}
use Rattle.file_devices.specs.declared.devices.Source as source
use Rattle.network_core.proofs.Opened.{some_at}
use Rattle.answer_model.specs.Values.{stage_at, options_at}
use Rattle.stage_forms.specs.Starts.{IsAtStart}
use Rattle.stage_forms.proofs.Works.{start-reads}
use Rattle.run_outcome.proofs.Stages.{stage-is}

-- how often the numbers below one stand in a list
abbrev tally : ℕ → List ℕ → ℕ
tally zero xs = 0
tally (suc n) xs = tally n xs + times n xs

tally-nil : (n : ℕ) → tally n [] ≡ 0
tally-nil zero = refl
tally-nil (suc n) = let r = tally-nil n in omega (arith, r)

times-cons : (j x : ℕ) (xs : List ℕ) → times j (x ∷ xs) ≡ cond (x == j) 1 0 + times j xs
times-cons j x xs = sum_by-cons (λ k. cond (k == j) 1 0) x xs

times-same : (j : ℕ) (xs : List ℕ) → times j (j ∷ xs) ≡ 1 + times j xs
times-same j xs = times-cons j j xs ∙ ap (λ b. cond b 1 0 + times j xs) (eq-eqb j j refl)

times-other : (j x : ℕ) (xs : List ℕ) → (x ≡ j → ⊥) → times j (x ∷ xs) ≡ times j xs
times-other j x xs ne = times-cons j x xs ∙ ap (λ b. cond b 1 0 + times j xs) (ne_eqb x j ne) ∙ zero-first (times j xs)
  where
    zero-first : (n : ℕ) → 0 + n ≡ n
    zero-first n = omega arith

tally-past : (n x : ℕ) (xs : List ℕ) → n ≤ x → tally n (x ∷ xs) ≡ tally n xs
tally-past zero x xs h = refl
tally-past (suc n) x xs h = (let r = tally-past n x xs (omega (arith, h)) in let t = times-other n x xs (λ e. absurd (omega (arith, h, e))) in omega (arith, r, t))

tally-within : (n x : ℕ) (xs : List ℕ) → x < n → tally n (x ∷ xs) ≡ 1 + tally n xs
tally-within zero x xs h = absurd (omega (arith, h))
tally-within (suc n) x xs h = elim (eqb_tells x n) [
  | inl p ↦ (let e = p.1 in let r = tally-past n x xs (omega (arith, e)) in let t = subst (λ y. times n (y ∷ xs) ≡ 1 + times n xs) (sym e) (times-same n xs) in omega (arith, r, t))
  | inr p ↦ (let ne = p.1 in let r = tally-within n x xs (omega (arith, h, ne)) in let t = times-other n x xs ne in omega (arith, r, t))
]

has-first : (x : ℕ) (xs : List ℕ) → has (x ∷ xs) x ≡ true
has-first x xs = rw (eq-eqb x x refl) refl

has-more : (x j : ℕ) (xs : List ℕ) → has xs j ≡ true → has (x ∷ xs) j ≡ true
has-more x j xs h = rw h (go (x == j))
  where
    go : (b : Bool) → b || true ≡ true
    go true = refl
    go false = refl

length-tally : (n : ℕ) (xs : List ℕ) → ((j : ℕ) → has xs j ≡ true → j < n) → length xs ≡ tally n xs
length-tally n [] h = sym (tally-nil n)
length-tally n (x ∷ xs) h = (let r = length-tally n xs (λ j l. h j (has-more x j xs l)) in let t = tally-within n x xs (h x (has-first x xs)) in omega (arith, r, t))

tally-most : (n : ℕ) (xs : List ℕ) → ((j : ℕ) → j < n → times j xs ≤ 1) → tally n xs ≤ n
tally-most zero xs h = omega arith
tally-most (suc n) xs h = (let r = tally-most n xs (λ j l. h j (omega (arith, l))) in let t = h n (omega arith) in omega (arith, r, t))

-- a stage's inputs are among those that are taken
times-taken : (stages : List Stage) (i j : ℕ) (s : Stage) → slice_get stages i ≡ Some s → times j s.ins ≤ times j (taken stages)
times-taken [] i j s e = absurd cc
times-taken (t ∷ later) zero j s e =
    let same : t ≡ s = cc in
    let a = times-append j t.ins (taken later) in
    let b = ap (λ (x : Stage). times j x.ins) same in
    omega (arith, a, b)
times-taken (t ∷ later) (suc i) j s e = (let r = times-taken later i j s e in let a = times-append j t.ins (taken later) in omega (arith, a, r))

shape-at : (stages : List StageSpec) (i : ℕ) (s : StageSpec) → slice_get stages i ≡ Some s → slice_get (shapes stages) i ≡ Some (shape s)
shape-at [] i s e = absurd cc
shape-at (t ∷ later) zero s e = let same : t ≡ s = cc in ap (λ x. Some (shape x)) same
shape-at (t ∷ later) (suc i) s e = shape-at later i s e

shapes-size : (stages : List StageSpec) → length (shapes stages) ≡ length stages
shapes-size [] = refl
shapes-size (s ∷ later) = let r = shapes-size later in omega (arith, r)

-- a stage takes at most as many as stand before it
few-inputs : (stages : List StageSpec) (i : ℕ) (s : StageSpec) → IsTree (shapes stages) → i < length stages → slice_get stages i ≡ Some s → length s.ins ≤ i
few-inputs stages i s tree lt e =
    let at = shape-at stages i s e in
    let size = shapes-size stages in
    let a = length-tally i s.ins (λ j h. tree.earlier i j (shape s) at h) in
    let b = tally-most i s.ins (λ j l. let once = tree.once j (omega (arith, l, lt, size)) in let le = times-taken (shapes stages) i j (shape s) at in omega (arith, once, le)) in
    omega (arith, a, b)

-- a reader takes none, and any other stage takes some
empty-none : (xs : List ℕ) → is_empty xs ≡ true → length xs ≡ 0
empty-none [] e = refl
empty-none (x ∷ xs) e = absurd (true≢false (sym e))

none-empty : (xs : List ℕ) → length xs ≡ 0 → is_empty xs ≡ true
none-empty [] e = refl
none-empty (x ∷ xs) e = absurd (omega (arith, e))

leaf-inputs : {S K P Q : Type 0} (source : source.Ghosts S) (bytes : K → Option (List ℕ)) (stages : List StageSpec) (i : ℕ) (s : StageSpec) (w : StageWork S K P Q) (setting : Setting) → IsTree (shapes stages) → slice_get stages i ≡ Some s → IsAtStart bytes s.options setting w
    → (is_leaf w ≡ true → length s.ins ≡ 0) × (length s.ins ≡ 0 → is_leaf w ≡ true)
leaf-inputs source bytes stages i s w setting tree e start =
    let none : is_empty s.ins ≡ is_leaf w = tree.readers i (shape s) (shape-at stages i s e) ∙ sym (start-reads source bytes s.options setting w start) in
    (λ h. empty-none s.ins (none ∙ h), λ h. sym none ∙ none-empty s.ins h)

-- the stage at a place takes fewer than 2 ^ 32
pub input-count : (stages : List StageSpec) (i : ℕ) (s : StageSpec) → IsTree (shapes stages) → i < length stages → slice_get stages i ≡ Some s → length s.ins ≤ 64
input-count stages i s tree lt e =
    let a = few-inputs stages i s tree lt e in
    let b = tree.few in
    let c = shapes-size stages in
    omega (arith, a, b, c, lt)

pub leaf-at : {S K P Q : Type 0} (source : source.Ghosts S) (bytes : K → Option (List ℕ)) (stages : List StageSpec) (i : ℕ) (w : StageWork S K P Q) (setting : Setting) → IsTree (shapes stages) → i < length stages → IsAtStart bytes (options_at stages i) setting w
    → (is_leaf w ≡ true → length ((stage_at stages i).ins) ≡ 0) × (length ((stage_at stages i).ins) ≡ 0 → is_leaf w ≡ true)
leaf-at source bytes stages i w setting tree lt start =
    let s = some_at stages i lt in
    let is = stage-is stages i s.0 s.1 in
    subst (λ (t : StageSpec). (is_leaf w ≡ true → length t.ins ≡ 0) × (length t.ins ≡ 0 → is_leaf w ≡ true)) (sym is)
    (leaf-inputs source bytes stages i s.0 w setting tree s.1 (subst (λ (t : StageSpec). IsAtStart bytes t.options setting w) is start))

-- a tree has at most 64 stages
pub few-stages : (stages : List StageSpec) → IsTree (shapes stages) → length stages ≤ 64
few-stages stages tree = (let a = shapes-size stages in let b = tree.few in omega (arith, a, b))
