-- Values that are taken by their places and joined.
use Rattle.std.proofs.Common.{◌≡◌, ℕ, zero, suc, ◌+◌, ◌<◌, ◌≤◌, Bool, true, false, ◌||◌, cond, List, [], ◌∷◌, ◌++◌, length, map, take, drop, get_or, refl, ap, sym, ◌∙◌, arith, eq-eqb, append-nil, take-append-drop, drop-cons}
use Rattle.std.specs.Prelude.{◌==◌, slice_get}
use Rattle.std.proofs.Math.ListN.{set}
use Rattle.std.proofs.lemmas.List.{take_more, map-append}
use Rattle.std.proofs.lemmas.List.Folds.{list_any-append}
use Rattle.std.proofs.lemmas.List.Sums.{sum_by-cons}
use Rattle.cloud_points.specs.Flows.{Flow, empty_flow, join, join_all}
use Rattle.cloud_points.specs.declared.point.Point.{Point}
use Rattle.cloud_points.proofs.FlowLaws.{join_assoc}
use Rattle.pipeline_json.specs.Lists.{has, times}
use Rattle.pipeline_json.proofs.Taken.{times-append}
use Rattle.set_engine.specs.Taking.{value_in}

-- ---- flows one behind the other

or_false : (b : Bool) → b || false ≡ b
or_false true = refl
or_false false = refl

empty_first : {P : Type 0} (f : Flow P) → join empty_flow f ≡ f
empty_first {P} f = go f.views
  where
    go : (vs : List (List P)) → join empty_flow (record f { views = vs }) ≡ record f { views = vs }
    go [] = refl
    go (v ∷ vs) = refl

empty_last : {P : Type 0} (f : Flow P) → join f empty_flow ≡ f
empty_last f =
    ap (λ vs. record { views = vs; open_view = f.open_view ++ []; cut = f.cut || false }) (append-nil f.views)
    ∙ ap (λ ps. record { views = f.views; open_view = ps; cut = f.cut || false }) (append-nil f.open_view)
    ∙ ap (λ b. record { views = f.views; open_view = f.open_view; cut = b }) (or_false f.cut)

-- one more behind the others
join_all-more : {P : Type 0} (fs : List (Flow P)) (f : Flow P) → join_all (fs ++ f ∷ []) ≡ join (join_all fs) f
join_all-more [] f = empty_last f ∙ sym (empty_first f)
join_all-more (g ∷ fs) f = ap (join g) (join_all-more fs f) ∙ sym (join_assoc g (join_all fs) f)

pub joined_more : (values : List (Flow Point)) (places : List ℕ) (i : ℕ) (joined value next : Flow Point) → i < length places
    → joined ≡ join_all (map (value_in values) (take i places)) → value_in values (get_or places i 0) ≡ value → next ≡ join joined value
    → next ≡ join_all (map (value_in values) (take (i + 1) places))
joined_more values places i joined value next lt before is step =
    step ∙ ap (λ j. join j value) before ∙ ap (join (join_all (map (value_in values) (take i places)))) (sym is)
    ∙ sym (join_all-more (map (value_in values) (take i places)) (value_in values (get_or places i 0)))
    ∙ ap join_all (sym (map-append (value_in values) (take i places) (get_or places i 0 ∷ [])))
    ∙ ap (λ ps. join_all (map (value_in values) ps)) (sym (take_more places i 0 lt))

-- ---- places

pub stays-elsewhere : {A : Type 0} (xs : List A) (i j : ℕ) (x : A) → (j ≡ i → ⊥) → slice_get (set xs i x) j ≡ slice_get xs j
stays-elsewhere [] i j x away = refl
stays-elsewhere (y ∷ xs) zero zero x away = absurd (away refl)
stays-elsewhere (y ∷ xs) zero (suc j) x away = refl
stays-elsewhere (y ∷ xs) (suc i) zero x away = refl
stays-elsewhere (y ∷ xs) (suc i) (suc j) x away = stays-elsewhere xs i j x (λ e. away (ap suc e))

times-cons : (j x : ℕ) (xs : List ℕ) → times j (x ∷ xs) ≡ cond (x == j) 1 0 + times j xs
times-cons j x xs = sum_by-cons (λ k. cond (k == j) 1 0) x xs

-- what isn't counted isn't there
pub none-has : (j : ℕ) (xs : List ℕ) → times j xs ≡ 0 → has xs j ≡ false
none-has j [] e = refl
none-has j (x ∷ xs) e = go (x == j) refl (none-has j xs) (sym (times-cons j x xs) ∙ e)
  where
    go : (b : Bool) → (x == j) ≡ b → (times j xs ≡ 0 → has xs j ≡ false) → cond b 1 0 + times j xs ≡ 0 → b || has xs j ≡ false
    go true is later e = absurd (omega (arith, e))
    go false is later e = later (omega (arith, e))

-- of places that stand there once, this one doesn't stand before itself
pub not-before : (places : List ℕ) (i : ℕ) → i < length places → ((j : ℕ) → times j places ≤ 1) → has (take i places) (get_or places i 0) ≡ false
not-before places i lt once =
    let p = get_or places i 0 in
    let split : take i places ++ (p ∷ drop (suc i) places) ≡ places = ap (λ rest. take i places ++ rest) (sym (drop-cons places i 0 lt)) ∙ take-append-drop i places in
    let a : times p places ≡ times p (take i places) + times p (p ∷ drop (suc i) places) = ap (times p) (sym split) ∙ times-append p (take i places) (p ∷ drop (suc i) places) in
    let b : times p (p ∷ drop (suc i) places) ≡ 1 + times p (drop (suc i) places) = times-cons p p (drop (suc i) places) ∙ ap (λ b. cond b 1 0 + times p (drop (suc i) places)) (eq-eqb p p refl) in
    let c = once p in
    none-has p (take i places) (omega (arith, a, b, c))

-- a place that isn't among those with one more is neither among them nor that one
pub apart : (places : List ℕ) (i j : ℕ) → i < length places → has (take (i + 1) places) j ≡ false → (has (take i places) j ≡ false) × (j ≡ get_or places i 0 → ⊥)
apart places i j lt e =
    let p = get_or places i 0 in
    let split : has (take i places) j || has (p ∷ []) j ≡ false = sym (list_any-append (λ k. k == j) (take i places) (p ∷ [])) ∙ ap (λ ps. has ps j) (sym (take_more places i 0 lt)) ∙ e in
    go (has (take i places) j) (p == j) refl refl split
  where
    go : (a b : Bool) → has (take i places) j ≡ a → (get_or places i 0 == j) ≡ b → a || (b || false) ≡ false → (has (take i places) j ≡ false) × (j ≡ get_or places i 0 → ⊥)
    go true b is same e = absurd cc
    go false true is same e = absurd cc
    go false false is same e = (is, λ q. (let t = sym (eq-eqb (get_or places i 0) j (sym q)) ∙ same in cc))
