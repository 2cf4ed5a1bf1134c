-- A plan covers the tree of its stages.
use Rattle.std.proofs.Common.{◌≡◌, ℕ, zero, suc, ◌+◌, ◌<◌, ◌≤◌, ◌==◌, ◌⊎◌, inl, inr, Bool, true, false, ◌||◌, cond, List, [], ◌∷◌, map, length, refl, ap, sym, ◌∙◌, arith, zero-add, Some, unwrap_or}
use Rattle.std.specs.Prelude.{slice_get, filter, count_by}
use Rattle.std.specs.List.{list_any, range_with_len}
use Rattle.std.proofs.lemmas.Bool.{eq-eqb, ne_eqb, eqb-true, cases_eq}
use Rattle.std.proofs.lemmas.Option.{slice_get-get_or, slice_get_within}
use Rattle.std.proofs.lemmas.List.Sums.{sum_by-cons}
use Rattle.stage_options.specs.declared.stage.StageSpec.{StageSpec}
use Rattle.stage_planner.specs.declared.steps.PlanStep.{PlanStep}
use Rattle.stage_planner.specs.declared.steps.PlanStep.TheVariants.{Run, Whole}
use Rattle.stage_planner.specs.Plans.{is_whole, next, end_of, part_by, step_at, ends, plan_of}
use Rattle.stage_planner.specs.Covering.{Takes, is_in, StandsIn, IsEnd, Covers}
use Rattle.stage_planner.proofs.Forest.{IsForest}
use Rattle.stage_planner.proofs.Ways.{Leads, next-leads, goes-edge, stays-whole, end-inside, end-up, end-next, end-here, end-end, end-whole}

some-same : {A : Type 0} {x y : A} → Some x ≡ Some y → x ≡ y
some-same {x = x} e = ap (λ o. unwrap_or o x) e

-- an element of a mapped list
mapped : {A B : Type 0} (f : A → B) (xs : List A) (a : ℕ) (y : B) → slice_get (map f xs) a ≡ Some y → (x : A) × (slice_get xs a ≡ Some x) × (y ≡ f x)
mapped f [] a y e = absurd cc
mapped f (x ∷ xs) zero y e = (x, refl, sym (some-same e))
mapped f (x ∷ xs) (suc a) y e = mapped f xs a y e

map-at : {A B : Type 0} (f : A → B) (xs : List A) (a : ℕ) (x : A) → slice_get xs a ≡ Some x → slice_get (map f xs) a ≡ Some (f x)
map-at f [] a x e = absurd cc
map-at f (y ∷ xs) zero x e = ap Some (ap f (some-same e))
map-at f (y ∷ xs) (suc a) x e = map-at f xs a x e

-- the numbers from a on that pass
module _ (p : ℕ → Bool) where
  passing : (a n k x : ℕ) → slice_get (filter p (range_with_len a n)) k ≡ Some x → (p x ≡ true) × (a ≤ x) × (x < a + n)
  passing a zero k x e = absurd cc
  passing a (suc n) k x e = go (p a) refl k e (passing (a + 1) n)
    where
      wider : (p x ≡ true) × (a + 1 ≤ x) × (x < a + 1 + n) → (p x ≡ true) × (a ≤ x) × (x < a + suc n)
      wider h = (h.0, (let l = h.1 in omega (arith, l)), (let m = h.2 in omega (arith, m)))

      go : (b : Bool) → p a ≡ b → (k : ℕ) → slice_get (cond b (a ∷ filter p (range_with_len (a + 1) n)) (filter p (range_with_len (a + 1) n))) k ≡ Some x
          → ((k x : ℕ) → slice_get (filter p (range_with_len (a + 1) n)) k ≡ Some x → (p x ≡ true) × (a + 1 ≤ x) × (x < a + 1 + n)) → (p x ≡ true) × (a ≤ x) × (x < a + suc n)
      go true h zero e ih = let same : a ≡ x = some-same e in (sym (ap p same) ∙ h, omega (arith, same), omega (arith, same))
      go true h (suc k) e ih = wider (ih k x e)
      go false h k e ih = wider (ih k x e)

  rising : (a n k l x y : ℕ) → slice_get (filter p (range_with_len a n)) k ≡ Some x → slice_get (filter p (range_with_len a n)) l ≡ Some y → k < l → x < y
  rising a zero k l x y e f m = absurd cc
  rising a (suc n) k l x y e f m = go (p a) k l e f m (rising (a + 1) n) (passing (a + 1) n)
    where
      go : (b : Bool) (k l : ℕ) → slice_get (cond b (a ∷ filter p (range_with_len (a + 1) n)) (filter p (range_with_len (a + 1) n))) k ≡ Some x
          → slice_get (cond b (a ∷ filter p (range_with_len (a + 1) n)) (filter p (range_with_len (a + 1) n))) l ≡ Some y → k < l
          → ((k l x y : ℕ) → slice_get (filter p (range_with_len (a + 1) n)) k ≡ Some x → slice_get (filter p (range_with_len (a + 1) n)) l ≡ Some y → k < l → x < y)
          → ((k x : ℕ) → slice_get (filter p (range_with_len (a + 1) n)) k ≡ Some x → (p x ≡ true) × (a + 1 ≤ x) × (x < a + 1 + n)) → x < y
      go true k zero e f m ih pass = absurd (omega (arith, m))
      go true zero (suc l) e f m ih pass = let same : a ≡ x = some-same e in let above = (pass l y f).1 in omega (arith, same, above)
      go true (suc k) (suc l) e f m ih pass = ih k l x y e f (omega (arith, m))
      go false k l e f m ih pass = ih k l x y e f m

  -- a number is among those that pass exactly where it is in the range and passes
  among : (a n j : ℕ) → list_any (λ k. k == j) (filter p (range_with_len a n)) ≡ true → (p j ≡ true) × (a ≤ j) × (j < a + n)
  among a zero j e = absurd cc
  among a (suc n) j e = go (p a) refl e (among (a + 1) n j)
    where
      wider : (p j ≡ true) × (a + 1 ≤ j) × (j < a + 1 + n) → (p j ≡ true) × (a ≤ j) × (j < a + suc n)
      wider h = (h.0, (let l = h.1 in omega (arith, l)), (let m = h.2 in omega (arith, m)))

      go : (b : Bool) → p a ≡ b → list_any (λ k. k == j) (cond b (a ∷ filter p (range_with_len (a + 1) n)) (filter p (range_with_len (a + 1) n))) ≡ true
          → (list_any (λ k. k == j) (filter p (range_with_len (a + 1) n)) ≡ true → (p j ≡ true) × (a + 1 ≤ j) × (j < a + 1 + n)) → (p j ≡ true) × (a ≤ j) × (j < a + suc n)
      go false h e ih = wider (ih e)
      go true h e ih = first (a == j) refl e
        where
          first : (c : Bool) → a == j ≡ c → c || list_any (λ k. k == j) (filter p (range_with_len (a + 1) n)) ≡ true → (p j ≡ true) × (a ≤ j) × (j < a + suc n)
          first true g e = let same : a ≡ j = eqb-true a j g in (sym (ap p same) ∙ h, omega (arith, same), omega (arith, same))
          first false g e = wider (ih e)

  is_among : (a n j : ℕ) → p j ≡ true → a ≤ j → j < a + n → list_any (λ k. k == j) (filter p (range_with_len a n)) ≡ true
  is_among a zero j h l m = absurd (omega (arith, l, m))
  is_among a (suc n) j h l m = go (p a) refl (cases_eq a j) (λ k. is_among (a + 1) n j h k (omega (arith, m)))
    where
      or_right : (b c : Bool) → c ≡ true → b || c ≡ true
      or_right true c e = refl
      or_right false c e = e

      go : (b : Bool) → p a ≡ b → (a ≡ j) ⊎ (a ≡ j → ⊥) → (a + 1 ≤ j → list_any (λ k. k == j) (filter p (range_with_len (a + 1) n)) ≡ true)
          → list_any (λ k. k == j) (cond b (a ∷ filter p (range_with_len (a + 1) n)) (filter p (range_with_len (a + 1) n))) ≡ true
      go true e (inl same) ih = ap (λ c. c || list_any (λ k. k == j) (filter p (range_with_len (a + 1) n))) (eq-eqb a j same)
      go true e (inr other) ih = or_right (a == j) (list_any (λ k. k == j) (filter p (range_with_len (a + 1) n))) (ih (omega (arith, l, other)))
      go false e (inl same) ih = absurd (let yes : p a ≡ true = ap p same ∙ h in cc)
      go false e (inr other) ih = ih (omega (arith, l, other))

-- two tests with one answer
both_ways : (b c : Bool) → (b ≡ true → c ≡ true) → (c ≡ true → b ≡ true) → b ≡ c
both_ways true c f g = sym (f refl)
both_ways false true f g = g refl
both_ways false false f g = refl

abbrev number : PlanStep → ℕ
number (Run numbers) = 0
number (Whole k) = k

abbrev numbers_of : PlanStep → List ℕ
numbers_of (Run numbers) = numbers
numbers_of (Whole k) = []

abbrev is_run : PlanStep → Bool
is_run (Run numbers) = true
is_run (Whole k) = false

-- of the numbers that pass, one gives what is counted
module _ {A : Type 0} (p : ℕ → Bool) (f : ℕ → A) (q : A → Bool) (t : ℕ) where
  not-counted : (a m : ℕ) → t < a → ((k : ℕ) → a ≤ k → k < a + m → p k ≡ true → q (f k) ≡ (t == k)) → count_by q (map f (filter p (range_with_len a m))) ≡ 0
  not-counted a zero l h = refl
  not-counted a (suc m) l h = go (p a) refl (not-counted (a + 1) m (omega (arith, l)) (λ k u v pk. h k (omega (arith, u)) (omega (arith, v)) pk))
    where
      go : (b : Bool) → p a ≡ b → count_by q (map f (filter p (range_with_len (a + 1) m))) ≡ 0
          → count_by q (map f (cond b (a ∷ filter p (range_with_len (a + 1) m)) (filter p (range_with_len (a + 1) m)))) ≡ 0
      go false e ih = ih
      go true e ih =
          sum_by-cons (λ x. cond (q x) 1 0) (f a) (map f (filter p (range_with_len (a + 1) m)))
          ∙ ap (λ b. cond b 1 0 + count_by q (map f (filter p (range_with_len (a + 1) m)))) (h a (omega arith) (omega arith) e ∙ ne_eqb t a (λ s. absurd (omega (arith, l, s))))
          ∙ zero-add _ ∙ ih

  counted-once : (a m : ℕ) → p t ≡ true → a ≤ t → t < a + m → ((k : ℕ) → a ≤ k → k < a + m → p k ≡ true → q (f k) ≡ (t == k)) → count_by q (map f (filter p (range_with_len a m))) ≡ 1
  counted-once a zero pt l u h = absurd (omega (arith, l, u))
  counted-once a (suc m) pt l u h =
      go (p a) refl (cases_eq a t) (λ n. counted-once (a + 1) m pt n (omega (arith, u)) (λ k v w pk. h k (omega (arith, v)) (omega (arith, w)) pk))
    where
      go : (b : Bool) → p a ≡ b → (a ≡ t) ⊎ (a ≡ t → ⊥) → (a + 1 ≤ t → count_by q (map f (filter p (range_with_len (a + 1) m))) ≡ 1)
          → count_by q (map f (cond b (a ∷ filter p (range_with_len (a + 1) m)) (filter p (range_with_len (a + 1) m)))) ≡ 1
      go true e (inl same) ih =
          sum_by-cons (λ x. cond (q x) 1 0) (f a) (map f (filter p (range_with_len (a + 1) m)))
          ∙ ap (λ b. cond b 1 0 + count_by q (map f (filter p (range_with_len (a + 1) m)))) (h a (omega arith) (omega arith) e ∙ eq-eqb t a (sym same))
          ∙ ap (λ z. 1 + z) (not-counted (a + 1) m (omega (arith, same)) (λ k v w pk. h k (omega (arith, v)) (omega (arith, w)) pk))
      go true e (inr other) ih =
          sum_by-cons (λ x. cond (q x) 1 0) (f a) (map f (filter p (range_with_len (a + 1) m)))
          ∙ ap (λ b. cond b 1 0 + count_by q (map f (filter p (range_with_len (a + 1) m)))) (h a (omega arith) (omega arith) e ∙ ne_eqb t a (λ s. other (sym s)))
          ∙ zero-add _ ∙ ih (omega (arith, l, other))
      go false e (inl same) ih = absurd (let yes : p a ≡ true = ap p same ∙ pt in cc)
      go false e (inr other) ih = ih (omega (arith, l, other))

module _ (stages : List StageSpec) (forest : IsForest stages) where
  -- the step that ends in stage i has the stages whose end is i
  in-step : (i j : ℕ) → i < length stages → end_of stages i ≡ i → j < length stages → is_in j (step_at stages i) ≡ (end_of stages j == i)
  in-step i j l e m = go (is_whole stages i) refl
    where
      whole_way : is_whole stages i ≡ true → (i == j) ≡ (end_of stages j == i)
      whole_way w = both_ways (i == j) (end_of stages j == i)
          (λ h. eq-eqb (end_of stages j) i (ap (end_of stages) (sym (eqb-true i j h)) ∙ e))
          (λ h. eq-eqb i j (sym (eqb-true (end_of stages j) i h) ∙ end-whole stages forest j (ap (is_whole stages) (eqb-true (end_of stages j) i h) ∙ w)))

      go : (b : Bool) → is_whole stages i ≡ b → is_in j (cond b (Whole i) (Run (part_by (end_of stages) (length stages) i))) ≡ (end_of stages j == i)
      go true w = whole_way w
      go false w = both_ways (list_any (λ k. k == j) (part_by (end_of stages) (length stages) i)) (end_of stages j == i)
          (λ h. (among (λ k. end_of stages k == i) 0 (length stages) j h).0)
          (λ h. is_among (λ k. end_of stages k == i) 0 (length stages) j h (omega arith) (omega (arith, m)))

  -- and no other numbers
  in-step-inside : (i j : ℕ) → i < length stages → is_in j (step_at stages i) ≡ true → j < length stages
  in-step-inside i j l h = go (is_whole stages i) h
    where
      go : (b : Bool) → is_in j (cond b (Whole i) (Run (part_by (end_of stages) (length stages) i))) ≡ true → j < length stages
      go true h = let same : i ≡ j = eqb-true i j h in omega (arith, same, l)
      go false h = let upper = (among (λ k. end_of stages k == i) 0 (length stages) j h).2 in omega (arith, upper)

  -- the place of a step, and the stage in which it ends
  step-of : (a : ℕ) (s : PlanStep) → slice_get (plan_of stages) a ≡ Some s → (t : ℕ) × (slice_get (ends stages (length stages)) a ≡ Some t) × (s ≡ step_at stages t)
  step-of a s e = mapped (step_at stages) (ends stages (length stages)) a s e

  is_end : (a t : ℕ) → slice_get (ends stages (length stages)) a ≡ Some t → (t < length stages) × (end_of stages t ≡ t)
  is_end a t e = let h = passing (λ i. end_of stages i == i) 0 (length stages) a t e in ((let m = h.2 in omega (arith, m)), eqb-true (end_of stages t) t h.0)

  -- a stage that stands in step a is inside, and its end is that of the step
  stands : (i a : ℕ) → StandsIn (plan_of stages) i a → (i < length stages) × (slice_get (ends stages (length stages)) a ≡ Some (end_of stages i))
  stands i a h =
      let s = step-of a h.0 h.1 in let t = is_end a s.0 s.1 in
      let is : is_in i (step_at stages s.0) ≡ true = sym (ap (is_in i) s.2) ∙ h.2 in
      let in_all = in-step-inside s.0 i t.0 is in
      (in_all, s.1 ∙ ap Some (sym (eqb-true (end_of stages i) s.0 (sym (in-step s.0 i t.0 t.1 in_all) ∙ is))))

  before : (i j a b : ℕ) → StandsIn (plan_of stages) i a → StandsIn (plan_of stages) j b → end_of stages j ≤ end_of stages i → b ≤ a
  before i j a b h k l = go (cases_lt a b)
    where
      cases_lt : (x y : ℕ) → (x < y) ⊎ (y ≤ x)
      cases_lt x zero = inr (omega arith)
      cases_lt zero (suc y) = inl (omega arith)
      cases_lt (suc x) (suc y) = elim (cases_lt x y) as (λ _. (suc x < suc y) ⊎ (suc y ≤ suc x)) [ inl m ↦ inl (omega (arith, m)) | inr m ↦ inr (omega (arith, m)) ]

      go : (a < b) ⊎ (b ≤ a) → b ≤ a
      go (inl m) = absurd (let up = rising (λ i. end_of stages i == i) 0 (length stages) a b (end_of stages i) (end_of stages j) (stands i a h).1 (stands j b k).1 m in omega (arith, up, l))
      go (inr m) = m

  -- where stage i takes stage j, the step of j ends no later
  ends-rise : (i j : ℕ) → Takes stages i j → j < length stages → end_of stages j ≤ end_of stages i
  ends-rise i j t l = go (next-leads stages forest j)
    where
      go : Leads stages j (next stages j) → end_of stages j ≤ end_of stages i
      go (inl e) = let here = end-here stages forest j e in let less = forest.earlier i j t in let up = end-up stages forest i in omega (arith, here, less, up)
      go (inr g) = let same : next stages j ≡ i = forest.once (next stages j) i j g.0 t in let e : end_of stages j ≡ end_of stages i = sym (end-next stages forest j l) ∙ ap (end_of stages) same in omega (arith, e)

  ends-same : (i j : ℕ) → Takes stages i j → is_whole stages i ≡ false → is_whole stages j ≡ false → j < length stages → end_of stages j ≡ end_of stages i
  ends-same i j t wi wj l = sym (end-next stages forest j l) ∙ ap (end_of stages) (goes-edge stages forest i j t wi wj)

  earlier_steps : (i j a b : ℕ) → Takes stages i j → StandsIn (plan_of stages) i a → StandsIn (plan_of stages) j b → b ≤ a
  earlier_steps i j a b t h k = before i j a b h k (ends-rise i j t (stands j b k).0)

  inside_a_run : (i j a b : ℕ) → Takes stages i j → is_whole stages i ≡ false → is_whole stages j ≡ false → StandsIn (plan_of stages) i a → StandsIn (plan_of stages) j b → b ≡ a
  inside_a_run i j a b t wi wj h k =
      let e = ends-same i j t wi wj (stands j b k).0 in
      let one = before i j a b h k (omega (arith, e)) in let two = before j i b a k h (omega (arith, e)) in omega (arith, one, two)

  whole_steps : (i a : ℕ) → StandsIn (plan_of stages) i a → is_whole stages i ≡ true → slice_get (plan_of stages) a ≡ Some (Whole i)
  whole_steps i a h w =
      map-at (step_at stages) (ends stages (length stages)) a i ((stands i a h).1 ∙ ap Some (end-here stages forest i (stays-whole stages forest i w)))
      ∙ ap Some (ap (λ b. cond b (Whole i) (Run (part_by (end_of stages) (length stages) i))) w)

  whole_only : (i a : ℕ) → slice_get (plan_of stages) a ≡ Some (Whole i) → is_whole stages i ≡ true
  whole_only i a e = let s = step-of a (Whole i) e in go (is_whole stages s.0) s.0 refl s.2
    where
      go : (b : Bool) (t : ℕ) → is_whole stages t ≡ b → Whole i ≡ cond b (Whole t) (Run (part_by (end_of stages) (length stages) t)) → is_whole stages i ≡ true
      go true t w q = ap (λ z. is_whole stages (number z)) q ∙ w
      go false t w q = absurd (let no : false ≡ true = ap is_run q in cc)

  ascending_runs : (a k l i j : ℕ) (numbers : List ℕ) → slice_get (plan_of stages) a ≡ Some (Run numbers) → slice_get numbers k ≡ Some i → slice_get numbers l ≡ Some j → k < l → i < j
  ascending_runs a k l i j numbers e g h m = let s = step-of a (Run numbers) e in go (is_whole stages s.0) s.0 s.2
    where
      go : (b : Bool) (t : ℕ) → Run numbers ≡ cond b (Whole t) (Run (part_by (end_of stages) (length stages) t)) → i < j
      go true t q = absurd (let no : true ≡ false = ap is_run q in cc)
      go false t q =
          let same : part_by (end_of stages) (length stages) t ≡ numbers = sym (ap numbers_of q) in
          rising (λ x. end_of stages x == t) 0 (length stages) k l i j (ap (λ xs. slice_get xs k) same ∙ g) (ap (λ xs. slice_get xs l) same ∙ h) m

  -- a stage whose end is that of step a stands in it
  stands-at : (i a t : ℕ) → slice_get (ends stages (length stages)) a ≡ Some t → i < length stages → end_of stages i ≡ t → StandsIn (plan_of stages) i a
  stands-at i a t at l e =
      let last = is_end a t at in
      (step_at stages t, map-at (step_at stages) (ends stages (length stages)) a t at, in-step t i last.0 last.1 l ∙ eq-eqb (end_of stages i) t e)

  -- the stage in which step a ends is its greatest, and no other is
  end-at : (a t : ℕ) → slice_get (ends stages (length stages)) a ≡ Some t → IsEnd (plan_of stages) t a
  end-at a t at = let last = is_end a t at in record {
    stands = stands-at t a t at last.0 last.1;
    greatest = λ j h. let e : end_of stages j ≡ t = some-same (sym (stands j a h).1 ∙ at) in let up = end-up stages forest j in omega (arith, e, up);
  }

  at-end : (i a : ℕ) → IsEnd (plan_of stages) i a → slice_get (ends stages (length stages)) a ≡ Some i
  at-end i a e =
      let s = stands i a e.stands in let last = is_end a (end_of stages i) s.1 in
      let less = e.greatest (end_of stages i) (stands-at (end_of stages i) a (end_of stages i) s.1 last.0 last.1) in let up = end-up stages forest i in
      let same : end_of stages i ≡ i = omega (arith, less, up) in s.1 ∙ ap Some same

  joined_steps : (j a : ℕ) → StandsIn (plan_of stages) j a → IsEnd (plan_of stages) j a ⊎ ((i : ℕ) × Takes stages i j × StandsIn (plan_of stages) i a)
  joined_steps j a h = go (next-leads stages forest j)
    where
      go : Leads stages j (next stages j) → IsEnd (plan_of stages) j a ⊎ ((i : ℕ) × Takes stages i j × StandsIn (plan_of stages) i a)
      go (inl e) = inl (end-at a j ((stands j a h).1 ∙ ap Some (end-here stages forest j e)))
      go (inr g) =
          let s = stands j a h in
          inr (next stages j, g.0, stands-at (next stages j) a (end_of stages j) s.1 (slice_get_within stages (next stages j) g.0.0 g.0.1) (end-next stages forest j s.0))

  some_end : (a : ℕ) → a < length (plan_of stages) → (i : ℕ) × IsEnd (plan_of stages) i a
  some_end a l = let s = step-of a _ (slice_get-get_or (plan_of stages) a (Whole 0) l) in (s.0, end-at a s.0 s.1)

  ordered_steps : (i j a b : ℕ) → IsEnd (plan_of stages) i a → IsEnd (plan_of stages) j b → a < b → i < j
  ordered_steps i j a b e f l = rising (λ x. end_of stages x == x) 0 (length stages) a b i j (at-end i a e) (at-end j b f) l

  one_step_each : (i : ℕ) → i < length stages → count_by (is_in i) (plan_of stages) ≡ 1
  one_step_each i l = counted-once (λ k. end_of stages k == k) (step_at stages) (is_in i) (end_of stages i) 0 (length stages)
      (eq-eqb (end_of stages (end_of stages i)) (end_of stages i) (end-end stages forest i l)) (omega arith) (let m = end-inside stages forest i l in omega (arith, m))
      (λ k a m h. in-step k i (omega (arith, m)) (eqb-true (end_of stages k) k h) l)

  pub covered : Covers stages (plan_of stages)
  covered = record {
    one = one_step_each;
    only = λ i a h. (stands i a h).0;
    whole = whole_steps;
    streamed = whole_only;
    ascending = ascending_runs;
    earlier = earlier_steps;
    inside = inside_a_run;
    joined = joined_steps;
    some = some_end;
    ordered = ordered_steps;
  }
