-- How often a number is taken, and how large it is.
use Rattle.std.proofs.Common.{ℕ, zero, suc, ◌≡◌, ◌≤◌, ◌<◌, ◌≢◌, ◌&&◌, ◌+◌, ◌==◌, ◌∙◌, ◌||◌, List, [], ◌∷◌, ◌++◌, map, filter, find, length, position, Bool, true, false, true≢false, not, cond, nat_lt, Some, None, is_some, is_none, unwrap_or, refl, ap, sym, subst, arith, append_assoc, append-nil, eqb-true, eq-eqb, ltb-true, ltb-false}
use Rattle.std.specs.List.{list_all, range_with_len, prefix_len}
use Rattle.std.proofs.lemmas.Bool.{or_parts}
use Rattle.std.proofs.lemmas.Option.{none-some}
use Rattle.std.proofs.lemmas.List.Sums.{sum_by-append, sum_by-cons}
use Rattle.pipeline_json.specs.Lists.{has, times, has_twice}

times-cons : (j k : ℕ) (ks : List ℕ) → times j (k ∷ ks) ≡ cond (k == j) 1 0 + times j ks
times-cons j k ks = sum_by-cons (λ i. cond (i == j) 1 0) k ks

pub times-append : (j : ℕ) (xs ys : List ℕ) → times j (xs ++ ys) ≡ times j xs + times j ys
times-append j xs ys = sum_by-append (λ i. cond (i == j) 1 0) xs ys

absent : (j : ℕ) (ks : List ℕ) → has ks j ≡ false → times j ks ≡ 0
absent j [] h = refl
absent j (k ∷ ks) h =
    let p = or_parts (k == j) (has ks j) h in
    times-cons j k ks ∙ rw (p.0, absent j ks p.1) refl

pub present : (j : ℕ) (ks : List ℕ) → has ks j ≡ true → 1 ≤ times j ks
present j [] h = absurd (true≢false (sym h))
present j (k ∷ ks) h = rw (times-cons j k ks) (go (k == j) refl (present j ks))
  where
    go : (b : Bool) → (k == j) ≡ b → (has ks j ≡ true → 1 ≤ times j ks) → 1 ≤ cond (k == j) 1 0 + times j ks
    go true e rest = rw e (omega arith)
    go false e rest = rw e (omega (arith, rest (ap (λ b. b || has ks j) (sym e) ∙ h)))

once_more : (j k : ℕ) (ks : List ℕ) → has ks k ≡ false → times j ks ≤ 1 → times j (ks ++ k ∷ []) ≤ 1
once_more j k ks h t = rw (times-append j ks (k ∷ []), times-cons j k []) (go (k == j) refl)
  where
    go : (b : Bool) → (k == j) ≡ b → times j ks + (cond (k == j) 1 0 + times j []) ≤ 1
    go true e = rw (e, absent j ks (subst (λ i. has ks i ≡ false) (eqb-true k j e) h)) (omega arith)
    go false e = rw e (omega (arith, t))

-- what stands nowhere twice stands once at most
pub all_once : (js ks : List ℕ) → has_twice ks js ≡ false → ((j : ℕ) → times j ks ≤ 1) → (j : ℕ) → times j (ks ++ js) ≤ 1
all_once [] ks h t j = rw (append-nil ks) (t j)
all_once (k ∷ js) ks h t j =
    let p = or_parts (has ks k) (has_twice (ks ++ k ∷ []) js) h in
    subst (λ xs. times j xs ≤ 1) (append_assoc ks (k ∷ []) js) (all_once js (ks ++ k ∷ []) p.1 (λ i. once_more i k ks p.0 (t i)) j)

-- ---- numbers below a bound

below_step : (j k n : ℕ) (ks : List ℕ) → (k == j || has ks j) ≡ true → k < n → (has ks j ≡ true → j < n) → j < n
below_step j k n ks h low rest = go (k == j) refl
  where
    go : (b : Bool) → (k == j) ≡ b → j < n
    go true e = subst (λ i. i < n) (eqb-true k j e) low
    go false e = rest (ap (λ b. b || has ks j) (sym e) ∙ h)

in_range : (j a n : ℕ) → has (range_with_len a n) j ≡ true → j < a + n
in_range j a zero h = absurd (true≢false (sym h))
in_range j a (suc n) h = below_step j a (a + suc n) (range_with_len (a + 1) n) h (omega arith) (λ r. omega (arith, in_range j (a + 1) n r))

either_step : (a b c : Bool) → (a || b) ≡ true → (b ≡ true → c ≡ true) → (a || c) ≡ true
either_step true b c h f = refl
either_step false b c h f = f h

or_right : (a b : Bool) → b ≡ true → (a || b) ≡ true
or_right true b h = refl
or_right false b h = h

filtered : (p : ℕ → Bool) (j : ℕ) (xs : List ℕ) → has (filter p xs) j ≡ true → has xs j ≡ true
filtered p j [] h = h
filtered p j (x ∷ xs) h = go (p x) h (filtered p j xs)
  where
    go : (b : Bool) → has (cond b (x ∷ filter p xs) (filter p xs)) j ≡ true → (has (filter p xs) j ≡ true → has xs j ≡ true) → has (x ∷ xs) j ≡ true
    go true g rest = either_step (x == j) (has (filter p xs) j) (has xs j) g rest
    go false g rest = or_right (x == j) (has xs j) (rest g)

-- the numbers of a filtered range are below its length
pub in_pile : (p : ℕ → Bool) (j n : ℕ) → has (filter p (range_with_len 0 n)) j ≡ true → j < n
in_pile p j n h = omega (arith, in_range j 0 n (filtered p j (range_with_len 0 n) h))

-- a place that is found lies in the list
pub found_within : {X : Type 0} (p : X → Bool) (xs : List X) → is_none (position p xs) ≡ false → unwrap_or (position p xs) 0 < length xs
found_within p xs = go (nat_lt (prefix_len (λ x. not (p x)) xs) (length xs)) refl
  where
    go : (b : Bool) → nat_lt (prefix_len (λ x. not (p x)) xs) (length xs) ≡ b → is_none (cond b (Some (prefix_len (λ x. not (p x)) xs)) None) ≡ false
        → unwrap_or (cond b (Some (prefix_len (λ x. not (p x)) xs)) None) 0 < length xs
    go true e h = ltb-true _ _ e
    go false e h = absurd (true≢false h)

all_pass : {X : Type 0} (q : X → Bool) (xs : List X) → length xs ≤ prefix_len q xs → list_all q xs ≡ true
all_pass q [] h = refl
all_pass q (x ∷ xs) h = go (q x) h (all_pass q xs)
  where
    go : (b : Bool) → suc (length xs) ≤ cond b (1 + prefix_len q xs) 0 → (length xs ≤ prefix_len q xs → list_all q xs ≡ true) → (b && list_all q xs) ≡ true
    go true g rest = rest (omega (arith, g))
    go false g rest = absurd (omega (arith, g))

-- where no place is found all fail the test
pub none_found : {X : Type 0} (p : X → Bool) (xs : List X) → is_some (position p xs) ≡ false → list_all (λ x. not (p x)) xs ≡ true
none_found p xs h = all_pass (λ x. not (p x)) xs (ltb-false _ _ (go (nat_lt (prefix_len (λ x. not (p x)) xs) (length xs)) h))
  where
    go : (b : Bool) → is_some (cond b (Some (prefix_len (λ x. not (p x)) xs)) None) ≡ false → b ≡ false
    go true e = absurd (true≢false e)
    go false e = refl

not_false : (b : Bool) → not b ≡ true → b ≡ false
not_false true h = absurd (true≢false (sym h))
not_false false h = refl

and_parts : (a b : Bool) → (a && b) ≡ true → (a ≡ true) × (b ≡ true)
and_parts true b h = (refl, h)
and_parts false b h = absurd (true≢false (sym h))

-- the numbers that elements have are below a bound where each of them is
pub in_places : {X : Type 0} (unknown : X → Bool) (place : X → ℕ) (j n : ℕ) → ((x : X) → unknown x ≡ false → place x < n)
    → (xs : List X) → list_all (λ x. not (unknown x)) xs ≡ true → has (map place xs) j ≡ true → j < n
in_places unknown place j n low [] h g = absurd (true≢false (sym g))
in_places unknown place j n low (x ∷ xs) h g =
    let p = and_parts (not (unknown x)) (list_all (λ y. not (unknown y)) xs) h in
    below_step j (place x) n (map place xs) g (low x (not_false (unknown x) p.0)) (in_places unknown place j n low xs p.1)

-- where none is found in a range all fail the test
pub none_in_range : (p : ℕ → Bool) (a n : ℕ) → find p (range_with_len a n) ≡ None → (j : ℕ) → a ≤ j → j < a + n → p j ≡ false
none_in_range p a zero h j low high = absurd (omega (arith, low, high))
none_in_range p a (suc n) h j low high = go (p a) refl h (none_in_range p (a + 1) n)
  where
    rest : (b : Bool) → (a == j) ≡ b → p a ≡ false → (a + 1 ≤ j → p j ≡ false) → p j ≡ false
    rest true is e later = subst (λ i. p i ≡ false) (eqb-true a j is) e
    rest false is e later =
        let apart : a ≢ j = λ same. true≢false (sym (eq-eqb a j same) ∙ is) in
        later (omega (arith, low, apart))

    go : (b : Bool) → p a ≡ b → cond b (Some a) (find p (range_with_len (a + 1) n)) ≡ None
        → (find p (range_with_len (a + 1) n) ≡ None → (i : ℕ) → a + 1 ≤ i → i < a + 1 + n → p i ≡ false) → p j ≡ false
    go true e g later = absurd (none-some a (sym g))
    go false e g later = rest (a == j) refl e (λ above. later g j above (omega (arith, high)))
