-- Entries whose places rise: by their keys and places they stand as they do by their keys alone, those of one key in their order.
use Rattle.std.proofs.Common.{◌≡◌, ℕ, suc, ◌+◌, ◌<◌, Bool, true, false, not, ◌&&◌, cond, List, [], ◌∷◌, length, get_or, refl, ap, sym, ◌∙◌, arith}
use Rattle.std.specs.Prelude.{filter, IsSortedBy, IsPermutation, ℤ, int_lt}
use Rattle.std.specs.declared.cmp.Ordering.{Ordering}
use Rattle.std.specs.declared.cmp.Ordering.TheVariants.{Less, Equal, Greater}
use Rattle.std.specs.Ordering.{is_lt, int_cmp, nat_cmp, on, ordering_reverse, ordering_then, then_cmp}
use Rattle.std.specs.Cmp.{IsStrictWeakOrder, IsTotalOrder}
use Rattle.std.specs.List.Sorted.{ties}
use Rattle.std.proofs.lemmas.Bool.Decides.{nat_tests}
use Rattle.std.proofs.lemmas.Cmp.{ranked, int_ranked, on_total, then_total, int_cmp_total, nat_cmp_total}
use Rattle.std.proofs.lemmas.List.Sorted.{ranks_by, sum_by-IsPermutation}
use Rattle.std.proofs.lemmas.List.Sums.{length-filter}
use Rattle.whole_filters.specs.Whole.{before, insert_by, sorted_by}
use Rattle.whole_filters.specs.declared.places.Entry.{Entry}
use Rattle.whole_filters.proofs.Sorting.{Each, each_at, each-sorted, sorted_by-only}

-- how entries stand
abbrev pub entry_cmp : Entry → Entry → Ordering
entry_cmp = then_cmp (on (λ (e : Entry). e.key) int_cmp) (on (λ (e : Entry). e.place) nat_cmp)

abbrev pub entry_lt : Entry → Entry → Bool
entry_lt a b = is_lt (entry_cmp a b)

abbrev key_lt : Entry → Entry → Bool
key_lt = before (λ (e : Entry). e.key) false

entry_total : IsTotalOrder entry_cmp
entry_total = then_total (on_total (λ (e : Entry). e.key) int_cmp_total) (on_total (λ (e : Entry). e.place) nat_cmp_total)

entry-order : IsStrictWeakOrder entry_lt
entry-order = ranks_by entry_total (λ (e : Entry). e)

tied : (o p : Ordering) → o ≡ ordering_reverse p → not (is_lt o) && not (is_lt p) ≡ true → o ≡ Equal
tied Less p e f = absurd cc
tied Equal p e f = refl
tied Greater Less e f = absurd cc
tied Greater Equal e f = absurd cc
tied Greater Greater e f = absurd cc

both_equal : (o p : Ordering) → ordering_then o p ≡ Equal → (o ≡ Equal) × (p ≡ Equal)
both_equal Less p e = absurd cc
both_equal Equal p e = (refl, e)
both_equal Greater p e = absurd cc

-- entries of one key and one place are one
ties-same : (a b : Entry) → ties entry_lt a b ≡ true → a ≡ b
ties-same a b e =
    let both = both_equal (int_cmp a.key b.key) (nat_cmp a.place b.place) (tied (entry_cmp a b) (entry_cmp b a) (entry_total.antisymm a b) e) in
    let key : a.key ≡ b.key = int_ranked a.key b.key Equal (sym both.0) in
    let place : a.place ≡ b.place = ranked a.place b.place Equal (sym both.1) in
    let with_key : ℤ → Entry = λ k. record { key = k; place = a.place } in
    let with_place : ℕ → Entry = λ n. record { key = b.key; place = n } in
    ap with_key key ∙ ap with_place place

-- a list of one element alone, so many times
all_same : {A : Type 0} (x : A) (xs ys : List A) → Each (λ y. y ≡ x) xs → Each (λ y. y ≡ x) ys → length xs ≡ length ys → xs ≡ ys
all_same x [] [] e f l = refl
all_same x [] (y ∷ ys) e f l = absurd (omega (arith, l))
all_same x (y ∷ xs) [] e f l = absurd (omega (arith, l))
all_same x (y ∷ xs) (z ∷ ys) e f l = ap (λ w. w ∷ xs) (e.0 ∙ sym f.0) ∙ ap (λ w. z ∷ w) (all_same x xs ys e.1 f.1 (omega (arith, l)))

each-passed : {A : Type 0} (P : A → Type 0) (t : A → Bool) → ((y : A) → t y ≡ true → P y) → (xs : List A) → Each P (filter t xs)
each-passed P t h [] = tt
each-passed {A} P t h (x ∷ xs) = go (t x) refl (each-passed P t h xs)
  where
    go : (b : Bool) → t x ≡ b → Each P (filter t xs) → Each P (cond b (x ∷ filter t xs) (filter t xs))
    go true e ih = (h x e, ih)
    go false e ih = ih

-- a list with the same entries, in order, is the sorted one
placed-only : (es ys : List Entry) → IsPermutation es ys → IsSortedBy entry_lt ys → ys ≡ sorted_by entry_lt es
placed-only es ys moved up = sorted_by-only entry_lt entry-order es ys up (λ x.
    all_same x (filter (ties entry_lt x) ys) (filter (ties entry_lt x) es) (alike x ys) (alike x es)
    (length-filter (ties entry_lt x) ys ∙ sum_by-IsPermutation (λ y. cond (ties entry_lt x y) 1 0) es ys moved ∙ sym (length-filter (ties entry_lt x) es)))
  where
    alike : (x : Entry) (xs : List Entry) → Each (λ y. y ≡ x) (filter (ties entry_lt x) xs)
    alike x xs = each-passed (λ y. y ≡ x) (ties entry_lt x) (λ y e. sym (ties-same x y e)) xs

-- each place is below those behind it
abbrev pub Rising : List Entry → Type 0
Rising [] = Unit {0}
Rising (e ∷ es) = Each (λ x. e.place < x.place) es × Rising es

then_greater : (o : Ordering) → is_lt (ordering_then o Greater) ≡ is_lt o
then_greater Less = refl
then_greater Equal = refl
then_greater Greater = refl

lt-cmp : (a b : Bool) → is_lt (cond a Less (cond b Greater Equal)) ≡ a
lt-cmp true b = refl
lt-cmp false true = refl
lt-cmp false false = refl

-- against an entry with a lower place the key alone counts
by_key : (e x : Entry) → e.place < x.place → entry_lt x e ≡ key_lt x e
by_key e x l =
    let above : nat_cmp x.place e.place ≡ Greater = grind (arith, nat_tests) in
    ap (λ o. is_lt (ordering_then (int_cmp x.key e.key) o)) above ∙ then_greater (int_cmp x.key e.key) ∙ lt-cmp (int_lt x.key e.key) (int_lt e.key x.key)

insert_by-place : (e : Entry) (es : List Entry) → Each (λ x. e.place < x.place) es → insert_by entry_lt e es ≡ insert_by key_lt e es
insert_by-place e [] above = refl
insert_by-place e (x ∷ xs) above =
    ap (λ b. cond b (x ∷ insert_by entry_lt e xs) (e ∷ x ∷ xs)) (by_key e x above.0) ∙ ap (λ z. cond (key_lt x e) (x ∷ z) (e ∷ x ∷ xs)) (insert_by-place e xs above.1)

sorted_by-place : (es : List Entry) → Rising es → sorted_by entry_lt es ≡ sorted_by key_lt es
sorted_by-place [] rise = refl
sorted_by-place (e ∷ es) rise =
    insert_by-place e (sorted_by entry_lt es) (each-sorted entry_lt entry-order (λ x. e.place < x.place) es rise.0) ∙ ap (insert_by key_lt e) (sorted_by-place es rise.1)

-- entries with the places from n on
pub rising_from : (n : ℕ) (es : List Entry) → ((k : ℕ) (d : Entry) → k < length es → (get_or es k d).place ≡ n + k) → Rising es
rising_from n [] h = tt
rising_from n (e ∷ es) h = (above, rising_from (suc n) es (λ k d l. omega (arith, h (suc k) d (omega (arith, l)))))
  where
    above : Each (λ x. e.place < x.place) es
    above = each_at (λ x. e.place < x.place) es (λ k d l. omega (arith, h 0 e (omega arith), h (suc k) d (omega (arith, l))))

-- sorted by keys and places, they are sorted stably by their keys
pub entries_in_order : (es ys : List Entry) → Rising es → IsPermutation es ys → IsSortedBy entry_lt ys → ys ≡ sorted_by key_lt es
entries_in_order es ys rise moved up = placed-only es ys moved up ∙ sorted_by-place es rise
