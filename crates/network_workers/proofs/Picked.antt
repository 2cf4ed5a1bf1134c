-- The ends above the children of nodes are taken one by one.
use Rattle.std.proofs.Common.{◌≡◌, ℕ, zero, suc, ◌+◌, ◌<◌, ◌≤◌, Bool, true, false, List, [], ◌∷◌, ◌++◌, length, Option, Some, None, refl, ap, subst, sym, ◌∙◌, append_assoc, arith, map, take, length-append}
use Rattle.std.specs.Prelude.{◌==◌, is_some, slice_get, slice_index_or, slice_set}
use Rattle.std.proofs.lemmas.Bool.{eq-eqb, eqb-true}
use Rattle.std.proofs.lemmas.List.{get_or-set_other, length-take-le, take_more}
use Rattle.chunk_queue.specs.Ends.{InSeen}
use Rattle.network_theory.specs.Forest.{children, one_if, count_in, count_all}
use Rattle.network_theory.specs.Shape.{Each}
use Rattle.network_workers.specs.declared.seats.SeatIn.{SeatIn}
use Rattle.network_workers.specs.Dealt.{add_some, picked, entries}
use Rattle.network_workers.specs.Rooms.{present, left, end_at, ends_at, AreThere}

-- the element at a place of a list whose elements are there
pub there-at : {X : Type 0} (xs : List X) (k : ℕ) → slice_index_or (map Some xs) k None ≡ slice_get xs k
there-at [] k = refl
there-at (x ∷ xs) zero = refl
there-at (x ∷ xs) (suc k) = there-at xs k

pub there-but_last : {X : Type 0} (xs : List X) (k : ℕ) → slice_index_or (map Some xs ++ None ∷ []) k None ≡ slice_get xs k
there-but_last [] zero = refl
there-but_last [] (suc k) = refl
there-but_last (x ∷ xs) zero = refl
there-but_last (x ∷ xs) (suc k) = there-but_last xs k

-- how often a number is among others
pub count-append : (c : ℕ) (xs ys : List ℕ) → count_in c (xs ++ ys) ≡ count_in c xs + count_in c ys
count-append c [] ys = omega arith
count-append c (x ∷ xs) ys = let h = count-append c xs ys in omega (arith, h)

pub count-here : (c : ℕ) (xs : List ℕ) → 0 < count_in c (c ∷ xs)
count-here c xs = subst (λ b. 0 < one_if b + count_in c xs) (sym (eq-eqb c c refl)) (omega arith)

pub count-below : (k c : ℕ) (xs : List ℕ) → Each (λ j. j < k) xs → 0 < count_in c xs → c < k
count-below k c [] h l = absurd (omega (arith, l))
count-below k c (x ∷ xs) h l = by_head (count-below k c xs h.1) (c == x) refl
  where
    by_head : (0 < count_in c xs → c < k) → (b : Bool) → (c == x) ≡ b → c < k
    by_head ih true e = subst (λ j. j < k) (sym (eqb-true c x e)) h.0
    by_head ih false e = ih (let m : 0 < one_if false + count_in c xs = subst (λ b. 0 < one_if b + count_in c xs) e l in omega (arith, m))

pub count-one : (ins : List (List ℕ)) (k c : ℕ) → count_in c (children ins k) ≤ count_all c ins
count-one [] k c = omega arith
count-one (xs ∷ xss) zero c = omega arith
count-one (xs ∷ xss) (suc k) c = let h = count-one xss k c in omega (arith, h)

pub count-two : (ins : List (List ℕ)) (k p c : ℕ) → k < p → count_in c (children ins k) + count_in c (children ins p) ≤ count_all c ins
count-two [] k p c l = omega arith
count-two (xs ∷ xss) zero (suc p) c l = let h = count-one xss p c in omega (arith, h)
count-two (xs ∷ xss) (suc k) (suc p) c l = let h = count-two xss k p c (omega (arith, l)) in omega (arith, h)
count-two (xs ∷ xss) k zero c l = absurd (omega (arith, l))

-- one end is taken
pub present-set : (xs : List (Option InSeen)) (c : ℕ) (e : InSeen) → end_at xs c ≡ Some e → length (present (slice_set xs c None)) + 1 ≡ length (present xs)
present-set [] c e h = cc
present-set (None ∷ xs) zero e h = cc
present-set (Some x ∷ xs) zero e h = omega arith
present-set (None ∷ xs) (suc c) e h = present-set xs c e h
present-set (Some x ∷ xs) (suc c) e h = let m = present-set xs c e h in omega (arith, m)

none-after : (xs : List (Option InSeen)) (c : ℕ) (e : InSeen) → end_at xs c ≡ Some e → c < length xs
none-after [] c e h = cc
none-after (x ∷ xs) zero e h = omega arith
none-after (x ∷ xs) (suc c) e h = let m = none-after xs c e h in omega (arith, m)

-- the ends above several nodes
add-append : {X : Type 0} (x : Option X) (xs ys : List X) → add_some x (xs ++ ys) ≡ add_some x xs ++ ys
add-append None xs ys = refl
add-append (Some x) xs ys = refl

pub ends_at-append : (inns : List (Option InSeen)) (xs ys : List ℕ) → ends_at inns (xs ++ ys) ≡ ends_at inns xs ++ ends_at inns ys
ends_at-append inns [] ys = refl
ends_at-append inns (x ∷ xs) ys = ap (add_some (end_at inns x)) (ends_at-append inns xs ys) ∙ add-append (end_at inns x) (ends_at inns xs) (ends_at inns ys)

add-length : {X : Type 0} (x : Option X) (xs : List X) → is_some x ≡ true → length (add_some x xs) ≡ suc (length xs)
add-length None xs h = cc
add-length (Some x) xs h = refl

pub ends_at-length : (inns : List (Option InSeen)) (cs : List ℕ) → ((c : ℕ) → 0 < count_in c cs → is_some (end_at inns c) ≡ true) → length (ends_at inns cs) ≡ length cs
ends_at-length inns [] h = refl
ends_at-length inns (c ∷ cs) h =
    add-length (end_at inns c) (ends_at inns cs) (h c (count-here c cs))
    ∙ ap suc (ends_at-length inns cs (λ j l. h j (omega (arith, l))))

pub ends_at-picked : (inns : List (Option InSeen)) (given : List InSeen) (cs : List ℕ) → ((c : ℕ) → 0 < count_in c cs → end_at inns c ≡ slice_get given c) → ends_at inns cs ≡ picked given cs
ends_at-picked inns given [] h = refl
ends_at-picked inns given (c ∷ cs) h =
    ap (λ x. add_some x (ends_at inns cs)) (h c (count-here c cs))
    ∙ ap (add_some (slice_get given c)) (ends_at-picked inns given cs (λ j l. h j (omega (arith, l))))

pub entries-append : (seat input j : ℕ) (xs : List InSeen) (e : InSeen) → j ≡ input + length xs → entries seat input (xs ++ e ∷ []) ≡ entries seat input xs ++ record { seat = seat; input = j; end = e } ∷ []
entries-append seat input j [] e h = ap (λ i. record { seat = seat; input = i; end = e } ∷ []) (sym (h ∙ omega arith))
entries-append seat input j (x ∷ xs) e h = ap (λ l. record { seat = seat; input = input; end = x } ∷ l) (entries-append seat (suc input) j xs e (omega (arith, h)))

-- a seat's ends, once those above the first of its node's children were taken
pub record IsGiving (seat : ℕ) (before : List (Option InSeen)) (had : List SeatIn) (front : List ℕ) (inns : List (Option InSeen)) (ins : List SeatIn) : Type 0 where
  pub ins_are : ins ≡ had ++ entries seat 0 (ends_at before front)
  pub others : (c : ℕ) → count_in c front ≡ 0 → end_at inns c ≡ end_at before c
  pub left : length front + length (present inns) ≡ length (present before)

append-nothing : {X : Type 0} (xs : List X) → xs ≡ xs ++ []
append-nothing [] = refl
append-nothing (x ∷ xs) = ap (λ l. x ∷ l) (append-nothing xs)

pub giving-nothing : (seat : ℕ) (before : List (Option InSeen)) (had : List SeatIn) → IsGiving seat before had [] before had
giving-nothing seat before had = record { ins_are = append-nothing had; others = λ c h. refl; left = omega arith }

pub giving-on : (seat : ℕ) (before : List (Option InSeen)) (had : List SeatIn) (front : List ℕ) (inns : List (Option InSeen)) (ins : List SeatIn) (c : ℕ) (e : InSeen) → IsGiving seat before had front inns ins
    → count_in c front ≡ 0 → end_at inns c ≡ Some e → ((j : ℕ) → 0 < count_in j front → is_some (end_at before j) ≡ true)
    → IsGiving seat before had (front ++ c ∷ []) (slice_set inns c None) (ins ++ record { seat = seat; input = length front; end = e } ∷ [])
giving-on seat before had front inns ins c e h new here there = record {
  ins_are =
      ap (λ l. l ++ record { seat = seat; input = length front; end = e } ∷ []) h.ins_are
      ∙ append_assoc had (entries seat 0 (ends_at before front)) (record { seat = seat; input = length front; end = e } ∷ [])
      ∙ ap (λ l. had ++ l) (sym (entries-append seat 0 (length front) (ends_at before front) e (let n = ends_at-length before front there in omega (arith, n))))
      ∙ ap (λ l. had ++ entries seat 0 (ends_at before front ++ l)) (sym (ap (λ x. add_some x []) (sym (h.others c new) ∙ here)))
      ∙ ap (λ l. had ++ entries seat 0 l) (sym (ends_at-append before front (c ∷ [])));
  others = λ j l.
      let m = count-append j front (c ∷ []) in
      let before_same = h.others j (omega (arith, l, m)) in
      get_or-set_other inns c j None None (λ z. let p : 0 < count_in j (c ∷ []) = subst (λ i. 0 < count_in j (i ∷ [])) z (count-here j []) in omega (arith, l, m, p)) ∙ before_same;
  left = let a = present-set inns c e here in let b = h.left in let n = length-append front (c ∷ []) in omega (arith, a, b, n);
}

-- the next child of a list
count-at : (cs : List ℕ) (k d c : ℕ) → k < length cs → slice_index_or cs k d ≡ c → count_in c (take k cs) + 1 ≤ count_in c cs
count-at [] k d c l e = absurd (omega (arith, l))
count-at (x ∷ xs) zero d c l e = let h = subst (λ z. 0 < count_in c (z ∷ xs)) (sym e) (count-here c xs) in omega (arith, h)
count-at (x ∷ xs) (suc k) d c l e = let h = count-at xs k d c (omega (arith, l)) e in omega (arith, h)

count-take : (cs : List ℕ) (k c : ℕ) → count_in c (take k cs) ≤ count_in c cs
count-take [] zero c = omega arith
count-take [] (suc k) c = omega arith
count-take (x ∷ xs) zero c = omega arith
count-take (x ∷ xs) (suc k) c = let h = count-take xs k c in omega (arith, h)

length-entries : (seat input : ℕ) (es : List InSeen) → length (entries seat input es) ≡ length es
length-entries seat input [] = refl
length-entries seat input (e ∷ es) = let h = length-entries seat (suc input) es in omega (arith, h)

module _ (seat : ℕ) (before : List (Option InSeen)) (had : List SeatIn) (cs : List ℕ) (all : AreThere before cs) where
  front-there : (k j : ℕ) → 0 < count_in j (take k cs) → is_some (end_at before j) ≡ true
  front-there k j l = (all j).0 (let m = count-take cs k j in omega (arith, l, m))

  module _ (k d : ℕ) (inns : List (Option InSeen)) (ins : List SeatIn) (inside : k < length cs) (h : IsGiving seat before had (take k cs) inns ins) where
    abbrev child : ℕ
    child = slice_index_or cs k d

    not-before : count_in child (take k cs) ≡ 0
    not-before = let a = count-at cs k d child inside refl in let b = (all child).1 in omega (arith, a, b)

    pub giving-there : is_some (end_at inns child) ≡ true
    giving-there = ap is_some (h.others child not-before) ∙ (all child).0 (let a = count-at cs k d child inside refl in omega (arith, a))

    front-length : length (take k cs) ≡ k
    front-length = length-take-le k cs (omega (arith, inside))

    pub giving-next : (inns' : List (Option InSeen)) (ins' : List SeatIn) (e : InSeen) → end_at inns child ≡ Some e → inns' ≡ slice_set inns child None → ins' ≡ ins ++ record { seat = seat; input = k; end = e } ∷ []
        → IsGiving seat before had (take (k + 1) cs) inns' ins'
    giving-next inns' ins' e here p q =
        subst (λ xs. IsGiving seat before had (take (k + 1) cs) xs ins') (sym p)
        (subst (λ xs. IsGiving seat before had (take (k + 1) cs) (slice_set inns child None) xs) (sym q)
        (subst (λ i. IsGiving seat before had (take (k + 1) cs) (slice_set inns child None) (ins ++ record { seat = seat; input = i; end = e } ∷ [])) front-length
        (subst (λ f. IsGiving seat before had f (slice_set inns child None) (ins ++ record { seat = seat; input = length (take k cs); end = e } ∷ [])) (sym (take_more cs k d inside))
        (giving-on seat before had (take k cs) inns ins child e h not-before here (front-there k)))))

  -- as many ends as were taken
  pub giving-count : (k : ℕ) (inns : List (Option InSeen)) (ins : List SeatIn) → IsGiving seat before had (take k cs) inns ins → length ins + left inns ≡ length had + left before
  giving-count k inns ins h =
      let a = ap (λ (xs : List SeatIn). length xs) h.ins_are in
      let b = length-append had (entries seat 0 (ends_at before (take k cs))) in
      let c = length-entries seat 0 (ends_at before (take k cs)) in
      let d = ends_at-length before (take k cs) (front-there k) in
      let e = h.left in omega (arith, a, b, c, d, e)

-- one end at least is there
pub some-left : (xs : List (Option InSeen)) (c : ℕ) (e : InSeen) → end_at xs c ≡ Some e → 0 < left xs
some-left xs c e h = let a = present-set xs c e h in omega (arith, a)
