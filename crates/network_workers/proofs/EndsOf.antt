-- The ends of the inputs of seats.
use Rattle.std.proofs.Common.{◌≡◌, ◌≢◌, ℕ, zero, suc, ◌<◌, Bool, true, false, cond, ◌⊎◌, inl, inr, List, [], ◌∷◌, ◌++◌, length, drop, Option, Some, None, refl, ap, subst, sym, ◌∙◌, append_assoc, append-nil, arith, true≢false}
use Rattle.std.specs.Prelude.{◌==◌, ◌&&◌, is_some, slice_index_or, slice_set}
use Rattle.std.proofs.lemmas.List.{map-append}
use Rattle.std.proofs.lemmas.Bool.{eqb-true, eq-eqb}
use Rattle.std.proofs.lemmas.Bool.Decides.{eqb_tells}
use Rattle.cloud_points.specs.declared.point.Point.{Point}
use Rattle.cloud_points.specs.declared.item.Item.{Item}
use Rattle.cloud_points.specs.Bodies.{bodies, seen}
use Rattle.cloud_points.specs.Marks as marks
use Rattle.chunk_queue.specs.Ends.{InSeen, OutSeen, in_seen, out_seen}
use Rattle.network_workers.specs.declared.seats.SeatIn.{SeatIn}
use Rattle.network_workers.specs.Ends.{is_at, end_of, first_at, got_on, sent_on, since, InGrew, EntryGrew, EndsGrew, EndGrew, OutGrew}

-- what came behind a list
pub since-none : (xs : List Item) → since xs xs ≡ []
since-none [] = refl
since-none (x ∷ xs) = since-none xs

pub since-append : (xs ys : List Item) → since xs (xs ++ ys) ≡ ys
since-append [] ys = refl
since-append (x ∷ xs) ys = since-append xs ys

pub same-grew : (xs : List Item) → xs ≡ xs ++ since xs xs
same-grew xs = sym (append-nil xs) ∙ ap (λ l. xs ++ l) (sym (since-none xs))

pub all_marks-append : (xs ys : List (marks.Item Point)) → marks.all_marks (xs ++ ys) ≡ marks.all_marks xs ++ marks.all_marks ys
all_marks-append [] ys = refl
all_marks-append (x ∷ xs) ys = ap (λ l. marks.marks x ++ l) (all_marks-append xs ys) ∙ sym (append_assoc (marks.marks x) (marks.all_marks xs) (marks.all_marks ys))

module _ (l m n : List Item) (h : m ≡ l ++ since l m) (g : n ≡ m ++ since m n) where
  both-grew : n ≡ l ++ (since l m ++ since m n)
  both-grew = g ∙ ap (λ x. x ++ since m n) h ∙ append_assoc l (since l m) (since m n)

  pub since-on : since l n ≡ since l m ++ since m n
  since-on = ap (since l) both-grew ∙ since-append l (since l m ++ since m n)

  pub grows-on : n ≡ l ++ since l n
  grows-on = both-grew ∙ ap (λ x. l ++ x) (sym since-on)

  pub marks-on : marks.all_marks (bodies (since l n)) ≡ marks.all_marks (bodies (since l m)) ++ marks.all_marks (bodies (since m n))
  marks-on = ap (λ x. marks.all_marks (bodies x)) since-on ∙ ap marks.all_marks (map-append (λ i. seen i.body) (since l m) (since m n)) ∙ all_marks-append (bodies (since l m)) (bodies (since m n))

-- ends that took more
pub in-same : (e : InSeen) → InGrew e e
in-same e = ap (in_seen e.queue e.capacity) (same-grew e.got)

pub in-got : (a b : InSeen) → InGrew a b → b.got ≡ a.got ++ since a.got b.got
in-got a b h = ap (λ (x : InSeen). x.got) h

pub in-on : (a b c : InSeen) → InGrew a b → InGrew b c → InGrew a c
in-on a b c h g =
    g ∙ ap (λ (x : InSeen). in_seen x.queue x.capacity (b.got ++ since b.got c.got)) h
    ∙ ap (in_seen a.queue a.capacity) (sym (in-got b c g) ∙ grows-on a.got b.got c.got (in-got a b h) (in-got b c g))

pub out-same : (o : Option OutSeen) → OutGrew o o
out-same None = tt
out-same (Some e) = ap (out_seen e.queue e.capacity) (same-grew e.sent)

pub out-sent : (a b : Option OutSeen) → OutGrew a b → sent_on b ≡ sent_on a ++ since (sent_on a) (sent_on b)
out-sent None None h = refl
out-sent (Some a) (Some b) h = ap (λ (x : OutSeen). x.sent) h
out-sent None (Some b) h = absurd h
out-sent (Some a) None h = absurd h

pub out-on : (a b c : Option OutSeen) → OutGrew a b → OutGrew b c → OutGrew a c
out-on None None None h g = tt
out-on (Some a) (Some b) (Some c) h g =
    let p : b.sent ≡ a.sent ++ since a.sent b.sent = ap (λ (x : OutSeen). x.sent) h in
    let q : c.sent ≡ b.sent ++ since b.sent c.sent = ap (λ (x : OutSeen). x.sent) g in
    g ∙ ap (λ (x : OutSeen). out_seen x.queue x.capacity (b.sent ++ since b.sent c.sent)) h
    ∙ ap (out_seen a.queue a.capacity) (sym q ∙ grows-on a.sent b.sent c.sent p q)
out-on None (Some b) c h g = absurd h
out-on (Some a) None c h g = absurd h
out-on None None (Some c) h g = absurd g
out-on (Some a) (Some b) None h g = absurd g

-- lists of ends
entry-same : (x : SeatIn) → EntryGrew x x
entry-same x = record { seat = refl; input = refl; end = in-same x.end }

pub ends-nothing : (xs : List SeatIn) → EndsGrew xs xs
ends-nothing [] = tt
ends-nothing (x ∷ xs) = (entry-same x, ends-nothing xs)

pub ends-on : (xs ys zs : List SeatIn) → EndsGrew xs ys → EndsGrew ys zs → EndsGrew xs zs
ends-on [] [] [] h g = tt
ends-on (x ∷ xs) (y ∷ ys) (z ∷ zs) h g = (
  record { seat = g.0.seat ∙ h.0.seat; input = g.0.input ∙ h.0.input; end = in-on x.end y.end z.end h.0.end g.0.end },
  ends-on xs ys zs h.1 g.1,
)
ends-on [] (y ∷ ys) zs h g = absurd h
ends-on (x ∷ xs) [] zs h g = absurd h
ends-on [] [] (z ∷ zs) h g = absurd g
ends-on (x ∷ xs) (y ∷ ys) [] h g = absurd g

pub ends-set : (xs : List SeatIn) (p : ℕ) (y : SeatIn) → ((d : SeatIn) → p < length xs → EntryGrew (slice_index_or xs p d) y) → EndsGrew xs (slice_set xs p y)
ends-set [] p y h = tt
ends-set (x ∷ xs) zero y h = (h x (omega arith), ends-nothing xs)
ends-set (x ∷ xs) (suc p) y h = (entry-same x, ends-set xs p y (λ d l. h d (omega arith)))

-- the end of one input
is_at-grew : (x y : SeatIn) (s k : ℕ) → EntryGrew x y → is_at y s k ≡ is_at x s k
is_at-grew x y s k h = ap (λ z. (z == s) && (y.input == k)) h.seat ∙ ap (λ z. (x.seat == s) && (z == k)) h.input

by_place : (b : Bool) (x y : InSeen) (p q : Option InSeen) → InGrew x y → EndGrew p q → EndGrew (cond b (Some x) p) (cond b (Some y) q)
by_place true x y p q h g = h
by_place false x y p q h g = g

pub end-grew : (xs ys : List SeatIn) (s k : ℕ) → EndsGrew xs ys → EndGrew (end_of xs s k) (end_of ys s k)
end-grew [] [] s k h = tt
end-grew (x ∷ xs) (y ∷ ys) s k h =
    subst (λ b. EndGrew (end_of (x ∷ xs) s k) (cond b (Some y.end) (end_of ys s k))) (sym (is_at-grew x y s k h.0))
    (by_place (is_at x s k) x.end y.end (end_of xs s k) (end_of ys s k) h.0.end (end-grew xs ys s k h.1))
end-grew [] (y ∷ ys) s k h = absurd h
end-grew (x ∷ xs) [] s k h = absurd h

pub got-grew : (a b : Option InSeen) → EndGrew a b → got_on b ≡ got_on a ++ since (got_on a) (got_on b)
got-grew None None h = refl
got-grew (Some a) (Some b) h = in-got a b h
got-grew None (Some b) h = absurd h
got-grew (Some a) None h = absurd h

-- the place of an end
and-both : (a b : Bool) → a && b ≡ true → (a ≡ true) × (b ≡ true)
and-both true true h = (refl, refl)
and-both true false h = cc
and-both false b h = cc

and-one : (a b : Bool) → (a ≡ false) ⊎ (b ≡ false) → a && b ≡ false
and-one true b (inl h) = absurd (true≢false h)
and-one true b (inr h) = h
and-one false b h = refl

pub ne-eqb : (a b : ℕ) → a ≢ b → (a == b) ≡ false
ne-eqb a b h = elim (eqb_tells a b) [ inl p ↦ absurd (h p.1) | inr p ↦ p.0 ]

pub is_at-here : (y : SeatIn) (s k : ℕ) → y.seat ≡ s → y.input ≡ k → is_at y s k ≡ true
is_at-here y s k a b = ap (λ z. z && (y.input == k)) (eq-eqb y.seat s a) ∙ eq-eqb y.input k b

pub is_at-other : (y : SeatIn) (s k s' k' : ℕ) → y.seat ≡ s → y.input ≡ k → (s' ≢ s) ⊎ (k' ≢ k) → is_at y s' k' ≡ false
is_at-other y s k s' k' a b (inl n) = and-one (y.seat == s') (y.input == k') (inl (ne-eqb y.seat s' (λ e. n (sym e ∙ a))))
is_at-other y s k s' k' a b (inr n) = and-one (y.seat == s') (y.input == k') (inr (ne-eqb y.input k' (λ e. n (sym e ∙ b))))

at-both : (x : SeatIn) (s k : ℕ) → is_at x s k ≡ true → (x.seat ≡ s) × (x.input ≡ k)
at-both x s k h = let p = and-both (x.seat == s) (x.input == k) h in (eqb-true x.seat s p.0, eqb-true x.input k p.1)

find-by : (x : SeatIn) (xs : List SeatIn) (s k : ℕ) (y : SeatIn) → first_at (x ∷ xs) s k < length (x ∷ xs) → y.seat ≡ s → y.input ≡ k → (first_at xs s k < length xs → end_of (slice_set xs (first_at xs s k) y) s k ≡ Some y.end)
    → (c : Bool) → is_at x s k ≡ c → end_of (slice_set (x ∷ xs) (first_at (x ∷ xs) s k) y) s k ≡ Some y.end
find-by x xs s k y l a b ih true e = subst (λ z. end_of (slice_set (x ∷ xs) (cond z 0 (suc (first_at xs s k))) y) s k ≡ Some y.end) (sym e)
    (ap (λ z. cond z (Some y.end) (end_of xs s k)) (is_at-here y s k a b))
find-by x xs s k y l a b ih false e = subst (λ z. end_of (slice_set (x ∷ xs) (cond z 0 (suc (first_at xs s k))) y) s k ≡ Some y.end) (sym e)
    (ap (λ z. cond z (Some x.end) (end_of (slice_set xs (first_at xs s k) y) s k)) e
    ∙ ih (let m : cond false 0 (suc (first_at xs s k)) < length (x ∷ xs) = subst (λ z. cond z 0 (suc (first_at xs s k)) < length (x ∷ xs)) e l in omega (arith, m)))

pub find-set : (xs : List SeatIn) (s k : ℕ) (y : SeatIn) → first_at xs s k < length xs → y.seat ≡ s → y.input ≡ k → end_of (slice_set xs (first_at xs s k) y) s k ≡ Some y.end
find-set [] s k y l a b = absurd (omega (arith, l))
find-set (x ∷ xs) s k y l a b = find-by x xs s k y l a b (λ m. find-set xs s k y m a b) (is_at x s k) refl

other-by : (x : SeatIn) (xs : List SeatIn) (s k s' k' : ℕ) (y : SeatIn) → y.seat ≡ s → y.input ≡ k → (s' ≢ s) ⊎ (k' ≢ k) → end_of (slice_set xs (first_at xs s k) y) s' k' ≡ end_of xs s' k'
    → (c : Bool) → is_at x s k ≡ c → end_of (slice_set (x ∷ xs) (first_at (x ∷ xs) s k) y) s' k' ≡ end_of (x ∷ xs) s' k'
other-by x xs s k s' k' y a b n ih true e =
    let p = at-both x s k e in
    subst (λ z. end_of (slice_set (x ∷ xs) (cond z 0 (suc (first_at xs s k))) y) s' k' ≡ end_of (x ∷ xs) s' k') (sym e)
    (ap (λ z. cond z (Some y.end) (end_of xs s' k')) (is_at-other y s k s' k' a b n)
    ∙ ap (λ z. cond z (Some x.end) (end_of xs s' k')) (sym (is_at-other x s k s' k' p.0 p.1 n)))
other-by x xs s k s' k' y a b n ih false e = subst (λ z. end_of (slice_set (x ∷ xs) (cond z 0 (suc (first_at xs s k))) y) s' k' ≡ end_of (x ∷ xs) s' k') (sym e)
    (ap (cond (is_at x s' k') (Some x.end)) ih)

pub other-set : (xs : List SeatIn) (s k s' k' : ℕ) (y : SeatIn) → y.seat ≡ s → y.input ≡ k → (s' ≢ s) ⊎ (k' ≢ k) → end_of (slice_set xs (first_at xs s k) y) s' k' ≡ end_of xs s' k'
other-set [] s k s' k' y a b n = refl
other-set (x ∷ xs) s k s' k' y a b n = other-by x xs s k s' k' y a b n (other-set xs s k s' k' y a b n) (is_at x s k) refl

-- what lies at the place of an end
pub record IsFirst (xs : List SeatIn) (s k : ℕ) : Type 0 where
  pub inside : first_at xs s k < length xs
  pub end : (d : SeatIn) → end_of xs s k ≡ Some (slice_index_or xs (first_at xs s k) d).end
  pub seat : (d : SeatIn) → (slice_index_or xs (first_at xs s k) d).seat ≡ s
  pub input : (d : SeatIn) → (slice_index_or xs (first_at xs s k) d).input ≡ k

first-by : (x : SeatIn) (xs : List SeatIn) (s k : ℕ) → is_some (end_of (x ∷ xs) s k) ≡ true → (is_some (end_of xs s k) ≡ true → IsFirst xs s k) → (c : Bool) → is_at x s k ≡ c → IsFirst (x ∷ xs) s k
first-by x xs s k h ih true e = let p = at-both x s k e in record {
  inside = subst (λ z. cond z 0 (suc (first_at xs s k)) < length (x ∷ xs)) (sym e) (omega arith);
  end = λ d. subst (λ z. cond z (Some x.end) (end_of xs s k) ≡ Some (slice_index_or (x ∷ xs) (cond z 0 (suc (first_at xs s k))) d).end) (sym e) refl;
  seat = λ d. subst (λ z. (slice_index_or (x ∷ xs) (cond z 0 (suc (first_at xs s k))) d).seat ≡ s) (sym e) p.0;
  input = λ d. subst (λ z. (slice_index_or (x ∷ xs) (cond z 0 (suc (first_at xs s k))) d).input ≡ k) (sym e) p.1;
}
first-by x xs s k h ih false e =
    let r : IsFirst xs s k = ih (subst (λ z. is_some (cond z (Some x.end) (end_of xs s k)) ≡ true) e h) in record {
      inside = subst (λ z. cond z 0 (suc (first_at xs s k)) < length (x ∷ xs)) (sym e) (let i = r.inside in omega (arith, i));
      end = λ d. subst (λ z. cond z (Some x.end) (end_of xs s k) ≡ Some (slice_index_or (x ∷ xs) (cond z 0 (suc (first_at xs s k))) d).end) (sym e) (r.end d);
      seat = λ d. subst (λ z. (slice_index_or (x ∷ xs) (cond z 0 (suc (first_at xs s k))) d).seat ≡ s) (sym e) (r.seat d);
      input = λ d. subst (λ z. (slice_index_or (x ∷ xs) (cond z 0 (suc (first_at xs s k))) d).input ≡ k) (sym e) (r.input d);
    }

pub is-first : (xs : List SeatIn) (s k : ℕ) → is_some (end_of xs s k) ≡ true → IsFirst xs s k
is-first [] s k h = cc
is-first (x ∷ xs) s k h = first-by x xs s k h (is-first xs s k) (is_at x s k) refl

-- the search from a place on
pub first-on : (xs : List SeatIn) (s k at : ℕ) (d : SeatIn) → at < length xs → is_at (slice_index_or xs at d) s k ≡ false → first_at (drop at xs) s k ≡ suc (first_at (drop (suc at) xs) s k)
first-on [] s k at d l h = absurd (omega (arith, l))
first-on (x ∷ xs) s k zero d l h = ap (λ z. cond z 0 (suc (first_at xs s k))) h
first-on (x ∷ xs) s k (suc at) d l h = first-on xs s k at d (omega (arith, l)) h

pub first-here : (xs : List SeatIn) (s k at : ℕ) (d : SeatIn) → at < length xs → is_at (slice_index_or xs at d) s k ≡ true → first_at (drop at xs) s k ≡ 0
first-here [] s k at d l h = absurd (omega (arith, l))
first-here (x ∷ xs) s k zero d l h = ap (λ z. cond z 0 (suc (first_at xs s k))) h
first-here (x ∷ xs) s k (suc at) d l h = first-here xs s k at d (omega (arith, l)) h

pub first-past : (xs : List SeatIn) (s k at : ℕ) → length xs ≡ at → first_at (drop at xs) s k ≡ 0
first-past [] s k zero e = refl
first-past [] s k (suc at) e = refl
first-past (x ∷ xs) s k zero e = absurd (omega (arith, e))
first-past (x ∷ xs) s k (suc at) e = first-past xs s k at (omega (arith, e))
