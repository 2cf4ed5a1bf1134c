-- The ends of new queues, one after the other.
use Rattle.std.proofs.Common.{◌≡◌, ℕ, zero, suc, ◌+◌, ◌-◌, ◌<◌, ◌⊎◌, inl, inr, List, [], ◌∷◌, ◌++◌, length, Option, Some, None, refl, ap, subst, sym, ◌∙◌, arith, map, length-append}
use Rattle.std.specs.Prelude.{slice_get}
use Rattle.std.proofs.lemmas.List.{map-append}
use Rattle.std.proofs.lemmas.Option.{slice_get_within}
use Rattle.chunk_queue.specs.Ends.{InSeen, OutSeen}
use Rattle.network_workers.specs.Dealt.{AreOpened}
use Rattle.network_workers.specs.Rooms.{present, AreNewEnds, HaveCapacity}

pub present-append : {X : Type 0} (xs ys : List (Option X)) → present (xs ++ ys) ≡ present xs ++ present ys
present-append [] ys = refl
present-append (None ∷ xs) ys = present-append xs ys
present-append (Some x ∷ xs) ys = ap (λ l. x ∷ l) (present-append xs ys)

append-nothing : {X : Type 0} (xs : List X) → xs ++ [] ≡ xs
append-nothing [] = refl
append-nothing (x ∷ xs) = ap (λ l. x ∷ l) (append-nothing xs)

-- the element at a place of a list with one more
get-more : {X : Type 0} (xs : List X) (x : X) (k : ℕ) (y : X) → slice_get (xs ++ x ∷ []) k ≡ Some y → (slice_get xs k ≡ Some y) ⊎ ((k ≡ length xs) × (x ≡ y))
get-more [] x zero y h = inr (refl, one-some x y h)
  where
    one-some : {X : Type 0} (a b : X) → Some a ≡ Some b → a ≡ b
    one-some a b e = cc
get-more [] x (suc k) y h = cc
get-more (z ∷ xs) x zero y h = inl h
get-more (z ∷ xs) x (suc k) y h = elim (get-more xs x k y h) [
  | inl e ↦ inl e
  | inr e ↦ inr (ap suc e.0, e.1)
]

-- so many queues were opened
pub record AreOpening (count : ℕ) (outs : List (Option OutSeen)) (inns : List (Option InSeen)) : Type 0 where
  pub outs_are : outs ≡ map Some (present outs)
  pub inns_are : inns ≡ map Some (present inns)
  pub opened : AreOpened count (present outs) (present inns)

opened-on : (count : ℕ) (outs : List OutSeen) (inns : List InSeen) (out : OutSeen) (inn : InSeen) → AreOpened count outs inns → out.queue ≡ inn.queue → (out.sent ≡ []) × (inn.got ≡ []) → AreOpened (count + 1) (outs ++ out ∷ []) (inns ++ inn ∷ [])
opened-on count outs inns out inn h same nothing = record {
  count = (
    (let a = h.count.0 in let b = length-append outs (out ∷ []) in omega (arith, a, b)),
    (let a = h.count.1 in let b = length-append inns (inn ∷ []) in omega (arith, a, b)),
  );
  same = λ k o i e f. elim (get-more outs out k o e) [
    | inl p ↦ elim (get-more inns inn k i f) [
      | inl q ↦ h.same k o i p q
      | inr q ↦ (let l = slice_get_within outs k o p in let a = h.count.0 in let b = h.count.1 in let z = q.0 in absurd (omega (arith, l, a, b, z)))
    ]
    | inr p ↦ elim (get-more inns inn k i f) [
      | inl q ↦ (let l = slice_get_within inns k i q in let a = h.count.0 in let b = h.count.1 in let z = p.0 in absurd (omega (arith, l, a, b, z)))
      | inr q ↦ sym (ap (λ (x : OutSeen). x.queue) p.1) ∙ same ∙ ap (λ (x : InSeen). x.queue) q.1
    ]
  ];
  nothing = λ k o i e f. elim (get-more outs out k o e) [
    | inl p ↦ elim (get-more inns inn k i f) [
      | inl q ↦ h.nothing k o i p q
      | inr q ↦ (let l = slice_get_within outs k o p in let a = h.count.0 in let b = h.count.1 in let z = q.0 in absurd (omega (arith, l, a, b, z)))
    ]
    | inr p ↦ elim (get-more inns inn k i f) [
      | inl q ↦ (let l = slice_get_within inns k i q in let a = h.count.0 in let b = h.count.1 in let z = p.0 in absurd (omega (arith, l, a, b, z)))
      | inr q ↦ (sym (ap (λ (x : OutSeen). x.sent) p.1) ∙ nothing.0, sym (ap (λ (x : InSeen). x.got) q.1) ∙ nothing.1)
    ]
  ];
}

pub opening-on : (count : ℕ) (outs : List (Option OutSeen)) (inns : List (Option InSeen)) (out : OutSeen) (inn : InSeen) → AreOpening count outs inns → out.queue ≡ inn.queue → (out.sent ≡ []) × (inn.got ≡ [])
    → AreOpening (count + 1) (outs ++ Some out ∷ []) (inns ++ Some inn ∷ [])
opening-on count outs inns out inn h same nothing = record {
  outs_are = more-are outs out h.outs_are;
  inns_are = more-are inns inn h.inns_are;
  opened = subst (λ os. AreOpened (count + 1) os (present (inns ++ Some inn ∷ []))) (sym (present-append outs (Some out ∷ [])))
      (subst (λ is. AreOpened (count + 1) (present outs ++ out ∷ []) is) (sym (present-append inns (Some inn ∷ [])))
      (opened-on count (present outs) (present inns) out inn h.opened same nothing));
}
  where
    more-are : {X : Type 0} (xs : List (Option X)) (x : X) → xs ≡ map Some (present xs) → xs ++ Some x ∷ [] ≡ map Some (present (xs ++ Some x ∷ []))
    more-are xs x h =
        ap (λ l. l ++ Some x ∷ []) h
        ∙ sym (map-append Some (present xs) (x ∷ []))
        ∙ ap (map Some) (sym (present-append xs (Some x ∷ [])))

-- and None stands for the root
pub new-ends : (nodes : ℕ) (outs : List (Option OutSeen)) (inns : List (Option InSeen)) → 0 < nodes → AreOpening (nodes - 1) outs inns → length outs ≡ nodes - 1 → AreNewEnds nodes (outs ++ None ∷ []) inns
new-ends nodes outs inns some h count = record {
  count = (let a = length-append outs (None ∷ []) in omega (arith, a, count, some));
  outs_are = ap (λ l. l ++ None ∷ []) (h.outs_are ∙ ap (map Some) (sym all));
  inns_are = h.inns_are;
  opened = subst (λ os. AreOpened (nodes - 1) os (present inns)) (sym all) h.opened;
}
  where
    all : present (outs ++ None ∷ []) ≡ present outs
    all = present-append outs (None ∷ []) ∙ append-nothing (present outs)

-- the same by what the lists are then
pub opening-next : (count : ℕ) (outs outs' : List (Option OutSeen)) (inns inns' : List (Option InSeen)) (out : OutSeen) (inn : InSeen) → AreOpening count outs inns → out.queue ≡ inn.queue → (out.sent ≡ []) × (inn.got ≡ [])
    → outs' ≡ outs ++ Some out ∷ [] → inns' ≡ inns ++ Some inn ∷ [] → AreOpening (count + 1) outs' inns'
opening-next count outs outs' inns inns' out inn h same nothing p q =
    subst (λ xs. AreOpening (count + 1) xs inns') (sym p) (subst (λ ys. AreOpening (count + 1) (outs ++ Some out ∷ []) ys) (sym q) (opening-on count outs inns out inn h same nothing))

pub length-one : {X : Type 0} (xs ys : List X) (x : X) (n : ℕ) → ys ≡ xs ++ x ∷ [] → length xs ≡ n → length ys ≡ n + 1
length-one {X} xs ys x n same count = let a = ap (λ (zs : List X). length zs) same in let b = length-append xs (x ∷ []) in omega (arith, a, b, count)

pub new-ends-are : (nodes count : ℕ) (outs outs' : List (Option OutSeen)) (inns : List (Option InSeen)) → 0 < nodes → count ≡ nodes - 1 → AreOpening count outs inns → length outs ≡ count → outs' ≡ outs ++ None ∷ [] → AreNewEnds nodes outs' inns
new-ends-are nodes count outs outs' inns some e h len same =
    subst (λ xs. AreNewEnds nodes xs inns) (sym same) (new-ends nodes outs inns some (subst (λ c. AreOpening c outs inns) e h) (len ∙ e))

-- each end sends to a queue of this capacity, also with one more
pub capacity-next : (queue : ℕ) (outs outs' : List (Option OutSeen)) (out : OutSeen) → HaveCapacity queue outs → out.capacity ≡ queue → outs' ≡ outs ++ Some out ∷ [] → HaveCapacity queue outs'
capacity-next queue outs outs' out h same p = subst (HaveCapacity queue) (sym p) (λ k o e. elim (get-more outs (Some out) k (Some o) e) [
  | inl q ↦ h k o q
  | inr q ↦ (let e = q.1 in let one : o ≡ out = cc in ap (λ (x : OutSeen). x.capacity) one ∙ same)
])

-- and with the root's None
pub capacity-last : (queue : ℕ) (outs outs' : List (Option OutSeen)) → HaveCapacity queue outs → outs' ≡ outs ++ None ∷ [] → HaveCapacity queue outs'
capacity-last queue outs outs' h p = subst (HaveCapacity queue) (sym p) (λ k o e. elim (get-more outs None k (Some o) e) [
  | inl q ↦ h k o q
  | inr q ↦ (let e = q.1 in cc)
])
