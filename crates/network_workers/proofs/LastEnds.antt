-- The queues between a node and its children are settled, from its last input to its first.
use Rattle.std.proofs.Common.{◌≡◌, ◌≢◌, ℕ, zero, suc, ◌+◌, ◌-◌, ◌<◌, ◌≤◌, ◌⊎◌, inl, inr, List, [], ◌∷◌, length, take, drop, Option, Some, None, get_or, set, refl, ap, subst, sym, ◌∙◌, arith, drop-cons}
use Rattle.std.specs.Prelude.{◌==◌}
use Rattle.std.proofs.lemmas.Bool.{eq-eqb}
use Rattle.std.proofs.lemmas.Bool.Decides.{eqb_tells}
use Rattle.std.proofs.lemmas.List.{length-set, length-take-le, get_or-take, get_or-set_other, get_or_default, take-take}
use Rattle.chunk_queue.specs.Ends.{InSeen, OutSeen}
use Rattle.network_theory.specs.Forest.{one_if, count_in}
use Rattle.network_workers.specs.declared.seats.SeatIn.{SeatIn}
use Rattle.network_workers.specs.Gathered.{AreOfOne, IsSettled, EdgesFrom, without, AreOnce}

-- an end of a queue is in the list
pub one-within : (outs : List (Option OutSeen)) (c : ℕ) (inn : InSeen) → AreOfOne (get_or outs c None) inn → c < length outs
one-within [] c inn h = absurd h
one-within (o ∷ outs) zero inn h = omega arith
one-within (o ∷ outs) (suc c) inn h = let l = one-within outs c inn h in omega (arith, l)

-- the last end and that of its child
one_end : {a b : SeatIn} → Some a ≡ Some b → a ≡ b
one_end e = cc

module _ (outs : List (Option OutSeen)) (child : ℕ) (ins : List SeatIn) (size : ℕ) (last : SeatIn) (same : size ≡ length ins) (some : 0 < length ins)
    (value : (d : SeatIn) → 0 < size → Some last ≡ Some (get_or ins (size - 1) d)) (one : (e : SeatIn) → AreOfOne (get_or outs child None) (get_or ins (length ins - 1) e).end) where
  last-one : AreOfOne (get_or outs child None) last.end
  last-one = subst (λ (i : SeatIn). AreOfOne (get_or outs child None) i.end)
      (ap (λ n. get_or ins (n - 1) last) (sym same) ∙ sym (one_end (value last (omega (arith, same, some))))) (one last)

  pub child-within : child < length outs
  child-within = one-within outs child last.end last-one

  pub child-one : (o out : Option OutSeen) → o ≡ get_or outs child o → out ≡ o → AreOfOne out last.end
  child-one o out e f = subst (λ z. AreOfOne z last.end) (sym (f ∙ e ∙ get_or_default outs child o None child-within)) last-one

-- a number that stands once doesn't stand behind its place
counted-self : (c : ℕ) → one_if (c == c) ≡ 1
counted-self c = ap one_if (eq-eqb c c refl)

later-none : (cs : List ℕ) (k : ℕ) → k < length cs → count_in (get_or cs k 0) cs ≤ 1 → count_in (get_or cs k 0) (drop (suc k) cs) ≡ 0
later-none [] k l h = absurd (omega (arith, l))
later-none (c ∷ cs) zero l h = let one = counted-self c in omega (arith, one, h)
later-none (c ∷ cs) (suc k) l h = later-none cs k (omega (arith, l)) (omega (arith, h))

-- ends without some
pub length-without : (outs : List (Option OutSeen)) (cs : List ℕ) → length (without outs cs) ≡ length outs
length-without outs [] = refl
length-without outs (c ∷ cs) = length-set (without outs cs) c None ∙ length-without outs cs

pub without-other : (outs : List (Option OutSeen)) (cs : List ℕ) (c : ℕ) → count_in c cs ≡ 0 → get_or (without outs cs) c None ≡ get_or outs c None
without-other outs [] c h = refl
without-other outs (x ∷ cs) c h =
    get_or-set_other (without outs cs) x c None None (λ e. let one : one_if (c == x) ≡ 1 = ap one_if (eq-eqb c x e) in absurd (omega (arith, one, h)))
    ∙ without-other outs cs c (omega (arith, h))

without-next : (outs : List (Option OutSeen)) (cs : List ℕ) (k : ℕ) → k < length cs → without outs (drop k cs) ≡ set (without outs (drop (suc k) cs)) (get_or cs k 0) None
without-next outs cs k l = ap (without outs) (drop-cons cs k 0 l)

-- the inputs from this one on are settled
pub record AreSettled (outs : List (Option OutSeen)) (cs : List ℕ) (first : ℕ) (ins : List SeatIn) (left : ℕ) (ins_left : List SeatIn) (outs_left : List (Option OutSeen)) : Type 0 where
  pub ins_are : ins_left ≡ take (first + left) ins
  pub outs_are : outs_left ≡ without outs (drop left cs)
  pub settled : (k : ℕ) (e : SeatIn) → left ≤ k → k < length cs → IsSettled (get_or outs (get_or cs k 0) None) (get_or ins (first + k) e).end

module _ (outs : List (Option OutSeen)) (cs : List ℕ) (first : ℕ) (ins : List SeatIn) (size : first + length cs ≡ length ins) where
  module _ (left k : ℕ) (ins_left : List SeatIn) (outs_left : List (Option OutSeen)) (once : AreOnce cs) (h : AreSettled outs cs first ins left ins_left outs_left) (next : left ≡ suc k) (inside : k < length cs) where
    count : length ins_left ≡ first + left
    count = ap length h.ins_are ∙ length-take-le (first + left) ins (omega (arith, size, next, inside))

    pub some-left : 0 < length ins_left
    some-left = let c = count in omega (arith, c, next)

    out-is : get_or outs_left (get_or cs k 0) None ≡ get_or outs (get_or cs k 0) None
    out-is =
        ap (λ xs. get_or xs (get_or cs k 0) None) (h.outs_are ∙ ap (λ l. without outs (drop l cs)) next)
        ∙ without-other outs (drop (suc k) cs) (get_or cs k 0) (later-none cs k inside (once k inside))

    in-is : (e : SeatIn) → get_or ins_left (length ins_left - 1) e ≡ get_or ins (first + k) e
    in-is e =
        ap (λ i. get_or ins_left i e) {x = length ins_left - 1} {y = first + k} (let c = count in omega (arith, c, next))
        ∙ ap (λ xs. get_or xs (first + k) e) h.ins_are ∙ get_or-take (first + left) ins (first + k) e (omega (arith, next))

    -- the last end that is left, and that of its child
    pub one-left : EdgesFrom AreOfOne outs cs first ins → (e : SeatIn) → AreOfOne (get_or outs_left (get_or cs k 0) None) (get_or ins_left (length ins_left - 1) e).end
    one-left one e = subst (λ o. AreOfOne o (get_or ins_left (length ins_left - 1) e).end) (sym out-is)
        (subst (λ (i : SeatIn). AreOfOne (get_or outs (get_or cs k 0) None) i.end) (sym (in-is e)) (one k e inside))

    pub settled-next : (ins_next : List SeatIn) (outs_next : List (Option OutSeen)) → ins_next ≡ take (length ins_left - 1) ins_left → outs_next ≡ set outs_left (get_or cs k 0) None
        → ((e : SeatIn) → IsSettled (get_or outs_left (get_or cs k 0) None) (get_or ins_left (length ins_left - 1) e).end) → AreSettled outs cs first ins k ins_next outs_next
    settled-next ins_next outs_next i o s = record {
      ins_are = i ∙ ap (λ n. take n ins_left) {x = length ins_left - 1} {y = first + k} (let c = count in omega (arith, c, next))
          ∙ ap (take (first + k)) h.ins_are ∙ take-take (first + k) (first + left) ins (omega (arith, next));
      outs_are = o ∙ ap (λ xs. set xs (get_or cs k 0) None) (h.outs_are ∙ ap (λ l. without outs (drop l cs)) next) ∙ sym (without-next outs cs k inside);
      settled = λ j e a b. by_place j e b (below-or-same j a);
    }
      where
        below-or-same : (j : ℕ) → k ≤ j → (k ≡ j) ⊎ (left ≤ j)
        below-or-same j a = elim (eqb_tells k j) [ inl p ↦ inl p.1 | inr p ↦ inr (let d : k ≢ j = p.1 in omega (arith, a, next, d)) ]

        by_place : (j : ℕ) (e : SeatIn) → j < length cs → (k ≡ j) ⊎ (left ≤ j) → IsSettled (get_or outs (get_or cs j 0) None) (get_or ins (first + j) e).end
        by_place j e b (inl same) = subst (λ i. IsSettled (get_or outs (get_or cs i 0) None) (get_or ins (first + i) e).end) same
            (subst (λ x. IsSettled x (get_or ins (first + k) e).end) out-is (subst (λ (x : SeatIn). IsSettled (get_or outs_left (get_or cs k 0) None) x.end) (in-is e) (s e)))
        by_place j e b (inr past) = h.settled j e past b
