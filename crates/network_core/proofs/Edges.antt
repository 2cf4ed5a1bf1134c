-- Queues in a list: one that is replaced, and the others.
use Rattle.std.proofs.Common.{◌≡◌, ◌≢◌, ℕ, zero, suc, ◌+◌, ◌<◌, List, [], ◌∷◌, ◌++◌, length, take, drop, refl, ap, sym, ◌∙◌, subst, inl, inr, arith, get_or-set_other, get_or-set_same, length-set, length-append, ◌-◌}
use Rattle.std.specs.Prelude.{slice_set, slice_index_or, ◌==◌, nat_lt, Bool, true, false}
use Rattle.std.proofs.lemmas.Bool.{ltb-true, ltb-false}
use Rattle.std.proofs.lemmas.Bool.Decides.{eqb_tells}
use Rattle.circular_buffer.specs.Buffer.{Buffer}
use Rattle.cloud_points.specs.declared.item.Item.{Item}
use Rattle.network_core.specs.Wires.{queue_at}

pub ne-eqb : (a b : ℕ) → (a ≡ b → ⊥) → (a == b) ≡ false
ne-eqb a b h = elim (eqb_tells a b) [ inl p ↦ absurd (h p.1) | inr p ↦ p.0 ]

pub queue-set_here : (qs : List (Buffer Item)) (k : ℕ) (q : Buffer Item) → k < length qs → queue_at (slice_set qs k q) k ≡ q
queue-set_here qs k q h = rw get_or-set_same refl

pub queue-set_other : (qs : List (Buffer Item)) (k j : ℕ) (q : Buffer Item) → j ≢ k → queue_at (slice_set qs k q) j ≡ queue_at qs j
queue-set_other qs k j q h = rw get_or-set_other refl

-- a slice that was written over in place of a whole list
pub refilled : {A : Type 0} (xs ys : List A) → length ys ≡ length xs → take (length xs) (ys ++ drop (length ys) xs) ≡ ys
refilled [] [] h = refl
refilled [] (y ∷ ys) h = absurd (omega arith)
refilled (x ∷ xs) [] h = absurd (omega arith)
refilled (x ∷ xs) (y ∷ ys) h = ap (λ z. y ∷ z) (refilled xs ys (omega arith))

-- within a list no default is read
pub queue_there : (qs : List (Buffer Item)) (k : ℕ) (q : Buffer Item) → k < length qs → slice_index_or qs k q ≡ queue_at qs k
queue_there [] k q h = absurd (omega arith)
queue_there (x ∷ qs) zero q h = refl
queue_there (x ∷ qs) (suc k) q h = queue_there qs k q (omega arith)

-- in two parts one after the other
pub queue_front : (a b : List (Buffer Item)) (k : ℕ) → k < length a → queue_at (a ++ b) k ≡ queue_at a k
queue_front [] b k h = absurd (omega arith)
queue_front (x ∷ a) b zero h = refl
queue_front (x ∷ a) b (suc k) h = queue_front a b k (omega arith)

pub queue_back : (a b : List (Buffer Item)) (k j : ℕ) → k ≡ length a + j → queue_at (a ++ b) k ≡ queue_at b j
queue_back [] b k j h = ap (queue_at b) (omega arith)
queue_back (x ∷ a) b zero j h = absurd (omega arith)
queue_back (x ∷ a) b (suc k) j h = queue_back a b k j (omega arith)

-- two queues of a list that was split between them
module _ (es front back : List (Buffer Item)) (at c : ℕ) (whole : es ≡ front ++ back) (front_len : length front ≡ at) (below : c < at) (more : at < length es) (p q : Buffer Item) where
  abbrev joined : List (Buffer Item)
  joined = slice_set front c p ++ slice_set back 0 q

  set-len : length (slice_set front c p) ≡ at
  set-len = length-set front c p ∙ front_len

  back-some : 0 < length back
  back-some = let l : length es ≡ length (front ++ back) = ap length whole in let a = length-append front back in omega (arith, l, a)

  pub joined-child : queue_at joined c ≡ p
  joined-child = queue_front (slice_set front c p) (slice_set back 0 q) c (let l = set-len in omega (arith, l)) ∙ queue-set_here front c p (omega arith)

  pub joined-here : queue_at joined at ≡ q
  joined-here = queue_back (slice_set front c p) (slice_set back 0 q) at 0 (let l = set-len in omega (arith, l)) ∙ queue-set_here back 0 q back-some

  pub was-child : (x : Buffer Item) → slice_index_or front c x ≡ queue_at es c
  was-child x = queue_there front c x (omega arith) ∙ sym (queue_front front back c (omega arith)) ∙ ap (λ l. queue_at l c) (sym whole)

  pub was-here : (x : Buffer Item) → slice_index_or back 0 x ≡ queue_at es at
  was-here x = queue_there back 0 x back-some ∙ sym (queue_back front back at 0 (omega arith)) ∙ ap (λ l. queue_at l at) (sym whole)

  pub joined-other : (k : ℕ) → k ≢ at → k ≢ c → queue_at joined k ≡ queue_at es k
  joined-other k n m = by_test (nat_lt k at) refl
    where
      by_test : (b : Bool) → nat_lt k at ≡ b → queue_at joined k ≡ queue_at es k
      by_test true t = let l = ltb-true k at t in let s = set-len in
          queue_front (slice_set front c p) (slice_set back 0 q) k (omega (arith, l, s)) ∙ queue-set_other front c k p m ∙ sym (queue_front front back k (omega (arith, l))) ∙ ap (λ z. queue_at z k) (sym whole)
      by_test false t = let l = ltb-false k at t in let s = set-len in
          queue_back (slice_set front c p) (slice_set back 0 q) k (k - at) (omega (arith, l, s)) ∙ queue-set_other back 0 (k - at) q (λ z. n (omega (arith, l, z))) ∙ sym (queue_back front back k (k - at) (omega (arith, l))) ∙ ap (λ z. queue_at z k) (sym whole)

  pub joined-rooms : p.capacity ≡ (queue_at es c).capacity → q.capacity ≡ (queue_at es at).capacity → (k : ℕ) → (queue_at joined k).capacity ≡ (queue_at es k).capacity
  joined-rooms a b k = elim (eqb_tells k at) [
    | inl e ↦ subst (λ z. (queue_at joined z).capacity ≡ (queue_at es z).capacity) (sym e.1) (ap (λ (x : Buffer Item). x.capacity) joined-here ∙ b)
    | inr e ↦ elim (eqb_tells k c) [
      | inl f ↦ subst (λ z. (queue_at joined z).capacity ≡ (queue_at es z).capacity) (sym f.1) (ap (λ (x : Buffer Item). x.capacity) joined-child ∙ a)
      | inr f ↦ ap (λ (x : Buffer Item). x.capacity) (joined-other k e.1 f.1)
    ]
  ]
