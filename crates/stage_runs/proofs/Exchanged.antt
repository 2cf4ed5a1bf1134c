-- One place more of two lists is exchanged.
use Rattle.std.proofs.Common.{◌≡◌, ◌≢◌, ℕ, ◌+◌, ◌-◌, ◌<◌, ◌==◌, ◌||◌, Bool, true, false, true≢false, List, length, slice_get, slice_set, get_or, Some, refl, ap, sym, subst, ◌∙◌, inl, inr, arith, length-set}
use Rattle.std.proofs.lemmas.Bool.Decides.{eqb_tells}
use Rattle.std.proofs.lemmas.Option.{slice_get_read}
use Rattle.circular_buffer.proofs.Places.{slice_get-set_same, slice_get-set_other}
use Rattle.stage_parts.specs.Parts.{home_at, is_of}
use Rattle.stage_runs.specs.Parts.{IsExchanged, is_own}

module _ {T : Type 0} (picked : ℕ → Bool) (one other : List T) where
  pub none-yet : IsExchanged picked 0 one other one other
  none-yet = record {
    one_count = refl;
    other_count = refl;
    taken = λ i l p. absurd (omega (arith, l));
    left = λ i no. (refl, refl);
  }

  module _ (k : ℕ) (a b : List T) (now : IsExchanged picked k one other a b) where
    -- a place that is picked
    pub picked-more : (x y : T) → picked k ≡ true → k < length a → k < length b → slice_get a k ≡ Some x → slice_get b k ≡ Some y
        → IsExchanged picked (k + 1) one other (slice_set a k y) (slice_set b k x)
    picked-more x y p in_one in_other at_one at_other = record {
      one_count = length-set a k y ∙ now.one_count;
      other_count = length-set b k x ∙ now.other_count;
      taken = taken;
      left = λ i no. (
          let n : i ≢ k = λ e. no (omega (arith, e)) (ap picked e ∙ p) in
          let l = now.left i (λ m q. no (omega (arith, m)) q) in
          (slice_get-set_other a k i y n ∙ l.0, slice_get-set_other b k i x n ∙ l.1));
    }
      where
        here : (slice_get a k ≡ slice_get one k) × (slice_get b k ≡ slice_get other k)
        here = now.left k (λ l q. absurd (omega (arith, l)))

        taken : (i : ℕ) → i < k + 1 → picked i ≡ true → (slice_get (slice_set a k y) i ≡ slice_get other i) × (slice_get (slice_set b k x) i ≡ slice_get one i)
        taken i l q = elim (eqb_tells i k) [
          | inl e ↦ (
            ap (slice_get (slice_set a k y)) e.1 ∙ slice_get-set_same a k y in_one ∙ sym at_other ∙ here.1 ∙ ap (slice_get other) (sym e.1),
            ap (slice_get (slice_set b k x)) e.1 ∙ slice_get-set_same b k x in_other ∙ sym at_one ∙ here.0 ∙ ap (slice_get one) (sym e.1),
          )
          | inr e ↦ (
              let n = e.1 in let t = now.taken i (omega (arith, l, n)) q in
              (slice_get-set_other a k i y n ∙ t.0, slice_get-set_other b k i x n ∙ t.1))
        ]

    -- the same of what stands there before and after
    pub swapped : (x y x' y' : T) (a' b' : List T) → picked k ≡ true → k < length a → k < length b → x ≡ get_or a k x → y ≡ get_or b k y → x' ≡ get_or b k y → y' ≡ get_or a k x
        → a' ≡ slice_set a k x' → b' ≡ slice_set b k y' → IsExchanged picked (k + 1) one other a' b'
    swapped x y x' y' a' b' p in_one in_other at_one at_other is_one is_other e f =
        subst (λ xs. IsExchanged picked (k + 1) one other xs b') (sym (e ∙ ap (slice_set a k) (is_one ∙ sym at_other)))
        (subst (λ ys. IsExchanged picked (k + 1) one other (slice_set a k y) ys) (sym (f ∙ ap (slice_set b k) (is_other ∙ sym at_one)))
        (picked-more x y p in_one in_other (slice_get_read a (length a) k x refl in_one at_one) (slice_get_read b (length b) k y refl in_other at_other)))

    -- a place that isn't
    pub other-more : picked k ≡ false → IsExchanged picked (k + 1) one other a b
    other-more p = record {
      one_count = now.one_count;
      other_count = now.other_count;
      taken = λ i l q. elim (eqb_tells i k) [
        | inl e ↦ absurd (true≢false (sym q ∙ ap picked e.1 ∙ p))
        | inr e ↦ (let n = e.1 in now.taken i (omega (arith, l, n)) q)
      ];
      left = λ i no. now.left i (λ l q. no (omega (arith, l)) q);
    }

-- which places are picked
pub at-root : (homes : List ℕ) (home count k : ℕ) → k + 1 ≡ count → is_own homes home (count - 1) k ≡ true
at-root homes home count k e = elim (eqb_tells k (count - 1)) [
  | inl p ↦ ap (λ b. b || is_of homes home k) p.0
  | inr p ↦ absurd (let n = p.1 in omega (arith, e, n))
]

pub at-home : (homes : List ℕ) (home root k : ℕ) → home_at homes k ≡ home → is_own homes home root k ≡ true
at-home homes home root k e = elim (eqb_tells (home_at homes k) home) [
  | inl p ↦ ap (λ b. (k == root) || b) p.0 ∙ either (k == root)
  | inr p ↦ absurd (p.1 e)
]
  where
    either : (b : Bool) → b || true ≡ true
    either true = refl
    either false = refl

pub at-neither : (homes : List ℕ) (home count k : ℕ) → 0 < count → (k + 1 ≡ count → ⊥) → (home_at homes k ≡ home → ⊥) → is_own homes home (count - 1) k ≡ false
at-neither homes home count k some root own = elim (eqb_tells k (count - 1)) [
  | inl p ↦ absurd (root (let e = p.1 in omega (arith, some, e)))
  | inr p ↦ elim (eqb_tells (home_at homes k) home) [
    | inl q ↦ absurd (own q.1)
    | inr q ↦ ap (λ b. b || is_of homes home k) p.0 ∙ q.0
  ]
]
