-- Lists that are made for one node after another.
use Rattle.std.proofs.Common.{◌≡◌, ℕ, zero, suc, ◌+◌, ◌<◌, ◌&&◌, Bool, true, false, not, cond, List, [], ◌∷◌, ◌++◌, map, filter, ap, sym, ◌∙◌, arith, append_assoc, append-nil}
use Rattle.std.specs.List.{range_with_len}
use Rattle.std.proofs.lemmas.List.FromFn.{map-range_with_len_more}
use Rattle.network_theory.specs.Forest.{children}
use Rattle.stage_parts.specs.Parts.{gathers_at, is_of, strangers, part_children, part_ins}
use Rattle.stage_parts.proofs.Members.{part_children-root, part_children-other}

filter-range_more : (p : ℕ → Bool) (a n j : ℕ) → a + n ≡ j → filter p (range_with_len a (suc n)) ≡ filter p (range_with_len a n) ++ cond (p j) (j ∷ []) []
filter-range_more p a zero j e = let is : a ≡ j = omega (arith, e) in ap (λ z. cond (p z) (z ∷ []) []) is
filter-range_more p a (suc n) j e = by_test (p a) (filter-range_more p (a + 1) n j (omega (arith, e)))
  where
    by_test : (b : Bool) → filter p (range_with_len (a + 1) (suc n)) ≡ filter p (range_with_len (a + 1) n) ++ cond (p j) (j ∷ []) []
        → cond b (a ∷ filter p (range_with_len (a + 1) (suc n))) (filter p (range_with_len (a + 1) (suc n)))
        ≡ cond b (a ∷ filter p (range_with_len (a + 1) n)) (filter p (range_with_len (a + 1) n)) ++ cond (p j) (j ∷ []) []
    by_test true rec = ap (λ xs. a ∷ xs) rec
    by_test false rec = rec

strangers_next : (homes : List ℕ) (home k : ℕ) → strangers homes home (k + 1) ≡ strangers homes home k ++ cond (not (is_of homes home k)) (k ∷ []) []
strangers_next homes home k = let e : k + 1 ≡ suc k = omega arith in ap (strangers homes home) e ∙ filter-range_more (λ j. not (is_of homes home j)) 0 k k (omega arith)

pub one_stranger_more : (own all homes : List ℕ) (home k : ℕ) → is_of homes home k ≡ false → all ≡ own ++ strangers homes home k
    → all ++ k ∷ [] ≡ own ++ strangers homes home (k + 1)
one_stranger_more own all homes home k o was =
    ap (λ xs. xs ++ k ∷ []) was ∙ append_assoc own (strangers homes home k) (k ∷ [])
    ∙ ap (λ xs. own ++ xs) (ap (λ b. strangers homes home k ++ cond (not b) (k ∷ []) []) (sym o) ∙ sym (strangers_next homes home k))

pub no_stranger_more : (own all homes : List ℕ) (home k : ℕ) → is_of homes home k ≡ true → all ≡ own ++ strangers homes home k
    → all ≡ own ++ strangers homes home (k + 1)
no_stranger_more own all homes home k o was =
    was ∙ ap (λ xs. own ++ xs) (sym (append-nil (strangers homes home k)) ∙ ap (λ b. strangers homes home k ++ cond (not b) (k ∷ []) []) (sym o) ∙ sym (strangers_next homes home k))

module _ (gathers : List Bool) (ins : List (List ℕ)) (homes : List ℕ) (home root : ℕ) where
  pub one_list_more : (k : ℕ) (lists : List (List ℕ)) (list : List ℕ) → k < root → list ≡ cond (is_of homes home k && not (gathers_at gathers k)) (children ins k) []
      → lists ≡ map (part_children gathers ins homes home root) (range_with_len 0 k)
      → lists ++ list ∷ [] ≡ map (part_children gathers ins homes home root) (range_with_len 0 (k + 1))
  one_list_more k lists list b is was =
      let here : list ≡ part_children gathers ins homes home root k = is ∙ sym (part_children-other gathers ins homes home root k (λ e. omega arith)) in
      ap (λ x. lists ++ x ∷ []) here ∙ ap (λ xs. xs ++ part_children gathers ins homes home root k ∷ []) was
      ∙ sym (map-range_with_len_more (part_children gathers ins homes home root) 0 k k (omega arith))

  pub last_list_more : (lists : List (List ℕ)) (list : List ℕ) → list ≡ children ins root ++ strangers homes home root
      → lists ≡ map (part_children gathers ins homes home root) (range_with_len 0 root)
      → lists ++ list ∷ [] ≡ part_ins gathers ins homes home root
  last_list_more lists list is was =
      let here : list ≡ part_children gathers ins homes home root root = is ∙ sym (part_children-root gathers ins homes home root) in
      ap (λ x. lists ++ x ∷ []) here ∙ ap (λ xs. xs ++ part_children gathers ins homes home root root ∷ []) was
      ∙ sym (map-range_with_len_more (part_children gathers ins homes home root) 0 root root (omega arith))
