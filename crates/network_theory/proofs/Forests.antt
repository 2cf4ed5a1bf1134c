-- Lists of children that name each node once are a tree.
use Rattle.std.proofs.Common.{◌≡◌, ◌≢◌, ℕ, zero, suc, ◌+◌, ◌≤◌, ◌<◌, Bool, true, false, cond, inl, inr, List, [], ◌∷◌, length, refl, ap, subst, sym, ◌∙◌, arith}
use Rattle.std.specs.Prelude.{◌==◌, nat_lt}
use Rattle.std.proofs.lemmas.Bool.{ltb-true, ltb-false, lt-ltb, eq-eqb}
use Rattle.std.proofs.lemmas.Bool.Decides.{eqb_tells}
use Rattle.network_theory.specs.Shape.{Each, Apart, In, IsTree}
use Rattle.network_theory.specs.Forest.{children, one_if, count_in, count_all, parent_of, IsForest}
use Rattle.network_theory.specs.Due.{IsBelow}
use Rattle.network_theory.specs.Depth.{depth}
use Rattle.network_theory.proofs.Depths.{depths}
use Rattle.network_theory.proofs.Openings.{inside}

in-counted : (j : ℕ) (xs : List ℕ) → In j xs → 0 < count_in j xs
in-counted j [] h = absurd h
in-counted j (x ∷ xs) (inl e) = rw (eq-eqb j x e) (omega arith)
in-counted j (x ∷ xs) (inr h) = let i = in-counted j xs h in omega arith

counted-in : (j : ℕ) (xs : List ℕ) → 0 < count_in j xs → In j xs
counted-in j [] h = absurd (omega arith)
counted-in j (x ∷ xs) h = elim (eqb_tells j x) [
  | inl p ↦ inl p.1
  | inr p ↦ inr (counted-in j xs (let e : one_if (j == x) ≡ 0 = ap one_if p.0 in omega (arith, e)))
]

none_counted : (x : ℕ) (xs : List ℕ) → count_in x xs ≡ 0 → Each (λ y. y ≢ x) xs
none_counted x [] h = tt
none_counted x (y ∷ xs) h = (
  (λ e. let q : one_if (x == y) ≡ 1 = ap one_if (eq-eqb x y (sym e)) in absurd (omega (arith, q))),
  none_counted x xs (omega arith),
)

once-apart : (xs : List ℕ) → ((j : ℕ) → In j xs → count_in j xs ≤ 1) → Apart xs
once-apart [] h = tt
once-apart (x ∷ xs) h = (
  none_counted x xs (let q : one_if (x == x) ≡ 1 = ap one_if (eq-eqb x x refl) in let k = h x (inl refl) in omega (arith, q)),
  once-apart xs (λ j i. let k = h j (inr i) in omega arith),
)

-- a list counts no more than all
part-counted : (j : ℕ) (xss : List (List ℕ)) (k : ℕ) → count_in j (children xss k) ≤ count_all j xss
part-counted j [] k = omega arith
part-counted j (xs ∷ xss) zero = omega arith
part-counted j (xs ∷ xss) (suc k) = let i = part-counted j xss k in omega arith

parent-there : (j : ℕ) (xss : List (List ℕ)) → 0 < count_all j xss → (parent_of xss j < length xss) × In j (children xss (parent_of xss j))
parent-there j [] h = absurd (omega arith)
parent-there j (xs ∷ xss) h = by_test (λ z. parent-there j xss z) (nat_lt 0 (count_in j xs)) refl
  where
    by_test : (0 < count_all j xss → (parent_of xss j < length xss) × In j (children xss (parent_of xss j))) → (b : Bool) → nat_lt 0 (count_in j xs) ≡ b → (cond (nat_lt 0 (count_in j xs)) 0 (parent_of xss j + 1) < length (xs ∷ xss)) × In j (children (xs ∷ xss) (cond (nat_lt 0 (count_in j xs)) 0 (parent_of xss j + 1)))
    by_test rec true t = rw t (omega arith, counted-in j xs (ltb-true 0 (count_in j xs) t))
    by_test rec false t =
        let z = ltb-false 0 (count_in j xs) t in
        let i = rec (omega arith) in
        let one : parent_of xss j + 1 ≡ suc (parent_of xss j) = omega arith in
        rw t (rw one (omega (arith, i.0), i.1))

parent-is : (j : ℕ) (xss : List (List ℕ)) (k : ℕ) → count_all j xss ≤ 1 → In j (children xss k) → parent_of xss j ≡ k
parent-is j [] k c h = absurd h
parent-is j (xs ∷ xss) zero c h = rw (lt-ltb 0 (count_in j xs) (in-counted j xs h))
parent-is j (xs ∷ xss) (suc k) c h =
    let i = in-counted j (children xss k) h in
    let p = part-counted j xss k in
    let z : count_in j xs ≡ 0 = omega arith in
    let r = parent-is j xss k (omega arith) h in
    ap (λ n. cond (nat_lt 0 n) 0 (parent_of xss j + 1)) z ∙ omega (arith, r)

beyond-none : (xss : List (List ℕ)) (k : ℕ) → length xss ≤ k → children xss k ≡ []
beyond-none [] k h = refl
beyond-none (xs ∷ xss) zero h = absurd (omega arith)
beyond-none (xs ∷ xss) (suc k) h = beyond-none xss k (omega arith)

each-in : (Q : ℕ → Type 0) (xs : List ℕ) → ((j : ℕ) → In j xs → Q j) → Each Q xs
each-in Q [] f = tt
each-in Q (x ∷ xs) f = (f x (inl refl), each-in Q xs (λ j i. f j (inr i)))

in-each : (Q : ℕ → Type 0) (j : ℕ) (xs : List ℕ) → In j xs → Each Q xs → Q j
in-each Q j [] h e = absurd h
in-each Q j (x ∷ xs) (inl p) e = subst Q (sym p) e.0
in-each Q j (x ∷ xs) (inr h) e = in-each Q j xs h e.1

module _ (ins : List (List ℕ)) (root : ℕ) (ok : IsForest ins root) where
  -- a child is below the root
  child-below : (k j : ℕ) → In j (children ins k) → (j < k) × (j < root)
  child-below k j h = elim (inside k root) [
    | inl b ↦ (in-each (λ z. z < k) j (children ins k) h (ok.below k), (let l = in-each (λ z. z < k) j (children ins k) h (ok.below k) in omega arith))
    | inr b ↦ absurd (subst (In j) (beyond-none ins k (let n = ok.nodes in omega arith)) h)
  ]

  pub forest-tree : IsTree (children ins) root
  forest-tree = record {
    below = ok.below;
    apart = λ k. once-apart (children ins k) (λ j h. let o = ok.once j (child-below k j h).1 in let p = part-counted j ins k in omega arith);
    parent = parent_of ins;
    owned = λ k. each-in (λ j. parent_of ins j ≡ k) (children ins k) (λ j h. parent-is j ins k (let o = ok.once j (child-below k j h).1 in omega arith) h);
    child = λ k b. (let t = parent-there k ins (let o = ok.once k b in omega arith) in
        ((child-below (parent_of ins k) k t.1).0, (let n = ok.nodes in let z = t.0 in omega arith), t.1));
    no_root = λ k. each-in (λ j. j ≢ root) (children ins k) (λ j h e. absurd (let b = (child-below k j h).1 in omega arith));
  }

  -- with the depths that count the steps from parent to parent
  pub forest-depths : IsBelow (children ins) root (depth (parent_of ins) root root)
  unfolding forest-tree
  forest-depths = depths (children ins) root forest-tree
