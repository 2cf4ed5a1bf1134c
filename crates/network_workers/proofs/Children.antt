-- The children of a node of a forest, counted among those of the nodes before it.
use Rattle.std.proofs.Common.{◌≡◌, ℕ, zero, suc, ◌+◌, ◌<◌, ◌≤◌, List, [], ◌∷◌, length, take, get_or, refl, ap, arith}
use Rattle.std.specs.Prelude.{◌==◌}
use Rattle.std.proofs.lemmas.Bool.{eq-eqb}
use Rattle.network_theory.specs.Forest.{children, one_if, count_in, count_all, IsForest}
use Rattle.network_workers.proofs.HandsBack.{each-at}

counted-at : (cs : List ℕ) (k : ℕ) → k < length cs → 0 < count_in (get_or cs k 0) cs
counted-at [] k l = absurd (omega (arith, l))
counted-at (c ∷ cs) zero l = let one : one_if (c == c) ≡ 1 = ap one_if (eq-eqb c c refl) in omega (arith, one)
counted-at (c ∷ cs) (suc k) l = let r = counted-at cs k (omega (arith, l)) in omega (arith, r)

-- those of one node more
pub counted-more : (j : ℕ) (xss : List (List ℕ)) (k : ℕ) → k < length xss → count_all j (take (suc k) xss) ≡ count_all j (take k xss) + count_in j (children xss k)
counted-more j [] k l = absurd (omega (arith, l))
counted-more j (xs ∷ xss) zero l = omega arith
counted-more j (xs ∷ xss) (suc k) l = let r = counted-more j xss k (omega (arith, l)) in omega (arith, r)

counted-most : (j : ℕ) (xss : List (List ℕ)) (k : ℕ) → k < length xss → count_all j (take k xss) + count_in j (children xss k) ≤ count_all j xss
counted-most j [] k l = absurd (omega (arith, l))
counted-most j (xs ∷ xss) zero l = omega arith
counted-most j (xs ∷ xss) (suc k) l = let r = counted-most j xss k (omega (arith, l)) in omega (arith, r)

-- a child of a node is a child of no node before it, and of this one once
pub record IsOnlyChild (ins : List (List ℕ)) (root parent child : ℕ) : Type 0 where
  pub below : child < parent
  pub inside : child < root
  pub none : count_all child (take parent ins) ≡ 0
  pub once : count_in child (children ins parent) ≤ 1

pub only-child : (ins : List (List ℕ)) (root parent : ℕ) → IsForest ins root → parent ≤ root → (k : ℕ) → k < length (children ins parent) → IsOnlyChild ins root parent (get_or (children ins parent) k 0)
only-child ins root parent forest most k l =
    let c : ℕ = get_or (children ins parent) k 0 in
    let low : get_or (children ins parent) k 0 < parent = each-at (λ j. j < parent) (children ins parent) k (forest.below parent) l in
    let here = counted-at (children ins parent) k l in
    let all : count_all (get_or (children ins parent) k 0) ins ≡ 1 = forest.once (get_or (children ins parent) k 0) (omega (arith, low, most)) in
    let part = counted-most (get_or (children ins parent) k 0) ins parent (let n = forest.nodes in omega (arith, n, most)) in
    record {
      below = low;
      inside = omega (arith, low, most);
      none = omega (arith, here, all, part);
      once = omega (arith, all, part);
    }
