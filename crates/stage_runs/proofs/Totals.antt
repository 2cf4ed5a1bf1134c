-- Sums over the nodes of a list, by their places.
use Rattle.std.proofs.Common.{◌≡◌, ℕ, zero, suc, ◌+◌, ◌*◌, ◌≤◌, ◌<◌, List, [], ◌∷◌, map, length, slice_get, refl, arith}
use Rattle.std.specs.Prelude.{sum_by}
use Rattle.std.proofs.lemmas.List.Sums.{sum_by-cons}
use Rattle.network_theory.specs.Due.{total}
use Rattle.network_core.specs.declared.node.Node.{Node}
use Rattle.network_core.specs.Shown.{work_of}
use Rattle.network_solo.specs.Ahead.{at_node}

total-front : (g : ℕ → ℕ) (n : ℕ) → total g (suc n) ≡ g 0 + total (λ k. g (suc k)) n
total-front g zero = omega arith
total-front g (suc n) = let r = total-front g n in omega (arith, r)

pub nodes-total : {W : Type 0} (f : W → ℕ) (nodes : List (Node W)) → sum_by f (map work_of nodes) ≡ total (λ k. at_node (λ n. f (work_of n)) (slice_get nodes k)) (length nodes)
nodes-total f [] = refl
nodes-total f (n ∷ nodes) =
    let c = sum_by-cons f (work_of n) (map work_of nodes) in
    let r = nodes-total f nodes in
    let t = total-front (λ k. at_node (λ m. f (work_of m)) (slice_get (n ∷ nodes) k)) (length nodes) in
    omega (arith, c, r, t)

-- what holds of each two sums holds of all
pub total-le : (a b c d : ℕ → ℕ) (n : ℕ) → ((k : ℕ) → k < n → a k + b k ≤ c k + d k) → total a n + total b n ≤ total c n + total d n
total-le a b c d zero each = omega arith
total-le a b c d (suc n) each = let r = total-le a b c d n (λ k l. each k (omega (arith, l))) in let e = each n (omega arith) in omega (arith, r, e)

pub total-up : (a b : ℕ → ℕ) (n : ℕ) → ((k : ℕ) → a k ≤ b k) → total a n ≤ total b n
total-up a b zero each = omega arith
total-up a b (suc n) each = let r = total-up a b n each in let e = each n in omega (arith, r, e)

pub total-times : (a b c : ℕ → ℕ) (times n : ℕ) → ((k : ℕ) → k < n → a k ≤ b k + c k * times) → total a n ≤ total b n + total c n * times
total-times a b c times zero each = omega arith
total-times a b c times (suc n) each =
    let r = total-times a b c times n (λ k l. each k (omega (arith, l))) in
    let e = each n (omega arith) in
    let d : (total c n + c n) * times ≡ total c n * times + c n * times = omega arith in
    omega (arith, r, e, d)
