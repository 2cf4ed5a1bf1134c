-- To which workers the nodes of a tree go.
use Rattle.std.proofs.Common.{◌≡◌, ℕ, zero, suc, ◌+◌, ◌%◌, ◌<◌, Bool, true, false, cond, List, [], ◌∷◌, ◌++◌, length, map, take, get_or, refl, ap, sym, ◌∙◌, arith, inl, inr}
use Rattle.std.specs.Prelude.{◌==◌}
use Rattle.std.specs.Int.{from_bool}
use Rattle.std.specs.List.{count_by, range_with_len}
use Rattle.std.proofs.lemmas.Bool.{eq-eqb}
use Rattle.std.proofs.lemmas.Bool.Decides.{eqb_tells}
use Rattle.std.proofs.lemmas.List.FromFn.{length-map-range_with_len, map-range_with_len_more}
use Rattle.std.proofs.lemmas.List.Recursion.{is_count_by}
use Rattle.std.proofs.lemmas.List.Sums.{sum_by_more}
use Rattle.std.proofs.lemmas.Nat.{mod_below}
use Rattle.network_theory.specs.Forest.{count_in, one_if}
use Rattle.network_workers.specs.Dealt.{own_count, workers_for, worker_at, AreWorkers}
use Rattle.network_workers.proofs.EndsOf.{ne-eqb}

-- a worker's seats are counted by a test
one-counted : (worker to n : ℕ) → one_if (worker == to) + n ≡ cond (to == worker) (1 + n) n
one-counted worker to n = elim (eqb_tells worker to) [
  | inl e ↦ ap (λ b. one_if b + n) e.0 ∙ sym (ap (λ b. cond b (1 + n) n) (eq-eqb to worker (sym e.1)))
  | inr e ↦ ap (λ b. one_if b + n) e.0 ∙ omega arith ∙ sym (ap (λ b. cond b (1 + n) n) (ne-eqb to worker (λ q. e.1 (sym q))))
]

pub count_in-is : (worker : ℕ) (goes : List ℕ) → count_in worker goes ≡ count_by (λ to. to == worker) goes
count_in-is worker goes = is_count_by (count_in worker) (λ to. to == worker) refl (λ to rest. one-counted worker to (count_in worker rest)) goes

-- all are workers
all-below : (f : ℕ → ℕ) (bound : ℕ) → 0 < bound → ((k : ℕ) → f k < bound) → (xs : List ℕ) (place : ℕ) → worker_at (map f xs) place < bound
all-below f bound some h [] place = some
all-below f bound some h (x ∷ xs) zero = h x
all-below f bound some h (x ∷ xs) (suc place) = all-below f bound some h xs place

as-number : (is : Bool) → from_bool is ≡ cond is 1 0
as-number true = refl
as-number false = refl

module _ (workers : ℕ) (own : List Bool) where
  abbrev to : ℕ → ℕ
  to place = own_count (take place own) % workers

  pub workers-count : length (workers_for workers own) ≡ length own
  workers-count = length-map-range_with_len to 0 (length own)

  pub workers-below : 0 < workers → AreWorkers workers (workers_for workers own)
  workers-below some = all-below to workers some (λ k. mod_below (own_count (take k own)) workers some) (range_with_len 0 (length own))

  -- one node more
  pub one-goes : (takers later : List ℕ) (k before : ℕ) → takers ≡ map to (range_with_len 0 k) → before ≡ own_count (take k own) → later ≡ takers ++ before % workers ∷ []
      → later ≡ map to (range_with_len 0 (k + 1))
  one-goes takers later k before made counted pushed =
      pushed ∙ ap (λ xs. xs ++ before % workers ∷ []) made ∙ ap (λ n. map to (range_with_len 0 k) ++ n % workers ∷ []) counted
      ∙ sym (map-range_with_len_more to 0 k k (omega arith))

  pub one-counts : (k before more : ℕ) (d : Bool) → k < length own → before ≡ own_count (take k own) → more ≡ from_bool (get_or own k d) → before + more ≡ own_count (take (k + 1) own)
  one-counts k before more d l counted is =
      let last = sum_by_more (λ b. cond b 1 0) own k d l in
      let one = as-number (get_or own k d) in
      omega (arith, last, one, counted, is)
