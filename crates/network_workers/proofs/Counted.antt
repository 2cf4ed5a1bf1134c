-- How many nodes come to a worker.
use Rattle.std.proofs.Common.{◌≡◌, ◌≢◌, ℕ, zero, suc, ◌+◌, ◌<◌, ◌≤◌, true, false, List, [], ◌∷◌, ◌++◌, length, drop, refl, ap, sym, subst, ◌∙◌, arith, inl, inr, length-append, drop-cons}
use Rattle.std.specs.Prelude.{◌==◌, slice_index_or, slice_set}
use Rattle.std.proofs.lemmas.List.{get_or-set_same, get_or-set_other, length-set, length-replicate, get_or-replicate}
use Rattle.std.proofs.lemmas.Bool.Decides.{eqb_tells}
use Rattle.std.proofs.lemmas.Bool.{eq-eqb}
use Rattle.network_theory.specs.Forest.{count_in, one_if}
use Rattle.network_workers.specs.Dealt.{Place, Hand, AreWorkers, empty_hand, with_place, worker_at, dealt, seat_of}

-- how often a worker stands in a list, and from a place on
count-drop : (worker n : ℕ) (goes : List ℕ) → count_in worker (drop n goes) ≤ count_in worker goes
count-drop worker zero goes = omega arith
count-drop worker (suc n) [] = omega arith
count-drop worker (suc n) (w ∷ goes) = let h = count-drop worker n goes in omega (arith, h)

count-from : (worker place : ℕ) (goes : List ℕ) → place < length goes → count_in worker (drop place goes) ≡ one_if (worker == worker_at goes place) + count_in worker (drop (suc place) goes)
count-from worker place goes l = ap (count_in worker) (drop-cons goes place 0 l)

count-same : (worker place : ℕ) (goes : List ℕ) → place < length goes → (worker == worker_at goes place) ≡ true → count_in worker (drop place goes) ≡ suc (count_in worker (drop (suc place) goes))
count-same worker place goes l e = count-from worker place goes l ∙ ap (λ b. one_if b + count_in worker (drop (suc place) goes)) e ∙ omega arith

count-other : (worker place : ℕ) (goes : List ℕ) → place < length goes → (worker == worker_at goes place) ≡ false → count_in worker (drop place goes) ≡ count_in worker (drop (suc place) goes)
count-other worker place goes l e = count-from worker place goes l ∙ ap (λ b. one_if b + count_in worker (drop (suc place) goes)) e ∙ omega arith

module _ {W : Type 0} (goes : List ℕ) (workers : ℕ) where
  pub dealt-length : (place : ℕ) (xs : List (Place W)) → length (dealt goes workers place xs) ≡ workers
  dealt-length place [] = length-replicate workers empty_hand
  dealt-length place (x ∷ xs) = length-set (dealt goes workers (suc place) xs) (worker_at goes place) _ ∙ dealt-length (suc place) xs

  -- how many seats a worker has
  abbrev seats : ℕ → List (Hand W) → ℕ
  seats worker hands = length (slice_index_or hands worker empty_hand).seats

  module _ (below : AreWorkers workers goes) where
    -- a node is a seat more at its worker, and none at another
    one-seat : (place worker : ℕ) (x : Place W) (xs : List (Place W)) → worker ≡ worker_at goes place
        → seats worker (dealt goes workers place (x ∷ xs)) ≡ seats worker (dealt goes workers (suc place) xs) + 1
    one-seat place worker x xs e =
        let before = dealt goes workers (suc place) xs in
        let after = with_place x (slice_index_or before (worker_at goes place) empty_hand) in
        let inside : worker_at goes place < length before = subst (λ n. worker_at goes place < n) (sym (dealt-length (suc place) xs)) (below place) in
        let more = length-append (slice_index_or before worker empty_hand).seats (seat_of x ∷ []) in
        ap (λ k. length (slice_index_or (slice_set before (worker_at goes place) after) k empty_hand).seats) e
        ∙ ap (λ (hand : Hand W). length hand.seats) (get_or-set_same before (worker_at goes place) after empty_hand inside)
        ∙ ap (λ k. length ((slice_index_or before k empty_hand).seats ++ seat_of x ∷ [])) (sym e) ∙ more

    no-seat : (place worker : ℕ) (x : Place W) (xs : List (Place W)) → worker ≢ worker_at goes place
        → seats worker (dealt goes workers place (x ∷ xs)) ≡ seats worker (dealt goes workers (suc place) xs)
    no-seat place worker x xs ne =
        let before = dealt goes workers (suc place) xs in
        ap (λ (hand : Hand W). length hand.seats)
        (get_or-set_other before (worker_at goes place) worker (with_place x (slice_index_or before (worker_at goes place) empty_hand)) empty_hand ne)

    -- a worker has no more seats than nodes that go to it
    counted : (place worker : ℕ) (xs : List (Place W)) → worker < workers → place + length xs ≤ length goes
        → seats worker (dealt goes workers place xs) ≤ count_in worker (drop place goes)
    counted place worker [] l room = let none = ap (λ (hand : Hand W). length hand.seats) (get_or-replicate workers worker empty_hand empty_hand l) in omega (arith, none)
    counted place worker (x ∷ xs) l room =
        let h = counted (suc place) worker xs l (omega (arith, room)) in
        let inside : place < length goes = omega (arith, room) in elim (eqb_tells worker (worker_at goes place)) [
          | inl e ↦ (let one = one-seat place worker x xs e.1 in let c = count-same worker place goes inside e.0 in omega (arith, h, one, c))
          | inr e ↦ (let same = no-seat place worker x xs e.1 in let c = count-other worker place goes inside e.0 in omega (arith, h, same, c))
        ]

    -- before the node at a place is dealt, its worker has room for it
    pub seat-room : (place capacity : ℕ) (xs : List (Place W)) → suc place + length xs ≤ length goes → count_in (worker_at goes place) goes ≤ capacity
        → seats (worker_at goes place) (dealt goes workers (suc place) xs) < capacity
    seat-room place capacity xs inside room =
        let h = counted (suc place) (worker_at goes place) xs (below place) inside in
        let all = count-drop (worker_at goes place) place goes in
        let one = count-same (worker_at goes place) place goes (omega (arith, inside)) (eq-eqb (worker_at goes place) (worker_at goes place) refl) in
        omega (arith, h, all, one, room)

    -- and not more seats than there are nodes behind it
    pub seats-few : (place worker : ℕ) (xs : List (Place W)) → worker < workers → seats worker (dealt goes workers place xs) ≤ length xs
    seats-few place worker [] l = let none = ap (λ (hand : Hand W). length hand.seats) (get_or-replicate workers worker empty_hand empty_hand l) in omega (arith, none)
    seats-few place worker (x ∷ xs) l =
        let h = seats-few (suc place) worker xs l in elim (eqb_tells worker (worker_at goes place)) [
          | inl e ↦ (let one = one-seat place worker x xs e.1 in omega (arith, h, one))
          | inr e ↦ (let same = no-seat place worker x xs e.1 in omega (arith, h, same))
        ]
