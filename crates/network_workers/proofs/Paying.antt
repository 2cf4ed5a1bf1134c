-- Turns that are counted lower what is owed.
use Rattle.std.proofs.Common.{◌≡◌, ℕ, zero, suc, ◌+◌, ◌*◌, ◌≤◌, ◌<◌, List, [], ◌∷◌, length, refl, arith}
use Rattle.std.specs.Prelude.{slice_index_or, slice_set}
use Rattle.cloud_points.specs.declared.item.Item as code
use Rattle.cloud_points.specs.declared.work.Work.{Ghosts}
use Rattle.cloud_points.specs.Bodies.{bodies}
use Rattle.network_workers.specs.declared.seats.Seat.{Seat}
use Rattle.network_workers.specs.declared.seats.SeatIn.{SeatIn}
use Rattle.network_workers.specs.declared.seats.Deal.{Deal}
use Rattle.network_workers.specs.Pays.{seat_owes, end_pays, seats_owe, ends_pay, deals_owe, deals_pay, SeatsPaid, DealsPaid}

pub bodies-length : (items : List code.Item) → length (bodies items) ≡ length items
bodies-length [] = refl
bodies-length (x ∷ xs) = let h = bodies-length xs in omega (arith, h)

-- the sums where one place is set
module _ {W S : Type 0} (g : Ghosts W S) where
  pub seats_owe-set : (below : ℕ → ℕ) (xs : List (Seat W)) (at : ℕ) (y d : Seat W) → at < length xs → seats_owe g below (slice_set xs at y) + seat_owes g (below at) (slice_index_or xs at d) ≡ seats_owe g below xs + seat_owes g (below at) y
  seats_owe-set below [] at y d l = absurd (omega (arith, l))
  seats_owe-set below (x ∷ xs) zero y d l = omega arith
  seats_owe-set below (x ∷ xs) (suc at) y d l = let h = seats_owe-set (λ k. below (suc k)) xs at y d (omega (arith, l)) in omega (arith, h)

  pub deals_owe-set : (below : ℕ → ℕ → ℕ) (xs : List (Deal W)) (i : ℕ) (y d : Deal W) → i < length xs → deals_owe g below (slice_set xs i y) + seats_owe g (below i) (slice_index_or xs i d).seats.items ≡ deals_owe g below xs + seats_owe g (below i) y.seats.items
  deals_owe-set below [] i y d l = absurd (omega (arith, l))
  deals_owe-set below (x ∷ xs) zero y d l = omega arith
  deals_owe-set below (x ∷ xs) (suc i) y d l = let h = deals_owe-set (λ k. below (suc k)) xs i y d (omega (arith, l)) in omega (arith, h)

pub ends_pay-set : (below : ℕ → ℕ) (xs : List SeatIn) (at : ℕ) (y d : SeatIn) → at < length xs → ends_pay below (slice_set xs at y) + end_pays below (slice_index_or xs at d) ≡ ends_pay below xs + end_pays below y
ends_pay-set below [] at y d l = absurd (omega (arith, l))
ends_pay-set below (x ∷ xs) zero y d l = omega arith
ends_pay-set below (x ∷ xs) (suc at) y d l = let h = ends_pay-set below xs at y d (omega (arith, l)) in omega (arith, h)

pub deals_pay-set : {W : Type 0} (below : ℕ → ℕ → ℕ) (xs : List (Deal W)) (i : ℕ) (y d : Deal W) → i < length xs → deals_pay below (slice_set xs i y) + ends_pay (below i) (slice_index_or xs i d).ins.items ≡ deals_pay below xs + ends_pay (below i) y.ins.items
deals_pay-set below [] i y d l = absurd (omega (arith, l))
deals_pay-set below (x ∷ xs) zero y d l = omega arith
deals_pay-set below (x ∷ xs) (suc i) y d l = let h = deals_pay-set (λ k. below (suc k)) xs i y d (omega (arith, l)) in omega (arith, h)

-- what one turn pays, by the counts of what it took and sent
pub one-turn : (e c o o' s s' sent took q q' : ℕ) → c + o' + 2 * e * sent ≤ o + (2 * e + 2) * took → s' ≡ s + sent → q' ≡ q + took → c + (o' + 2 * e * s') + (2 * e + 2) * q ≤ (o + 2 * e * s) + (2 * e + 2) * q'
one-turn e c o o' s s' sent took q q' h a b = rw (a, b) (omega (arith, h))

-- turns one after the other
module _ {W S : Type 0} (g : Ghosts W S) where
  pub paid-nothing : (first : ℕ) (ins : List SeatIn) (xs : List (Seat W)) → SeatsPaid g first first ins ins xs xs
  paid-nothing first ins xs below = omega arith

  pub deals_paid-nothing : (first : ℕ) (xs : List (Deal W)) → DealsPaid g first first xs xs
  deals_paid-nothing first xs below = omega arith

  pub deals_paid-on : (first mid last : ℕ) (xs ys zs : List (Deal W)) → DealsPaid g first mid xs ys → DealsPaid g mid last ys zs → DealsPaid g first last xs zs
  deals_paid-on first mid last xs ys zs h k below = let a = h below in let b = k below in omega (arith, a, b)

  -- the seats of one deal
  pub deals_paid-set : (first last : ℕ) (xs : List (Deal W)) (i : ℕ) (y d : Deal W) → i < length xs → SeatsPaid g first last (slice_index_or xs i d).ins.items y.ins.items (slice_index_or xs i d).seats.items y.seats.items
      → DealsPaid g first last xs (slice_set xs i y)
  deals_paid-set first last xs i y d l h below =
      let a = h (below i) in
      let b = deals_owe-set g below xs i y d l in
      let c = deals_pay-set below xs i y d l in omega (arith, a, b, c)

  -- the seat at one place: what it owes, and what its ends pay
  pub paid-set : (first last : ℕ) (ins ins' : List SeatIn) (xs : List (Seat W)) (at : ℕ) (y d : Seat W) → at < length xs
      → ((below : ℕ → ℕ) → last + seat_owes g (below at) y + ends_pay below ins ≤ first + seat_owes g (below at) (slice_index_or xs at d) + ends_pay below ins') → SeatsPaid g first last ins ins' xs (slice_set xs at y)
  paid-set first last ins ins' xs at y d l h below =
      let a = h below in
      let b = seats_owe-set g below xs at y d l in omega (arith, a, b)

  pub paid-step : (first mid last one : ℕ) (ins ins' ins'' : List SeatIn) (xs ys zs : List (Seat W)) → SeatsPaid g first mid ins ins' xs ys → SeatsPaid g 0 one ins' ins'' ys zs → last ≡ mid + one → SeatsPaid g first last ins ins'' xs zs
  paid-step first mid last one ins ins' ins'' xs ys zs h k s below = let a = h below in let b = k below in omega (arith, a, b, s)
