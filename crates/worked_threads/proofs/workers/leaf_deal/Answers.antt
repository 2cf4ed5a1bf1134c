use Rattle.std.proofs.Common.{rules, ◌≡◌, [], length, ℕ, zero, suc, ◌<◌, List, ◌∷◌, Some, refl, sym, ap, subst, arith}
use Rattle.std.specs.Prelude.{slice_index_or}
use Rattle.network_workers.proofs.Dealing.{fresh-fit}
use Rattle.network_workers.specs.Ends.{got_of}
use Rattle.network_workers.specs.Seats.{IsFit}
use Rattle.network_workers.specs.declared.seats.Seat.{Seat}
use Rattle.worked_threads.specs.contracts.workers.GiverWork.TheImpl.{ghosts}
use Rattle.worked_threads.specs.declared.workers.Giver.{Giver}
use Rattle.worked_threads.proofs.workers.leaf_deal.Goals as goal

-- a new leaf on a new queue may take turns
pub returns-clause-fits : goal.returns-clause-fits
returns-clause-fits c =
    let seat : Seat Giver = record { stage = c.args.stage; node = c.new-node.result; out = Some c.args.out } in
    let seats : c.in_ok-seats.seats.items ≡ seat ∷ [] = search rules in
    let none : c.new-node.result.inputs ≡ 0 = ap (λ n. n.machine.inputs) (c.new-node.ensures.shown []) in
    let fit : IsFit ghosts c.new-ins.result.items 0 seat = fresh-fit ghosts c.new-ins.result.items 0 seat []
    (c.new-node.ensures.fresh [] refl) c.requires.new (λ k l. absurd (omega (arith, l, none)))
    (λ k. ap (λ ins. got_of ins 0 k) c.new-ins.ensures.items) in
    λ k d l. subst (λ (xs : List (Seat Giver)). k < length xs → IsFit ghosts c.new-ins.result.items k (slice_index_or xs k d))
    (sym seats) (only c.new-ins.result.items seat fit k d) l
  where
    only : (ins : _) (seat : Seat Giver) → IsFit ghosts ins 0 seat → (k : ℕ) (d : Seat Giver) → k < length (seat ∷ [])
        → IsFit ghosts ins k (slice_index_or (seat ∷ []) k d)
    only ins seat fit zero d l = fit
    only ins seat fit (suc k) d l = absurd (omega (arith, l))
