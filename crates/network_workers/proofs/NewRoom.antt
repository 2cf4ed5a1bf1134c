-- The memory of several workers, once it is made.
use Rattle.std.proofs.Common.{◌≡◌, ℕ, ◌+◌, ◌-◌, ◌<◌, ◌≤◌, Bool, List, [], ◌∷◌, ◌++◌, length, Option, ap, subst, sym, ◌∙◌, arith, inl, inr, length-append}
use Rattle.std.specs.Prelude.{slice_index_or}
use Rattle.std.proofs.lemmas.Bool.Decides.{eqb_tells}
use Rattle.chunk_queue.specs.Ends.{InSeen, OutSeen}
use Rattle.network_theory.specs.Forest.{count_in}
use Rattle.network_workers.specs.declared.seats.Deal.{Deal}
use Rattle.network_workers.specs.Dealt.{AreWorkers, Hand, workers_for}
use Rattle.network_workers.specs.Lists.{Each}
use Rattle.network_workers.specs.Rooms.{AreNewEnds, IsIdle, IsRoom}
use Rattle.network_workers.proofs.Dealing.{get-front, get-last}
use Rattle.network_workers.proofs.Going.{workers-count, workers-below}

-- one element more, or less
module _ {X : Type 0} (P : X → Type 0) (xs ys : List X) (y : X) (same : ys ≡ xs ++ y ∷ []) where
  count : length ys ≡ length xs + 1
  count = ap (λ (zs : List X). length zs) same ∙ length-append xs (y ∷ [])

  pub each-push : Each (λ i x. P x) xs → P y → Each (λ i x. P x) ys
  each-push h here k d l = elim (eqb_tells k (length xs)) [
    | inl e ↦ subst P (sym (ap (λ zs. slice_index_or zs k d) same ∙ ap (λ i. slice_index_or (xs ++ y ∷ []) i d) e.1 ∙ get-last xs y d)) here
    | inr e ↦ (let m : k < length xs = (let c = count in let n = e.1 in omega (arith, l, c, n)) in
        subst P (sym (ap (λ zs. slice_index_or zs k d) same ∙ get-front xs y k d m)) (h k d m))
  ]

  pub each-rest : Each (λ i x. P x) ys → Each (λ i x. P x) xs
  each-rest h k d l = subst P (ap (λ zs. slice_index_or zs k d) same ∙ get-front xs y k d l) (h k d (let c = count in omega (arith, l, c)))

  pub each-last : Each (λ i x. P x) ys → P y
  each-last h = subst P (ap (λ zs. slice_index_or zs (length xs) y) same ∙ get-last xs y y) (h (length xs) y (let c = count in omega arith))

module _ {W : Type 0} (goes : List ℕ) where
  -- one idle worker more, which has room for the nodes that go to it
  pub one-idle : (ends : ℕ) (deals later : List (Deal W)) (deal : Deal W) (worker : ℕ) → later ≡ deals ++ deal ∷ [] → length deals ≡ worker
      → Each (λ i d. IsIdle (count_in i goes) ends d) deals → IsIdle (count_in worker goes) ends deal → Each (λ i d. IsIdle (count_in i goes) ends d) later
  one-idle ends deals later deal worker same at h here k d l = elim (eqb_tells k (length deals)) [
    | inl e ↦ subst (λ (x : Deal W). IsIdle (count_in k goes) ends x)
        (sym (ap (λ zs. slice_index_or zs k d) same ∙ ap (λ i. slice_index_or (deals ++ deal ∷ []) i d) e.1 ∙ get-last deals deal d))
        (subst (λ i. IsIdle (count_in i goes) ends deal) (sym (e.1 ∙ at)) here)
    | inr e ↦ (let m : k < length deals = (let c = ap (λ (zs : List (Deal W)). length zs) same ∙ length-append deals (deal ∷ []) in let n = e.1 in omega (arith, l, c, n)) in
        subst (λ (x : Deal W). IsIdle (count_in k goes) ends x) (sym (ap (λ zs. slice_index_or zs k d) same ∙ get-front deals deal k d m)) (h k d m))
  ]

  -- the whole memory
  pub new-room : (held workers : ℕ) (own : List Bool) (outs : List (Option OutSeen)) (inns : List (Option InSeen)) (deals : List (Deal W)) → 0 < length own → length own ≤ 64 → 0 < workers → workers ≤ 32
      → held ≡ length own → AreNewEnds (length own) outs inns → goes ≡ workers_for workers own → length deals ≡ workers → Each (λ i d. IsIdle (count_in i goes) (length own - 1) d) deals
      → IsRoom held goes outs inns deals
  new-room held workers own outs inns deals some few one most holds ends are count idle = record {
    some = ((let n = ends.count in omega (arith, n, some)), omega (arith, count, one));
    few = ((let n = ends.count in omega (arith, n, few)), omega (arith, count, most));
    capacity = let n = ends.count in omega (arith, n, holds);
    ends = subst (λ n. AreNewEnds n outs inns) (sym ends.count) ends;
    idle = λ i d l. let at = idle i d l in (at.none, at.hand);
    takers = (
      ap (λ (gs : List ℕ). length gs) are ∙ workers-count workers own ∙ sym ends.count,
      subst (λ n. AreWorkers n goes) (sym count) (subst (AreWorkers workers) (sym are) (workers-below workers own one)),
    );
    room = λ i d l. let at = idle i d l in record {
      seats = let r = at.room.0 in omega (arith, r);
      ins = let r = at.room.1 in let none = ap (λ (z : Hand W). length z.ins) at.hand in let n = ends.opened.count.1 in omega (arith, r, none, n);
    };
  }
