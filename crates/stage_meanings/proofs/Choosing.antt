-- Where a filter stops that admits points by how many passed before them, by those of its points that are chosen: of the points before
-- the first at which its `where` has no value those that pass.
use Rattle.std.proofs.Common.{◌≡◌, ℕ, zero, suc, ◌+◌, Bool, true, false, cond, List, [], ◌∷◌, length, take, Option, Some, None, refl, ap, sym, ◌∙◌, arith}
use Rattle.std.specs.Prelude.{filter, Result, Ok, Err}
use Rattle.cloud_points.specs.Queue.{up_to_limit}
use Rattle.stage_meanings.specs.Filters.{is_true, reason_of, found, points_before, if_passing, first_refused, first_unjudged}
use Rattle.stage_meanings.specs.Places.{IsPlaceOf}
use Rattle.stage_meanings.specs.Admitting.{points_from}
use Rattle.stage_meanings.proofs.Admits.{points_more, points_none, points_zero, refused_within}
use Rattle.stage_meanings.proofs.Streams.{number_of, within}

module _ {P R : Type 0} (against : ℕ → P → Option R) (only : P → Result Bool R) where
  abbrev passing : P → Bool
  passing p = is_true (only p)

  -- each of them passes
  abbrev every : P → Result Bool R
  every p = Ok true

  abbrev chosen_from : ℕ → List P → List P
  chosen_from n ps = filter passing (points_from n (first_unjudged only n ps) ps)

  -- with one point more in front, that could be judged
  one_more : (n : ℕ) (p : P) (ps : List P) → filter passing (points_from n (first_unjudged only (n + 1) ps) (p ∷ ps)) ≡ cond (passing p) (p ∷ chosen_from (n + 1) ps) (chosen_from (n + 1) ps)
  one_more n p ps = ap (filter passing) (points_more n p ps (first_unjudged only (n + 1) ps) (λ k r is. (within (λ p. reason_of (only p)) (n + 1) ps k r is).0))

  -- ---- none of the chosen is refused

  none_from : (n m k : ℕ) (ps : List P) → first_refused against every m k (chosen_from n ps) ≡ None → first_refused against only n k ps ≡ first_unjudged only n ps
  none_from n m k [] e = refl
  none_from n m k (p ∷ ps) e = step (only p) refl (λ m k. none_from (n + 1) m k ps) e
    where
      step : (r : Result Bool R) → is_true r ≡ passing p
          → ((m k : ℕ) → first_refused against every m k (chosen_from (n + 1) ps) ≡ None → first_refused against only (n + 1) k ps ≡ first_unjudged only (n + 1) ps)
          → first_refused against every m k (filter passing (points_from n (found n (reason_of r) (first_unjudged only (n + 1) ps)) (p ∷ ps))) ≡ None
          → found n (if_passing r (against k p)) (first_refused against only (n + 1) (cond (is_true r) (up_to_limit (k + 1)) k) ps) ≡ found n (reason_of r) (first_unjudged only (n + 1) ps)
      step (Err q) same ih e = refl
      step (Ok false) same ih e = ih m k (ap (first_refused against every m k) (ap (λ b. cond b (p ∷ chosen_from (n + 1) ps) (chosen_from (n + 1) ps)) same ∙ sym (one_more n p ps)) ∙ e)
      step (Ok true) same ih e = by_reason (against k p) (ap (first_refused against every m k) (ap (λ b. cond b (p ∷ chosen_from (n + 1) ps) (chosen_from (n + 1) ps)) same ∙ sym (one_more n p ps)) ∙ e)
        where
          by_reason : (o : Option R) → found m o (first_refused against every (m + 1) (up_to_limit (k + 1)) (chosen_from (n + 1) ps)) ≡ None
              → found n o (first_refused against only (n + 1) (up_to_limit (k + 1)) ps) ≡ first_unjudged only (n + 1) ps
          by_reason None e = ih (m + 1) (up_to_limit (k + 1)) e
          by_reason (Some q) e = absurd cc

  -- it stops at the first at which its `where` has no value
  pub none_refused : (k : ℕ) (ps : List P) → first_refused against every 0 k (filter passing (points_before (first_unjudged only 0 ps) ps)) ≡ None → first_refused against only 0 k ps ≡ first_unjudged only 0 ps
  none_refused k ps e = none_from 0 0 k ps (ap (λ qs. first_refused against every 0 k (filter passing qs)) (points_zero (first_unjudged only 0 ps) ps) ∙ e)

  -- and where it stops nowhere, none of the chosen is refused
  chosen_from_any : (n m k : ℕ) (ps : List P) → first_refused against only n k ps ≡ None → first_refused against every m k (filter passing ps) ≡ None
  chosen_from_any n m k [] e = refl
  chosen_from_any n m k (p ∷ ps) e = step (only p) refl (λ m k. chosen_from_any (n + 1) m k ps) e
    where
      step : (r : Result Bool R) → passing p ≡ is_true r
          → ((m k : ℕ) → first_refused against only (n + 1) k ps ≡ None → first_refused against every m k (filter passing ps) ≡ None)
          → found n (if_passing r (against k p)) (first_refused against only (n + 1) (cond (is_true r) (up_to_limit (k + 1)) k) ps) ≡ None
          → first_refused against every m k (cond (passing p) (p ∷ filter passing ps) (filter passing ps)) ≡ None
      step (Err q) same ih e = absurd cc
      step (Ok false) same ih e = ap (λ b. first_refused against every m k (cond b (p ∷ filter passing ps) (filter passing ps))) same ∙ ih m k e
      step (Ok true) same ih e = ap (λ b. first_refused against every m k (cond b (p ∷ filter passing ps) (filter passing ps))) same ∙ by_reason (against k p) e
        where
          by_reason : (o : Option R) → found n o (first_refused against only (n + 1) (up_to_limit (k + 1)) ps) ≡ None
              → found m o (first_refused against every (m + 1) (up_to_limit (k + 1)) (filter passing ps)) ≡ None
          by_reason None e = ih (m + 1) (up_to_limit (k + 1)) e
          by_reason (Some q) e = absurd cc

  pub none_of_chosen : (k : ℕ) (ps : List P) → first_refused against only 0 k ps ≡ None → first_refused against every 0 k (filter passing ps) ≡ None
  none_of_chosen k ps e = chosen_from_any 0 0 k ps e

  -- ---- one of the chosen is refused, that has a place among the points

  -- with the numbers as successors
  record Place (ps : List P) (j at : ℕ) : Type 0 where
    before : length (filter passing (take at ps)) ≡ j
    with_it : length (filter passing (take (suc at) ps)) ≡ suc j

  passes_there : (b : Bool) (p : P) → length (cond b (p ∷ []) []) ≡ 1 → b ≡ true
  passes_there true p e = refl
  passes_there false p e = absurd cc

  less : (i j : ℕ) → suc i ≡ suc j → i ≡ j
  less i j e = omega (arith, e)

  abbrev reason_in : R → Option (ℕ × R) → R
  reason_in otherwise None = otherwise
  reason_in otherwise (Some s) = s.1

  one_from : (n m k : ℕ) (ps : List P) (j at number : ℕ) (r : R) → first_refused against every m k (chosen_from n ps) ≡ Some (number, r) → number ≡ m + j → Place ps j at → first_refused against only n k ps ≡ Some (n + at, r)
  one_from n m k [] j at number r e is there = absurd cc
  one_from n m k (p ∷ ps) j zero number r e is there =
      step (only p) (passes_there (passing p) p (there.with_it ∙ ap suc (sym there.before))) e
    where
      step : (x : Result Bool R) → is_true x ≡ true
          → first_refused against every m k (filter passing (points_from n (found n (reason_of x) (first_unjudged only (n + 1) ps)) (p ∷ ps))) ≡ Some (number, r)
          → found n (if_passing x (against k p)) (first_refused against only (n + 1) (cond (is_true x) (up_to_limit (k + 1)) k) ps) ≡ Some (n + 0, r)
      step (Err q) w e = absurd cc
      step (Ok false) w e = absurd cc
      step (Ok true) w e = by_reason (against k p)
          (ap (first_refused against every m k) (sym (one_more n p ps ∙ ap (λ b. cond b (p ∷ chosen_from (n + 1) ps) (chosen_from (n + 1) ps)) (passes_there (passing p) p (there.with_it ∙ ap suc (sym there.before))))) ∙ e)
        where
          by_reason : (o : Option R) → found m o (first_refused against every (m + 1) (up_to_limit (k + 1)) (chosen_from (n + 1) ps)) ≡ Some (number, r)
              → found n o (first_refused against only (n + 1) (up_to_limit (k + 1)) ps) ≡ Some (n + 0, r)
          by_reason (Some q) e = ap (λ o. Some (n, reason_in q o)) e ∙ ap (λ i. Some (i, r)) (omega arith)
          by_reason None e =
              let low = (refused_within against every (m + 1) (up_to_limit (k + 1)) (chosen_from (n + 1) ps) number r e).0 in
              let first : length (filter passing (take 0 (p ∷ ps))) ≡ j = there.before in
              absurd (omega (arith, low, is, first))
  one_from n m k (p ∷ ps) j (suc at) number r e is there = step (only p) refl (λ m k j number. one_from (n + 1) m k ps j at number r) e
    where
      moved : (o : Option (ℕ × R)) → o ≡ Some (n + 1 + at, r) → o ≡ Some (n + suc at, r)
      moved o e = e ∙ ap (λ i. Some (i, r)) (omega arith)

      step : (x : Result Bool R) → is_true x ≡ passing p
          → ((m k j number : ℕ) → first_refused against every m k (chosen_from (n + 1) ps) ≡ Some (number, r) → number ≡ m + j → Place ps j at → first_refused against only (n + 1) k ps ≡ Some (n + 1 + at, r))
          → first_refused against every m k (filter passing (points_from n (found n (reason_of x) (first_unjudged only (n + 1) ps)) (p ∷ ps))) ≡ Some (number, r)
          → found n (if_passing x (against k p)) (first_refused against only (n + 1) (cond (is_true x) (up_to_limit (k + 1)) k) ps) ≡ Some (n + suc at, r)
      step (Err q) same ih e = absurd (let z = ap (λ qs. first_refused against every m k (filter passing qs)) (sym (points_none n q (p ∷ ps))) ∙ e in cc)
      step (Ok false) same ih e = moved _ (ih m k j number
          (ap (first_refused against every m k) (ap (λ b. cond b (p ∷ chosen_from (n + 1) ps) (chosen_from (n + 1) ps)) same ∙ sym (one_more n p ps)) ∙ e)
          is
          (record {
            before = ap (λ b. length (cond b (p ∷ filter passing (take at ps)) (filter passing (take at ps)))) same ∙ there.before;
            with_it = ap (λ b. length (cond b (p ∷ filter passing (take (suc at) ps)) (filter passing (take (suc at) ps)))) same ∙ there.with_it;
          }))
      step (Ok true) same ih e = by_reason (against k p)
          (ap (first_refused against every m k) (ap (λ b. cond b (p ∷ chosen_from (n + 1) ps) (chosen_from (n + 1) ps)) same ∙ sym (one_more n p ps)) ∙ e)
        where
          before : suc (length (filter passing (take at ps))) ≡ j
          before = ap (λ b. length (cond b (p ∷ filter passing (take at ps)) (filter passing (take at ps)))) same ∙ there.before

          with_it : suc (length (filter passing (take (suc at) ps))) ≡ suc j
          with_it = ap (λ b. length (cond b (p ∷ filter passing (take (suc at) ps)) (filter passing (take (suc at) ps)))) same ∙ there.with_it

          by_reason : (o : Option R) → found m o (first_refused against every (m + 1) (up_to_limit (k + 1)) (chosen_from (n + 1) ps)) ≡ Some (number, r)
              → found n o (first_refused against only (n + 1) (up_to_limit (k + 1)) ps) ≡ Some (n + suc at, r)
          by_reason (Some q) e = let first : m ≡ number = ap number_of e in absurd (omega (arith, first, is, before))
          by_reason None e = moved _ (ih (m + 1) (up_to_limit (k + 1)) (length (filter passing (take at ps))) number e (omega (arith, is, before)) (record {
            before = refl;
            with_it = less _ _ (with_it ∙ ap suc (sym before));
          }))

  -- it stops there
  pub one_refused : (k : ℕ) (ps : List P) (j at : ℕ) (r : R) → first_refused against every 0 k (filter passing (points_before (first_unjudged only 0 ps) ps)) ≡ Some (j, r) → IsPlaceOf passing ps j at
      → first_refused against only 0 k ps ≡ Some (at, r)
  one_refused k ps j at r e there = one_from 0 0 k ps j at j r (ap (λ qs. first_refused against every 0 k (filter passing qs)) (points_zero (first_unjudged only 0 ps) ps) ∙ e) (omega arith) (record {
    before = there.before;
    with_it = ap (λ i. length (filter passing (take i ps))) (let z : suc at ≡ at + 1 = omega arith in z) ∙ there.with_it ∙ omega arith;
  })
      ∙ ap (λ i. Some (i, r)) (omega arith)
