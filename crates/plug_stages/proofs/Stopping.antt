-- Steps that count their points, and stop at the first for which there is a reason.
use Rattle.std.proofs.Common.{◌≡◌, ℕ, suc, ◌+◌, ◌-◌, ◌≤◌, List, [], ◌∷◌, take, Option, Some, None, refl, ap, sym, ◌∙◌, arith}
use Rattle.std.specs.List.{cons_option}
use Rattle.std.specs.Option.{option_map}
use Rattle.cloud_points.specs.Events.{first_fault}
use Rattle.cloud_points.specs.Queue.{up_to_limit}
use Rattle.cloud_points.specs.declared.faults.StageFault.{StageFault}
use Rattle.stage_meanings.specs.Filters.{found, first_from, fault_at, told_stop}
use Rattle.stage_meanings.specs.Steps.{Steps, unless, given, stopped}
use Rattle.stage_meanings.proofs.Streams.{number_of, within}
use Rattle.stage_meanings.specs.declared.reason.Reason.{Reason}

module _ {P : Type 0} (why : P → Option Reason) where
  -- no stop among the points before one
  pub none_before : (n : ℕ) (a : List P) (k : ℕ) (r : Reason) → first_from why n a ≡ Some (k, r) → first_from why n (take (k - n) a) ≡ None
  none_before n [] k r e = absurd cc
  none_before n (p ∷ a) k r e = go (why p) refl (none_before (n + 1) a k r) (λ h. (within why (n + 1) a k r h).0) e
    where
      go : (o : Option Reason) → why p ≡ o → (first_from why (n + 1) a ≡ Some (k, r) → first_from why (n + 1) (take (k - (n + 1)) a) ≡ None)
          → (first_from why (n + 1) a ≡ Some (k, r) → n + 1 ≤ k) → found n o (first_from why (n + 1) a) ≡ Some (k, r) → first_from why n (take (k - n) (p ∷ a)) ≡ None
      go (Some q) w ih low e = let same : n ≡ k = ap number_of e in ap (λ z. first_from why n (take z (p ∷ a))) (let z : k - n ≡ 0 = omega (arith, same) in z)
      go None w ih low e = let l = low e in
          ap (λ z. first_from why n (take z (p ∷ a))) (let z : k - n ≡ suc (k - (n + 1)) = omega (arith, l) in z)
          ∙ ap (λ o. found n o (first_from why (n + 1) (take (k - (n + 1)) a))) w ∙ ih e

  module _ {S : Type 0} (st : Steps S P StageFault) (number : S → ℕ)
      (faults : (s : S) (p : P) → st.fault s p ≡ option_map (fault_at (number s)) (why p)) (counts : (s : S) (p : P) → number (st.next s p) ≡ up_to_limit (number s + 1)) where
    pub stop_found : (n : ℕ) (s : S) (v : List P) → number s ≡ up_to_limit n → stopped st s v ≡ option_map told_stop (first_from why n v)
    stop_found n s [] e = refl
    stop_found n s (p ∷ v) e = ap (λ o. first_fault o (stopped st (st.next s p) v)) (faults s p)
        ∙ go (why p) (stop_found (n + 1) (st.next s p) v (counts s p ∙ (let z : up_to_limit (number s + 1) ≡ up_to_limit (n + 1) = omega (arith, e) in z)))
      where
        go : (o : Option Reason) → stopped st (st.next s p) v ≡ option_map told_stop (first_from why (n + 1) v)
            → first_fault (option_map (fault_at (number s)) o) (stopped st (st.next s p) v) ≡ option_map told_stop (found n o (first_from why (n + 1) v))
        go (Some r) ih = ap (λ k. Some (fault_at k r)) e
        go None ih = ih

    -- the points before a stop give all that is given
    pub given_before : (s : S) (n : ℕ) (a : List P) (k : ℕ) (r : Reason) → first_from why n a ≡ Some (k, r) → given st s (take (k - n) a) ≡ given st s a
    given_before s n [] k r e = absurd cc
    given_before s n (p ∷ a) k r e = go (why p) refl (given_before (st.next s p) (n + 1) a k r) (λ h. (within why (n + 1) a k r h).0) e
      where
        go : (o : Option Reason) → why p ≡ o → (first_from why (n + 1) a ≡ Some (k, r) → given st (st.next s p) (take (k - (n + 1)) a) ≡ given st (st.next s p) a)
            → (first_from why (n + 1) a ≡ Some (k, r) → n + 1 ≤ k) → found n o (first_from why (n + 1) a) ≡ Some (k, r) → given st s (take (k - n) (p ∷ a)) ≡ given st s (p ∷ a)
        go (Some q) w ih low e = let same : n ≡ k = ap number_of e in
            ap (λ z. given st s (take z (p ∷ a))) (let z : k - n ≡ 0 = omega (arith, same) in z)
            ∙ sym (ap (λ o. unless o [] (cons_option (st.becomes s p) (given st (st.next s p) a))) (faults s p ∙ ap (option_map (fault_at (number s))) w))
        go None w ih low e = let l = low e in
            ap (λ z. given st s (take z (p ∷ a))) (let z : k - n ≡ suc (k - (n + 1)) = omega (arith, l) in z)
            ∙ ap (λ z. unless (st.fault s p) [] (cons_option (st.becomes s p) z)) (ih e)
