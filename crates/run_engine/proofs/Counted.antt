-- What nodes came to, one after the other.
use Rattle.std.proofs.Common.{Result, Ok, Err, IfOk, OnErr, ◌≡◌, ℕ, zero, suc, ◌+◌, ◌<◌, List, [], ◌∷◌, ◌++◌, length, slice_get, Some, refl, ap, sym, ◌∙◌, arith, inl, inr}
use Rattle.std.proofs.lemmas.Bool.Decides.{eqb_tells}
use Rattle.network_core.specs.declared.node.Node.{Node}
use Rattle.stage_kinds.specs.declared.stage_work.StageWork.{StageWork}
use Rattle.stage_options.specs.declared.stage.StageSpec.{StageSpec}
use Rattle.run_report.specs.declared.report.StageCount.{StageCount}
use Rattle.plug_stages.specs.declared.tally.PlugTally as tally_type
use Rattle.run_engine.specs.Counted.{node_count, AreCounted}

same_some : {A : Type 0} (x y : A) → Some x ≡ Some y → x ≡ y
same_some x y e = cc

-- one count more
pub counted-more : {S K P Q : Type 0} (ts : tally_type.Ghosts Q) (stages : List StageSpec) (nodes : List (Node (StageWork S K P Q))) (counts : List StageCount) (i : ℕ) (s : StageSpec) (n : Node (StageWork S K P Q)) → i ≡ length counts → slice_get stages i ≡ Some s → slice_get nodes i ≡ Some n
    → AreCounted ts stages nodes counts → AreCounted ts stages nodes (counts ++ node_count ts i s n ∷ [])
counted-more ts stages nodes counts i s n here at node before k t m lt e f = go counts k here lt
  where
    pushed : {A : Type 0} (xs : List A) (x : A) (k : ℕ) → k < length xs → slice_get (xs ++ x ∷ []) k ≡ slice_get xs k
    pushed [] x k l = absurd (omega arith)
    pushed (y ∷ xs) x zero l = refl
    pushed (y ∷ xs) x (suc k) l = pushed xs x k (omega (arith, l))

    last : {A : Type 0} (xs : List A) (x : A) (k : ℕ) → k ≡ length xs → slice_get (xs ++ x ∷ []) k ≡ Some x
    last [] x zero l = refl
    last [] x (suc k) l = absurd (omega (arith, l))
    last (y ∷ xs) x zero l = absurd (omega (arith, l))
    last (y ∷ xs) x (suc k) l = last xs x k (omega (arith, l))

    go : (cs : List StageCount) (j : ℕ) → i ≡ length counts → k < length (counts ++ node_count ts i s n ∷ []) → slice_get (counts ++ node_count ts i s n ∷ []) k ≡ Some (node_count ts k t m)
    go cs j here lt = elim (eqb_tells k i) [
      | inl p ↦ last counts (node_count ts i s n) k (p.1 ∙ here)
          ∙ ap (λ x. Some (node_count ts x s n)) (sym p.1)
          ∙ ap (λ x. Some (node_count ts k x n)) (same_some s t (sym at ∙ ap (slice_get stages) (sym p.1) ∙ e))
          ∙ ap (λ (x : Node (StageWork _ _ _ _)). Some (node_count ts k t x)) (same_some n m (sym node ∙ ap (slice_get nodes) (sym p.1) ∙ f))
      | inr p ↦ (let ne = p.1 in let size = length-push counts (node_count ts i s n) in let inside : k < length counts = omega (arith, ne, lt, here, size) in
          pushed counts (node_count ts i s n) k inside ∙ before k t m inside e f)
    ]
      where
        length-push : {A : Type 0} (xs : List A) (x : A) → length (xs ++ x ∷ []) ≡ length xs + 1
        length-push [] x = refl
        length-push (y ∷ xs) x = let r = length-push xs x in omega (arith, r)

-- what holds anyhow holds of what is answered
pub anyhow : {A E : Type 0} (r : Result A E) (P : Type 0) → P → IfOk r (λ a. P)
anyhow (Ok a) P p = p
anyhow (Err e) P p = tt

-- and what a refusal says it says under a premise
pub premised : {A E : Type 0} (r : Result A E) (P Q : Type 0) → OnErr r Q → OnErr r (P → Q)
premised (Ok a) P Q q = tt
premised (Err e) P Q q = λ p. q
