-- A chain of two is a tree.
use Rattle.std.proofs.Common.{◌≡◌, ◌≢◌, ℕ, ◌<◌, cond, inl, List, [], ◌∷◌, sym, arith}
use Rattle.std.specs.Prelude.{◌==◌}
use Rattle.std.proofs.lemmas.Bool.{eqb-true}
use Rattle.network_theory.specs.Shape.{Each, Apart, IsTree}
use Rattle.network_theory.proofs.Turns.{either}

chain : ℕ → List ℕ
chain k = cond (k == 1) (0 ∷ []) []

two : IsTree chain 1
unfolding chain
two = record {
  below = λ k. either (Each (λ j. j < k)) (k == 1) _ _ (λ t. let e = eqb-true k 1 t in (omega arith, tt)) (λ _. tt);
  apart = λ k. either Apart (k == 1) _ _ (λ _. (tt, tt)) (λ _. tt);
  parent = λ _. 1;
  owned = λ k. either (Each (λ j. 1 ≡ k)) (k == 1) _ _ (λ t. (sym (eqb-true k 1 t), tt)) (λ _. tt);
  child = λ k h. (h, omega arith, inl (omega arith));
  no_root = λ k. either (Each (λ j. j ≢ 1)) (k == 1) _ _ (λ t. ((λ z. omega arith), tt)) (λ _. tt);
}
