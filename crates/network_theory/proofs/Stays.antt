-- A turn that does no work changes nothing.
use Rattle.std.proofs.Common.{◌≡◌, ℕ, Bool, true, false, cond, List, [], ◌∷◌, refl, ap, sym, ◌∙◌}
use Rattle.std.proofs.Math.Path.{fun_ext}
use Rattle.std.specs.Prelude.{◌==◌}
use Rattle.std.proofs.lemmas.Bool.{eqb-true}
use Rattle.cloud_points.specs.Marks.{Item}
use Rattle.network_theory.specs.Net.{Node, Net, Outcome, Turned, Took, Gave, Made, Idle, Done, works, open_ins, current_edge, is_current, numbers_above, numbers_left, with_turn}
use Rattle.network_theory.proofs.Turns.{either}

above-idle : (root : Bool) (t : Turned) → works t ≡ false → (ns : List ℕ) (number : ℕ) → numbers_above root t ns number ≡ ns
above-idle root Took h ns number = refl
above-idle root Gave h ns number = absurd (let z : true ≡ false = h in cc)
above-idle root Made h ns number = refl
above-idle root (Idle why) h ns number = refl
above-idle root Done h ns number = refl

left-idle : (t : Turned) → works t ≡ false → (ns : List ℕ) → numbers_left t ns ≡ ns
left-idle Took h ns = absurd (let z : true ≡ false = h in cc)
left-idle Gave h ns = refl
left-idle Made h ns = refl
left-idle (Idle why) h ns = refl
left-idle Done h ns = refl

same_net : {S P F : Type 0} (n n' : ℕ → Node S P F) (e e' : ℕ → List (Item P)) (s s' : ℕ → List ℕ) → n ≡ n' → e ≡ e' → s ≡ s' → ◌≡◌ {A = Net S P F} (record { node = n; edge = e; numbers = s }) (record { node = n'; edge = e'; numbers = s' })
same_net n n' e e' s s' a b c = cc

module _ {S P F : Type 0} (net : Net S P F) (root i : ℕ) (t : Turned) (idle : works t ≡ false) where
  abbrev pub still : Outcome S P F
  still = record { node = net.node i; input = current_edge net.edge (open_ins (net.node i)); out = net.edge i; turned = t }

  at_current : {A : Type 0} (f : ℕ → A) (k : ℕ) (os : List ℕ) (x : A) → ((c : ℕ) (cs : List ℕ) → os ≡ c ∷ cs → k ≡ c → x ≡ f k) → cond (is_current k os) x (f k) ≡ f k
  at_current f k [] x h = refl
  at_current f k (c ∷ cs) x h = either (λ z. z ≡ f k) (k == c) _ _ (λ e. h c cs refl (eqb-true k c e)) (λ _. refl)

  pub still-same : with_turn net root i still ≡ net
  still-same = same_net _ _ _ _ _ _
      (fun_ext (λ k. either (λ n. n ≡ net.node k) (k == i) _ _ (λ e. ap net.node (sym (eqb-true k i e))) (λ _. refl)))
      (fun_ext (λ k. either (λ n. n ≡ net.edge k) (k == i) _ _ (λ e. ap net.edge (sym (eqb-true k i e)))
      (λ _. at_current net.edge k (open_ins (net.node i)) (current_edge net.edge (open_ins (net.node i))) (λ c cs o e. ap (current_edge net.edge) o ∙ ap net.edge (sym e)))))
      (fun_ext (λ k. either (λ n. n ≡ net.numbers k) (k == i) _ _ (λ e. above-idle (i == root) t idle (net.numbers k) (net.node i).sent)
      (λ _. at_current net.numbers k (open_ins (net.node i)) (numbers_left t (net.numbers k)) (λ c cs o e. left-idle t idle (net.numbers k)))))
