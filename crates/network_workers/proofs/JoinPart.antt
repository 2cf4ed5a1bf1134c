-- What all nodes carried up to some time, joined over the tree: each has taken a first part of what its inputs bring in all.
use Rattle.std.proofs.Common.{◌≡◌, ℕ, zero, suc, ◌+◌, ◌-◌, ◌<◌, List, [], ◌∷◌, ◌++◌, length, Option, Some, None, refl, ap, sym, subst, ◌∙◌, append_assoc, arith, drop}
use Rattle.std.specs.Prelude.{slice_get}
use Rattle.cloud_points.specs.Marks.{Mark, to_end, all_marks}
use Rattle.network_theory.specs.Net.{Net, Node, remains, last_of, inputs_of, flow, rest, open_ins}
use Rattle.network_theory.specs.Shape.{Each, IsTree, ins_of}
use Rattle.network_theory.specs.Carried.{Carried, from_input, rest_of, joined}
use Rattle.network_theory.specs.History.{brings}

-- a net that opens, its nodes later, what each gave, what it took of each input and what was left there
pub record Begun {S P F : Type 0} (net : Net S P F) (new : ℕ → Node S P F) (gave : ℕ → List (Mark P)) (took left : ℕ → ℕ → List (Mark P)) : Type 0 where
  pub empty : (k : ℕ) → net.edge k ≡ []
  pub fresh : (k : ℕ) → ((net.node k).machine.ended ≡ 0) × ((net.node k).machine.inputs ≡ length (net.node k).ins)
  pub carried : (k : ℕ) → Carried (net.node k) (new k) (took k) (gave k)
  pub part : (k input child : ℕ) → slice_get (net.node k).ins input ≡ Some child → took k input ++ left k input ≡ gave child

-- the flows of these children, input by input
brought-by : {P : Type 0} (f : ℕ → List (Mark P)) (at : ℕ) (b : ℕ → List (Mark P)) (cs : List ℕ) → ((input child : ℕ) → slice_get cs input ≡ Some child → f (at + input) ≡ b child)
    → from_input f at (length cs) ≡ inputs_of b cs
brought-by f at b [] h = refl
brought-by f at b (c ∷ cs) h =
    ap (λ x. to_end x ++ from_input f (at + 1) (length cs)) (ap f (omega arith) ∙ h 0 c refl)
    ∙ ap (λ x. to_end (b c) ++ x) (brought-by f (at + 1) b cs (λ input child e. ap f (omega arith) ∙ h (suc input) child e))

one_child : {a b : ℕ} → Some a ≡ Some b → a ≡ b
one_child e = cc

pub child-in : (P : ℕ → Type 0) (cs : List ℕ) → Each P cs → (input child : ℕ) → slice_get cs input ≡ Some child → P child
child-in P [] h input child e = cc
child-in P (c ∷ cs) h zero child e = subst P (one_child e) h.0
child-in P (c ∷ cs) h (suc input) child e = child-in P cs h.1 input child e

module _ {S P F : Type 0} (net : Net S P F) (new : ℕ → Node S P F) (gave : ℕ → List (Mark P)) (took left : ℕ → ℕ → List (Mark P)) (root : ℕ) (tree : IsTree (ins_of net) root) (b : Begun net new gave took left) where
  -- what an input still brings beyond what was taken, where its child still gives this
  abbrev pub more_at : (ℕ → List (Mark P)) → ℕ → ℕ → Option ℕ → List (Mark P)
  more_at more k input None = []
  more_at more k input (Some child) = left k input ++ more child

  abbrev pub beyond : (ℕ → List (Mark P)) → ℕ → ℕ → List (Mark P)
  beyond more k input = more_at more k input (slice_get (net.node k).ins input)

  -- what a node still gives, counted down over the depth of the tree
  abbrev pub still : ℕ → ℕ → List (Mark P)
  still zero k = []
  still (suc d) k = remains (new k) (rest_of (new k) (beyond (still d) k))

  open-all : (k : ℕ) → open_ins (net.node k) ≡ (net.node k).ins
  open-all k = ap (λ x. drop x (net.node k).ins) (b.fresh k).0

  below : (k input child : ℕ) → slice_get (net.node k).ins input ≡ Some child → child < k
  below k input child e = child-in (λ j. j < k) (net.node k).ins (tree.below k) input child e

  -- with what is beyond, a node takes all that its children give
  tape : (d k : ℕ) → ((child : ℕ) → child < k → flow net d child ≡ gave child ++ still d child)
      → rest_of (net.node k) (joined (took k) (beyond (still d) k)) ≡ inputs_of (flow net d) (open_ins (net.node k))
  tape d k ih =
      let f = joined (took k) (beyond (still d) k) in
      ap (λ x. from_input f x ((net.node k).machine.inputs - x)) (b.fresh k).0
      ∙ ap (from_input f 0) {x = (net.node k).machine.inputs - 0} {y = length (net.node k).ins} (omega (arith, (b.fresh k).1))
      ∙ brought-by f 0 (flow net d) (net.node k).ins (λ input child e.
      ap f {x = 0 + input} {y = input} (omega arith) ∙ ap (λ o. took k input ++ more_at (still d) k input o) e
      ∙ sym (append_assoc (took k input) (left k input) (still d child)) ∙ ap (λ x. x ++ still d child) (b.part k input child e)
      ∙ sym (ih child (below k input child e)))
      ∙ ap (inputs_of (flow net d)) (sym (open-all k))

  given-flow : (d k : ℕ) → k < d → flow net d k ≡ gave k ++ still d k
  given-flow zero k h = absurd (omega (arith, h))
  given-flow (suc d) k h =
      ap (λ x. all_marks x ++ remains (net.node k) (inputs_of (flow net d) (open_ins (net.node k)))) (b.empty k)
      ∙ ap (remains (net.node k)) (sym (tape d k (λ child l. given-flow d child (omega (arith, l, h)))))
      ∙ (b.carried k).flow (beyond (still d) k)

  -- so each node reads what its inputs bring in the opening net, and ends, by what is still to come, as the opening net's does
  pub brought-all : (k : ℕ) → rest_of (net.node k) (joined (took k) (beyond (still k) k)) ≡ brings net k
  brought-all k = tape k k (λ child l. given-flow k child l)

  pub ends-alike : (k : ℕ) → last_of (new k) (rest_of (new k) (beyond (still k) k)) ≡ rest net k
  ends-alike k =
      sym ((b.carried k).last (beyond (still k) k)) ∙ ap (last_of (net.node k)) (brought-all k)
