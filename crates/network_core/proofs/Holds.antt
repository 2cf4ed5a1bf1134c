-- What a turn's parts hold, put together.
use Rattle.std.proofs.Common.{◌≡◌, ℕ, true, List, [], ◌∷◌, ◌++◌, Option, Some, None, refl, ap, subst, sym, ◌∙◌}
use Rattle.std.specs.Prelude.{is_some}
use Rattle.std.proofs.lemmas.List.{append-nil, append_assoc}
use Rattle.cloud_points.specs.declared.point.Point.{Point}
use Rattle.cloud_points.specs.declared.faults.StageFault.{StageFault}
use Rattle.cloud_points.specs.declared.work.Work.{Ghosts}
use Rattle.cloud_points.specs.Marks.{Item}
use Rattle.network_theory.specs.Net as net
use Rattle.network_theory.specs.History.{points_taken}
use Rattle.network_core.specs.declared.node.Node.{Node}
use Rattle.network_core.specs.declared.turned.Turned.{Turned}
use Rattle.network_core.specs.declared.turned.Turned.TheVariants.{Took, Gave, Made, Idle, Done}
use Rattle.network_core.specs.Shown.{turned}
use Rattle.network_core.specs.Holding.{KeepsHolding, HoldsBesides, HoldsMore}

-- a turn that left the input as it was took nothing
took-none : (t : Turned) → ((ns : List ℕ) → net.numbers_left (turned t) ns ≡ ns) → (is : List (Item Point)) → points_taken (turned t) is ≡ []
took-none Took h is = absurd (let e : [] ≡ 0 ∷ [] = h (0 ∷ []) in cc)
took-none Gave h is = refl
took-none Made h is = refl
took-none (Idle w) h is = refl
took-none Done h is = refl

-- a work that holds what it held, of a node that took these points
pub holds-none : {W S : Type 0} (g : Ghosts W S) (f h : Option StageFault) (w : W) (before taken : List Point) → (h ≡ None → taken ≡ []) → g.holds w before ≡ true → HoldsBesides g f h w before taken
holds-none g f h w before taken none held = record {
  part = [];
  rest = taken;
  whole = refl;
  all = none;
  still = λ _. refl;
  holds = subst (λ ps. g.holds w ps ≡ true) (sym (append-nil before)) held;
}

-- where it has no fault, that is all that it took
pub whole-of : {W S : Type 0} (g : Ghosts W S) (f h : Option StageFault) (w : W) (taken : List Point) (held : HoldsBesides g f h w [] taken) → h ≡ None → held.part ≡ taken
whole-of g f h w taken held sound = sym (held.whole ∙ ap (λ xs. held.part ++ xs) (held.all sound) ∙ append-nil held.part)

module _ {W S : Type 0} (g : Ghosts W S) (old new : Node W) where
  pub keeps-nothing : KeepsHolding g old new → HoldsMore g old new []
  keeps-nothing k none before h = holds-none g old.fault new.fault new.work before [] (λ _. refl) (k before h)

  -- the node stays
  pub holds-still : old ≡ new → (before : List Point) → g.holds old.work before ≡ true → HoldsBesides g old.fault new.fault new.work before []
  holds-still e before h = holds-none g old.fault new.fault new.work before [] (λ _. refl) (subst (λ (z : Node W). g.holds z.work before ≡ true) e h)

  -- the turn took nothing
  pub keeps-unread : (t : Turned) → ((ns : List ℕ) → net.numbers_left (turned t) ns ≡ ns) → (is : List (Item Point)) → KeepsHolding g old new → HoldsMore g old new (points_taken (turned t) is)
  keeps-unread t left is k = subst (HoldsMore g old new) (sym (took-none t left is)) (keeps-nothing k)

first-stays : (f h : Option StageFault) → (is_some f ≡ true → h ≡ f) → h ≡ None → f ≡ None
first-stays None h stays e = refl
first-stays (Some x) h stays e = absurd (let q : None ≡ Some x = sym e ∙ stays refl in cc)

-- what came later comes behind what came first; a node keeps its fault
pub holds-both : {W S : Type 0} (g : Ghosts W S) (f h i : Option StageFault) (v w : W) → (is_some f ≡ true → h ≡ f) → (is_some h ≡ true → i ≡ h) → (before first second : List Point) (a : HoldsBesides g f h v before first)
    → HoldsBesides g h i w (before ++ a.part) second → HoldsBesides g f i w before (first ++ second)
holds-both g f None i v w stays later before first second a b = record {
  part = a.part ++ b.part;
  rest = b.rest;
  whole = ap (λ xs. xs ++ second) (a.whole ∙ ap (λ xs. a.part ++ xs) (a.all refl) ∙ append-nil a.part) ∙ ap (λ xs. a.part ++ xs) b.whole ∙ sym (append_assoc a.part b.part b.rest);
  all = b.all;
  still = λ ne. absurd (ne (first-stays f None stays refl));
  holds = subst (λ ps. g.holds w ps ≡ true) (append_assoc before a.part b.part) b.holds;
}
holds-both g f (Some x) i v w stays later before first second a b = record {
  part = a.part;
  rest = a.rest ++ second;
  whole = ap (λ xs. xs ++ second) a.whole ∙ append_assoc a.part a.rest second;
  all = λ sound. absurd (let q : None ≡ Some x = sym sound ∙ later refl in cc);
  still = a.still;
  holds = subst (λ ps. g.holds w ps ≡ true) (ap (λ xs. (before ++ a.part) ++ xs) (b.still (λ n. cc)) ∙ append-nil (before ++ a.part)) b.holds;
}
