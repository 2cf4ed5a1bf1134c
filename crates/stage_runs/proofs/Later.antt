-- Nodes later.
use Rattle.std.proofs.Common.{◌≡◌, ◌⊎◌, ℕ, zero, suc, ◌≤◌, ◌<◌, ◌+◌, ◌++◌, ◌∷◌, [], Bool, true, false, not, true≢false, List, length, Option, Some, None, is_some, slice_get, slice_set, length-set, refl, ap, sym, subst, ◌∙◌, inl, inr, arith}
use Rattle.std.proofs.lemmas.Bool.Decides.{eqb_tells}
use Rattle.circular_buffer.proofs.Places.{slice_get-set_same, slice_get-set_other}
use Rattle.std.proofs.lemmas.Option.{none-some, same_Some, slice_get_within}
use Rattle.file_devices.specs.Counts.{Rose}
use Rattle.file_devices.specs.declared.devices.Source as source
use Rattle.file_devices.specs.declared.devices.Sink as sink
use Rattle.file_devices.specs.declared.devices.Op.{Op}
use Rattle.cloud_points.specs.Events.{is_device, IsOf}
use Rattle.cloud_points.specs.declared.faults.StageFault.{StageFault}
use Rattle.cloud_points.specs.declared.faults.StageFault.TheVariants as stage
use Rattle.network_theory.specs.Forest.{IsForest, children}
use Rattle.network_theory.specs.Shape.{Each}
use Rattle.network_theory.specs.Opening.{IsFresh}
use Rattle.network_core.specs.declared.node.Node.{Node}
use Rattle.network_core.specs.Shown.{shown}
use Rattle.network_core.proofs.Opened.{some_at}
use Rattle.network_core.specs.Calm.{Calm}
use Rattle.network_core.specs.declared.stop.Stop.{Stop}
use Rattle.network_core.specs.declared.stop.Stop.TheVariants.{Last, First}
use Rattle.network_solo.specs.Stopping.{CameToEnd, IsStoppedTree}
use Rattle.network_solo.specs.Trees.{IsRanTree}
use Rattle.stage_kinds.specs.declared.stage_work.StageWork.{StageWork}
use Rattle.stage_kinds.specs.declared.stage_work.StageWork.TheVariants.{Reader, Filter, Plug, Tally, Collector, Views, ViewFiles, Writer}
use Rattle.stage_kinds.specs.declared.held.Held.{Held}
use Rattle.stage_kinds.specs.declared.held.Held.TheVariants as held
use Rattle.stage_kinds.specs.declared.held.Held.TheVariants.{Nothing}
use Rattle.stage_kinds.specs.Held.{held_by, op_on, op_of, faults_on, faults_of, filter_on, tally_on}
use Rattle.stage_kinds.specs.Stages.{is_leaf, meaning_of}
use Rattle.stage_kinds.proofs.Natures.{same-held}
use Rattle.stage_runs.specs.Works.{as_works}
use Rattle.cloud_points.specs.Flows.{empty_flow}
use Rattle.stage_runs.specs.Parts.{IsLaterNode, AreLaterNodes, AreSameOrLater, AreStandIns, IsNewLeaf, Gives}
use Rattle.plug_stages.specs.declared.filter.PlugFilter as plug_type
use Rattle.plug_stages.specs.declared.tally.PlugTally as tally_type

-- ---- lists

pub last-of : {A : Type 0} (xs : List A) (x : A) → slice_get (xs ++ x ∷ []) (length xs) ≡ Some x
last-of [] x = refl
last-of (y ∷ xs) x = last-of xs x

pub first-of : {A : Type 0} (xs ys : List A) (i : ℕ) (x : A) → slice_get xs i ≡ Some x → slice_get (xs ++ ys) i ≡ Some x
first-of [] ys i x e = absurd (none-some x e)
first-of (y ∷ xs) ys zero x e = e
first-of (y ∷ xs) ys (suc i) x e = first-of xs ys i x e

pub at-push : {A : Type 0} (xs : List A) (x y : A) (i : ℕ) → slice_get (xs ++ x ∷ []) i ≡ Some y → (slice_get xs i ≡ Some y) ⊎ (y ≡ x)
at-push [] x y zero e = inr (sym (same_Some x y e))
at-push [] x y (suc i) e = absurd (none-some y e)
at-push (z ∷ xs) x y zero e = inl e
at-push (z ∷ xs) x y (suc i) e = at-push xs x y i e

pub length-push : {A : Type 0} (xs : List A) (x : A) → length (xs ++ x ∷ []) ≡ length xs + 1
length-push [] x = refl
length-push (y ∷ xs) x = let r = length-push xs x in omega (arith, r)

pub only-one : {A : Type 0} (xs ys : List A) (x : A) → ys ≡ xs ++ x ∷ [] → length ys ≡ 1 → ys ≡ x ∷ []
only-one [] ys x e one = e
only-one (y ∷ xs) ys x e one = absurd (let a = length-push xs x in let b = ap length e in omega (arith, a, b, one))

-- a node alone
pub alone-forest : IsForest ([] ∷ []) 0
alone-forest = record { nodes = refl; below = below; once = λ k l. absurd (omega (arith, l)) }
  where
    below : (k : ℕ) → Each (λ j. j < k) (children ([] ∷ []) k)
    below zero = tt
    below (suc k) = tt

pub not-short : (b : Bool) → not b ≡ true → b ≡ false
not-short true e = absurd (true≢false (sym e))
not-short false e = refl

unnamed : (f : Option StageFault) → IsOf None f → is_device f ≡ false
unnamed None h = refl
unnamed (Some (stage.Point p)) h = refl
unnamed (Some (stage.Device o)) h = absurd (none-some o h)

rose-back : (a b c : ℕ) → a ≤ b → Rose b c → Rose a c
rose-back a b c l r = omega (arith, l, r)

module _ {S K P Q : Type 0} (s : source.Ghosts S) (k : sink.Ghosts K) (fs : plug_type.Ghosts P) (ts : tally_type.Ghosts Q) where
  -- a node without a fault is later than itself
  pub itself : (n : Node (StageWork S K P Q)) → n.fault ≡ None → IsLaterNode s k fs ts n n
  itself n none = record {
    op = refl;
    faults = omega arith;
    cause = λ d. absurd (true≢false (sym d ∙ ap is_device none));
    kept = λ d. refl;
    stays = λ o d. d;
    named = subst (IsOf (op_of n.work)) (sym none) tt;
    holds = (refl, refl);
  }

  pub later-on : (n m l : Node (StageWork S K P Q)) → IsLaterNode s k fs ts n m → IsLaterNode s k fs ts m l → IsLaterNode s k fs ts n l
  later-on n m l first second = record {
    op = second.op ∙ first.op;
    faults = (let a = first.faults in let b = second.faults in omega (arith, a, b));
    cause = λ d. rose-back (faults_of s.faults k.faults n.work) (faults_of s.faults k.faults m.work) (faults_of s.faults k.faults l.work) first.faults (second.cause d);
    kept = λ d. second.kept d ∙ first.kept (between (is_device m.fault) refl (op_of n.work) refl d);
    stays = λ o d. second.stays (ap is_some first.op ∙ o) (first.stays o d);
    named = subst (λ o. IsOf o l.fault) first.op second.named;
    holds = (second.holds.0 ∙ first.holds.0, second.holds.1 ∙ first.holds.1);
  }
    where
      -- a device's fault would have stayed, and a node without a device has none
      between : (b : Bool) → is_device m.fault ≡ b → (o : Option Op) → op_of n.work ≡ o → is_device l.fault ≡ false → is_device m.fault ≡ false
      between false e o f d = e
      between true e (Some o) f d = absurd (true≢false (sym (second.stays (ap is_some (first.op ∙ f)) e) ∙ d))
      between true e None f d = unnamed m.fault (subst (λ x. IsOf x m.fault) f first.named)

  -- nodes that took turns, wherever these ended: each keeps what its work does, and a device's fault has its cause
  pub record AreTurnedNodes (nodes ended : List (Node (StageWork S K P Q))) : Type 0 where
    pub count : length ended ≡ length nodes
    pub work : (i : ℕ) (n m : Node (StageWork S K P Q)) → slice_get nodes i ≡ Some n → slice_get ended i ≡ Some m → meaning_of fs ts m.work ≡ meaning_of fs ts n.work
    pub calm : (i : ℕ) (n m : Node (StageWork S K P Q)) → slice_get nodes i ≡ Some n → slice_get ended i ≡ Some m → Calm (as_works s k fs ts) n m

  pub ran-turned : (ins : List (List ℕ)) (nodes ended : List (Node (StageWork S K P Q))) → IsRanTree (as_works s k fs ts) ins nodes ended → AreTurnedNodes nodes ended
  ran-turned ins nodes ended ran = record { count = ran.count; work = ran.work; calm = ran.calm }

  pub stopped-turned : (ins : List (List ℕ)) (nodes ended : List (Node (StageWork S K P Q))) → IsStoppedTree (as_works s k fs ts) ins nodes ended → AreTurnedNodes nodes ended
  stopped-turned ins nodes ended stopped = record { count = stopped.count; work = stopped.work; calm = stopped.calm }

  -- so it is wherever a scheduler ends turns
  pub any-turned : (ins : List (List ℕ)) (nodes ended : List (Node (StageWork S K P Q))) (stop : Stop) → (CameToEnd (as_works s k fs ts) stop ended → IsRanTree (as_works s k fs ts) ins nodes ended)
      → (stop ≡ First → IsStoppedTree (as_works s k fs ts) ins nodes ended) → AreTurnedNodes nodes ended
  any-turned ins nodes ended Last ran stopped = ran-turned ins nodes ended (ran tt)
  any-turned ins nodes ended First ran stopped = stopped-turned ins nodes ended (stopped refl)

  -- they are later
  pub ran-later : (ins : List (List ℕ)) (nodes ended : List (Node (StageWork S K P Q))) → ((i : ℕ) (n : Node (StageWork S K P Q)) → slice_get nodes i ≡ Some n → IsFresh (shown (as_works s k fs ts) (children ins i) n))
      → AreTurnedNodes nodes ended → AreLaterNodes s k fs ts nodes ended
  ran-later ins nodes ended fresh ran = record {
    count = ran.count;
    each = λ i n m e f.
        let calm = ran.calm i n m e f in
        let none : is_some n.fault ≡ false = ap is_some (fresh i n e).fault in
        record {
          op = calm.op;
          faults = calm.faults;
          cause = calm.cause none;
          kept = calm.kept (λ l u h. (fresh i n e).fault);
          stays = λ o d. absurd (true≢false (sym d ∙ ap is_device (fresh i n e).fault));
          named = calm.named none;
          holds = same-held fs ts n.work m.work (ran.work i n m e f);
        };
  }

  pub same-later : (ins : List (List ℕ)) (nodes : List (Node (StageWork S K P Q))) → ((i : ℕ) (n : Node (StageWork S K P Q)) → slice_get nodes i ≡ Some n → IsFresh (shown (as_works s k fs ts) (children ins i) n)) → AreLaterNodes s k fs ts nodes nodes
  same-later ins nodes fresh = record {
    count = refl;
    each = λ i n m e f. subst (IsLaterNode s k fs ts n) (same_Some n m (sym e ∙ f)) (itself n (fresh i n e).fault);
  }

  -- one step more
  pub step-later : (old now next : List (Node (StageWork S K P Q))) → AreLaterNodes s k fs ts old now → AreSameOrLater s k fs ts now next → AreLaterNodes s k fs ts old next
  step-later old now next first second = record {
    count = second.count ∙ first.count;
    each = λ i n l e f.
        let m = some_at now i (let a = slice_get_within next i l f in let b = second.count in omega (arith, a, b)) in
        let was = first.each i n m.0 e m.1 in
        elim (second.each i m.0 l m.1 f) [
          | inl same ↦ subst (IsLaterNode s k fs ts n) (sym same) was
          | inr x ↦ later-on n m.0 l was x
        ];
  }

  -- two steps are one
  pub steps-later : (old now next : List (Node (StageWork S K P Q))) → AreSameOrLater s k fs ts old now → AreSameOrLater s k fs ts now next → AreSameOrLater s k fs ts old next
  steps-later old now next first second = record {
    count = second.count ∙ first.count;
    each = λ i n l e f.
        let m = some_at now i (let a = slice_get_within next i l f in let b = second.count in omega (arith, a, b)) in
        elim (second.each i m.0 l m.1 f) [
          | inl same ↦ elim (first.each i n m.0 e m.1) [ inl was ↦ inl (same ∙ was) | inr x ↦ inr (subst (IsLaterNode s k fs ts n) (sym same) x) ]
          | inr y ↦ elim (first.each i n m.0 e m.1) [ inl was ↦ inr (subst (λ x. IsLaterNode s k fs ts x l) was y) | inr x ↦ inr (later-on n m.0 l x y) ]
        ];
  }

  -- one leaf more that gives nothing
  pub one-stands-in : (size : ℕ) (nodes : List (Node (StageWork S K P Q))) (n : Node (StageWork S K P Q)) → AreStandIns s k fs ts size nodes → IsNewLeaf s k fs ts n → Gives s k fs ts empty_flow None n → AreStandIns s k fs ts (size + 1) (nodes ++ n ∷ [])
  one-stands-in size nodes n are leaf gives = record {
    count = length-push nodes n ∙ ap (λ z. z + 1) are.count;
    each = λ i m e. elim (at-push nodes n m i e) [ inl f ↦ are.each i m f | inr same ↦ (subst (IsNewLeaf s k fs ts) (sym same) leaf, subst (Gives s k fs ts empty_flow None) (sym same) gives) ];
  }

  pub none-stand-in : (nodes : List (Node (StageWork S K P Q))) → nodes ≡ [] → AreStandIns s k fs ts 0 nodes
  none-stand-in nodes e = record {
    count = ap length e;
    each = λ i n f. absurd (none-some n (sym (ap (λ ns. slice_get ns i) e) ∙ f));
  }

  -- a node is exchanged for a later one
  pub set-later : (nodes : List (Node (StageWork S K P Q))) (at : ℕ) (was is : Node (StageWork S K P Q)) → slice_get nodes at ≡ Some was → IsLaterNode s k fs ts was is → AreSameOrLater s k fs ts nodes (slice_set nodes at is)
  set-later nodes at was is e later = record {
    count = length-set nodes at is;
    each = λ i n m f g. elim (eqb_tells i at) [
      | inl p ↦ (
          let old : was ≡ n = same_Some was n (sym e ∙ ap (slice_get nodes) (sym p.1) ∙ f) in
          let new : is ≡ m = same_Some is m (sym (slice_get-set_same nodes at is (slice_get_within nodes at was e)) ∙ ap (slice_get (slice_set nodes at is)) (sym p.1) ∙ g) in
          inr (subst (λ x. IsLaterNode s k fs ts x m) old (subst (IsLaterNode s k fs ts was) new later)))
      | inr p ↦ inl (same_Some m n (sym g ∙ slice_get-set_other nodes at i is p.1 ∙ f))
    ];
  }

  -- a work that holds nothing in the place of another
  pub leaf-later : (was is : Node (StageWork S K P Q)) → held_by was.work ≡ Nothing → held_by is.work ≡ Nothing → is.fault ≡ None → IsLaterNode s k fs ts was is
  leaf-later was is before now sound = let same : held_by is.work ≡ held_by was.work = now ∙ sym before in record {
    op = ap op_on same;
    faults = (let z = ap (faults_on s.faults k.faults) same in omega (arith, z));
    cause = λ d. absurd (true≢false (sym d ∙ ap is_device sound));
    kept = λ d. ap (faults_on s.faults k.faults) same;
    stays = λ o d. absurd (true≢false (sym o ∙ ap (λ h. is_some (op_on h)) before));
    named = subst (IsOf (op_of was.work)) (sym sound) tt;
    holds = (ap (filter_on fs) same, ap (tally_on ts) same);
  }

  -- a leaf without a device holds nothing
  pub leaf-empty : (n : Node (StageWork S K P Q)) → IsNewLeaf s k fs ts n → held_by n.work ≡ Nothing
  leaf-empty n leaf = go n.work leaf.leaf leaf.op
    where
      go : (w : StageWork S K P Q) → is_leaf w ≡ true → op_of w ≡ None → held_by w ≡ Nothing
      go (Reader r) l e = absurd (none-some _ (sym e))
      go (Filter f) l e = refl
      go (Plug v) l e = absurd (true≢false (sym l))
      go (Tally v) l e = absurd (true≢false (sym l))
      go (Collector c) l e = refl
      go (Views h) l e = refl
      go (ViewFiles t) l e = refl
      go (Writer v) l e = absurd (true≢false (sym l))

  -- what stands in the place of such a leaf later holds nothing either
  pub later-empty : (n m : Node (StageWork S K P Q)) → IsLaterNode s k fs ts n m → held_by n.work ≡ Nothing → held_by m.work ≡ Nothing
  later-empty n m later empty = go (held_by m.work) (later.op ∙ ap op_on empty) (later.holds.0 ∙ ap (filter_on fs) empty) (later.holds.1 ∙ ap (tally_on ts) empty)
    where
      go : (h : Held S K P Q) → op_on h ≡ None → filter_on fs h ≡ None → tally_on ts h ≡ None → h ≡ Nothing
      go (held.Source x) op filter tally = absurd (none-some _ (sym op))
      go (held.Sink x) op filter tally = absurd (none-some _ (sym op))
      go (held.Filter p at) op filter tally = absurd (none-some _ (sym filter))
      go (held.Tally q at) op filter tally = absurd (none-some _ (sym tally))
      go held.Nothing op filter tally = refl

  pub alone-fresh : (node : Node (StageWork S K P Q)) → IsNewLeaf s k fs ts node → (i : ℕ) (n : Node (StageWork S K P Q)) → slice_get (node ∷ []) i ≡ Some n → IsFresh (shown (as_works s k fs ts) (children ([] ∷ []) i) n)
  alone-fresh node leaf zero n e = subst (λ x. IsFresh (shown (as_works s k fs ts) [] x)) (same_Some node n e) leaf.fresh
  alone-fresh node leaf (suc i) n e = absurd (none-some n e)
