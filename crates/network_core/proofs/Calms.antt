-- What holds of a node through several turns.
use Rattle.std.proofs.Common.{◌≡◌, ℕ, ◌≤◌, Bool, true, false, Option, Some, None, is_some, refl, ap, subst, sym, ◌∙◌, arith, true≢false}
use Rattle.std.specs.Prelude.{◌||◌}
use Rattle.cloud_points.specs.declared.faults.StageFault.{StageFault}
use Rattle.cloud_points.specs.declared.work.Work.{Ghosts}
use Rattle.cloud_points.specs.Events.{is_device, ran_short, IsOf}
use Rattle.cloud_points.specs.Marks.{is_end}
use Rattle.file_devices.specs.Counts.{Rose}
use Rattle.file_devices.specs.declared.devices.Op.{Op}
use Rattle.network_core.specs.declared.node.Node.{Node}
use Rattle.chunk_queue.specs.declared.tag.ItemKind.{ItemKind}
use Rattle.network_theory.specs.Net.{holds_end}
use Rattle.network_core.specs.Hands.{kind_item, seen_hand}
use Rattle.network_theory.specs.Flight.{hand_points}
use Rattle.network_core.specs.Calm.{Calm, IsClean, NoEvent, Told}

no_device : {A : Type 0} (f : Option StageFault) → is_some f ≡ false → is_device f ≡ true → A
no_device None h d = absurd (true≢false (sym d))
no_device (Some f) h d = absurd (true≢false h)

unnamed : (op : Option Op) (f : Option StageFault) → is_some f ≡ false → IsOf op f
unnamed op None h = tt
unnamed op (Some f) h = absurd (true≢false h)

pub calm-self : {W S : Type 0} (g : Ghosts W S) (n : Node W) → Calm g n n
calm-self g n = record {
  faults = omega arith;
  short = λ h. h;
  leaf = refl;
  op = refl;
  inputs = refl;
  stays = λ h. refl;
  cause = λ f d. no_device n.fault f d;
  named = unnamed (g.op n.work) n.fault;
  chunk = refl;
  extent = λ e. refl;
  spare = λ h. h;
  clean = λ h. h;
  kept = λ h d. refl;
}

-- counts that rose over a part rose over the whole
rose-first : (a b c : ℕ) → Rose a b → b ≤ c → Rose a c
rose-first a b c h l = omega arith

rose-second : (a b c : ℕ) → a ≤ b → Rose b c → Rose a c
rose-second a b c l h = omega arith

short-first : (a b c : Bool) → (b ≡ true → c ≡ true) → ran_short a c ≡ false → ran_short a b ≡ false
short-first true b c h r = refl
short-first false true c h r = sym (h refl) ∙ r
short-first false false c h r = refl

short-second : (a b c : Bool) → (a ≡ true → b ≡ true) → ran_short a c ≡ false → ran_short b c ≡ false
short-second a true c h r = refl
short-second true false c h r = absurd (true≢false (sym (h refl)))
short-second false false c h r = r

none-of-device : (f : Option StageFault) → is_some f ≡ false → is_device f ≡ false
none-of-device None e = refl
none-of-device (Some f) e = absurd (true≢false e)

pub none-first : {W S : Type 0} (g : Ghosts W S) (l m n : Node W) → Calm g m n → NoEvent g l n → NoEvent g l m
none-first g l m n c h = record {
  fault = by_fault (is_some m.fault) refl;
  short = short-first (g.short l.work) (g.short m.work) (g.short n.work) c.short h.short;
}
  where
    by_fault : (b : Bool) → is_some m.fault ≡ b → is_device m.fault ≡ false
    by_fault true e = sym (ap is_device (c.stays e)) ∙ h.fault
    by_fault false e = none-of-device m.fault e

pub none-second : {W S : Type 0} (g : Ghosts W S) (l m n : Node W) → Calm g l m → NoEvent g l n → NoEvent g m n
none-second g l m n c h = record {
  fault = h.fault;
  short = short-second (g.short l.work) (g.short m.work) (g.short n.work) c.short h.short;
}

pub calm-on : {W S : Type 0} (g : Ghosts W S) (l m n : Node W) → Calm g l m → Calm g m n → Calm g l n
calm-on g l m n a b = record {
  faults = let x = a.faults in let y = b.faults in omega arith;
  short = λ h. b.short (a.short h);
  leaf = b.leaf ∙ a.leaf;
  op = b.op ∙ a.op;
  inputs = b.inputs ∙ a.inputs;
  stays = λ h. b.stays (ap is_some (a.stays h) ∙ h) ∙ a.stays h;
  cause = λ f d. by_fault (is_some m.fault) refl f d;
  named = λ f. named_by (is_some m.fault) refl f;
  chunk = b.chunk ∙ a.chunk;
  extent = λ e. b.extent (a.leaf ∙ e) ∙ a.extent e;
  spare = λ h. b.spare (a.spare h);
  clean = λ h. b.clean (a.clean h);
  kept = λ h d. b.kept (a.clean h) d ∙ a.kept h (between (is_some m.fault) refl d);
}
  where
    by_fault : (x : Bool) → is_some m.fault ≡ x → is_some l.fault ≡ false → is_device n.fault ≡ true → Rose (g.faults l.work) (g.faults n.work)
    by_fault true e f d = rose-first (g.faults l.work) (g.faults m.work) (g.faults n.work) (a.cause f (sym (ap is_device (b.stays e)) ∙ d)) b.faults
    by_fault false e f d = rose-second (g.faults l.work) (g.faults m.work) (g.faults n.work) a.faults (b.cause e d)

    between : (x : Bool) → is_some m.fault ≡ x → is_device n.fault ≡ false → is_device m.fault ≡ false
    between true e d = sym (ap is_device (b.stays e)) ∙ d
    between false e d = none-of-device m.fault e

    named_by : (x : Bool) → is_some m.fault ≡ x → is_some l.fault ≡ false → IsOf (g.op l.work) n.fault
    named_by true e f = subst (IsOf (g.op l.work)) (sym (b.stays e)) (a.named f)
    named_by false e f = subst (λ o. IsOf o n.fault) a.op (b.named e)

or_none : (a b : Bool) → (a || b) ≡ false → (a ≡ false) × (b ≡ false)
or_none true b h = cc
or_none false b h = (refl, h)

-- a leaf that gave what was in its hand goes on to tell what it still gives
pub told_given : {W S : Type 0} (g : Ghosts W S) (old new : Node W) (kind : ItemKind) → old.hand ≡ Some kind → new.work ≡ old.work → new.fault ≡ old.fault
    → new.done ≡ (old.done || is_end (kind_item kind old.spread.items)) → Told g old → Told g new
told_given g old new kind hand work fault done told = λ leaf undone none.
    let both = or_none old.done (is_end (kind_item kind old.spread.items)) (sym done ∙ undone) in
    let before = told (ap g.leaf (sym work) ∙ leaf) both.0 (ap (λ h. holds_end (seen_hand h old.spread.items)) hand ∙ both.1) in
    (ap g.tells work ∙ before.0, fault ∙ before.1)

-- and so it has no fault before
clean_given : {W S : Type 0} (g : Ghosts W S) (old new : Node W) (kind : ItemKind) → old.hand ≡ Some kind → new.work ≡ old.work → new.fault ≡ old.fault
    → new.done ≡ (old.done || is_end (kind_item kind old.spread.items)) → IsClean g old → IsClean g new
clean_given g old new kind hand work fault done clean = λ leaf undone none.
    let both = or_none old.done (is_end (kind_item kind old.spread.items)) (sym done ∙ undone) in
    fault ∙ clean (ap g.leaf (sym work) ∙ leaf) both.0 (ap (λ h. holds_end (seen_hand h old.spread.items)) hand ∙ both.1)

-- a node that gave what was in its hand, and else is as it was
pub calm-given : {W S : Type 0} (g : Ghosts W S) (old new : Node W) (kind : ItemKind) → old.hand ≡ Some kind → new.hand ≡ None → new.work ≡ old.work → new.fault ≡ old.fault
    → new.inputs ≡ old.inputs → new.chunk ≡ old.chunk → new.done ≡ (old.done || is_end (kind_item kind old.spread.items)) → Calm g old new
calm-given g old new kind hand empty work fault inputs chunk done = record {
  faults = let same = ap g.faults work in omega (arith, same);
  short = λ h. ap g.short work ∙ h;
  leaf = ap g.leaf work;
  op = ap g.op work;
  inputs = inputs;
  stays = λ h. fault;
  cause = λ f d. no_device new.fault (ap is_some fault ∙ f) d;
  named = λ f. unnamed (g.op old.work) new.fault (ap is_some fault ∙ f);
  chunk = chunk;
  extent = λ e. ap g.extent work;
  spare = λ h leaf.
      let before = h (ap g.leaf (sym work) ∙ leaf) in
      let none = ap (λ x. hand_points (seen_hand x new.spread.items)) empty in
      let ahead = ap g.ahead work in
      omega (arith, before, none, ahead, chunk);
  clean = clean_given g old new kind hand work fault done;
  kept = λ h d. ap g.faults work;
}
