-- What a collector does with the flow that it takes.
use Rattle.std.specs.Prelude.{◌≡◌, Bool, true, false, ◌||◌, List, [], ◌∷◌, ◌++◌, length, Option, Some, None, refl}
use Rattle.std.proofs.lemmas.List.{append-nil, append_assoc}
use Rattle.std.proofs.Common.{ap, sym}
use Rattle.std.proofs.Math.Nat.{le_refl}
use Rattle.cloud_points.specs.declared.point.Point.{Point}
use Rattle.cloud_points.specs.declared.faults.StageFault.{StageFault}
use Rattle.cloud_points.specs.Flows.{Flow}
use Rattle.cloud_points.specs.Meaning.{Meaning, KeepsCutting}
use Rattle.view_works.specs.declared.collector.Collector.{Collector}

-- the flow that it holds, or nothing once memory was wanting
abbrev pub Held : Type 0
Held = Option (Flow Point)

abbrev pub with_more : Held → List Point → Held
with_more None ps = None
with_more (Some f) ps = Some (record f { open_view = f.open_view ++ ps })

abbrev pub with_end : Held → Held
with_end None = None
with_end (Some f) = Some (record f { views = f.views ++ f.open_view ∷ []; open_view = [] })

abbrev pub with_cut : Held → Bool → Held
with_cut None cut = None
with_cut (Some f) cut = Some (record f { cut = f.cut || cut })

-- it keeps all that it takes, beside what it is to make of that, and gives it on
abbrev pub collecting : {M : Type 0} → Meaning (M × Held) Point StageFault
collecting = record {
  emit = λ s ps. ps;
  after = λ s ps. (s.0, with_more s.1 ps);
  fault = λ s ps. None;
  at_view = λ s. ((s.0, with_end s.1), true);
  at_end = λ s cut. ((s.0, with_cut s.1 cut), false);
  nature = None;
}

more-more : (s : Held) (a b : List Point) → with_more s (a ++ b) ≡ with_more (with_more s a) b
more-more None a b = refl
more-more (Some f) a b = ap (λ ps. Some (record f { open_view = ps })) (sym (append_assoc f.open_view a b))

more-none : (s : Held) → with_more s [] ≡ s
more-none None = refl
more-none (Some f) = ap (λ ps. Some (record f { open_view = ps })) (append-nil f.open_view)

pub collecting_keeps : {M : Type 0} → KeepsCutting (collecting {M = M})
collecting_keeps = record {
  emits = λ s a b h. refl;
  goes_on = λ s a b h. ap (λ t. (s.0, t)) (more-more s.1 a b);
  finds = λ s a b h. refl;
  stops_emit = λ s a b h. absurd (h refl);
  stops_after = λ s a b h. absurd (h refl);
  stops_fault = λ s a b h. absurd (h refl);
  holds_back = λ s p h. absurd (h refl);
  rests = λ s. ap (λ t. (s.0, t)) (more-none s.1);
  is_sound = λ s. refl;
  no_longer = λ s a. le_refl (length a);
}

-- what a collector holds
abbrev pub held : Bool → Flow Point → Held
held true f = None
held false f = Some f

-- what it is to make, and what it holds
abbrev pub state_of : {M : Type 0} → Collector M → M × Held
state_of c = (c.making, held c.short c.views)
