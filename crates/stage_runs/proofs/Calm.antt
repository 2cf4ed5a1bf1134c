-- A stage that needs whole views has no fault on what it takes.
use Rattle.std.proofs.Common.{◌≡◌, ◌+◌, ◌==◌, Bool, true, false, cond, List, [], ◌∷◌, Option, None, is_some, refl, ap, ◌∙◌}
use Rattle.cloud_points.specs.declared.point.Point.{Point}
use Rattle.cloud_points.specs.declared.faults.StageFault.{StageFault}
use Rattle.cloud_points.specs.Flows.{Flow}
use Rattle.cloud_points.specs.Marks.{Mark, At, View_end, End, flow_marks}
use Rattle.network_theory.specs.Machine.{Machine, after_all, at_last, at_start, fault_on, next, one_end}
use Rattle.stage_kinds.specs.declared.stage_work.StageState.{StageState}
use Rattle.stage_kinds.specs.declared.stage_work.StageState.TheVariants.{Collecting}
use Rattle.stage_kinds.specs.Stages.{collector_work}

sound-at : (state : StageState) (ps : List Point) → collector_work.fault state ps ≡ None
sound-at (Collecting g h) ps = refl
sound-at state ps = refl

next-sound : (c : Machine StageState StageFault) (t : Mark Point) → c.fault ≡ None → (next collector_work c t).fault ≡ None
next-sound c (At p) e = ap (λ (o : Option StageFault). (cond (is_some o) c (record c { state = collector_work.after c.state (p ∷ []); fault = collector_work.fault c.state (p ∷ []) })).fault) e ∙ sound-at c.state (p ∷ [])
next-sound c View_end e = ap (λ (o : Option StageFault). (cond (is_some o) c (record c { state = (collector_work.at_view c.state).0 })).fault) e ∙ e
next-sound c (End cut) e = go (c.ended + 1 == c.inputs)
  where
    go : (b : Bool) → (cond b (at_last collector_work (one_end c cut)) (one_end c cut)).fault ≡ None
    go true = e
    go false = e

after-sound : (c : Machine StageState StageFault) (ts : List (Mark Point)) → c.fault ≡ None → (after_all collector_work c ts).fault ≡ None
after-sound c [] e = e
after-sound c (t ∷ ts) e = after-sound (next collector_work c t) ts (next-sound c t e)

pub collector-sound : (state : StageState) (flow : Flow Point) → fault_on collector_work state flow ≡ None
collector-sound state flow = after-sound (at_start 1 state) (flow_marks flow) refl
