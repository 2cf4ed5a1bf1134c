-- A stage that needs whole views takes them, and gives them on.
use Rattle.std.proofs.Common.{◌≡◌, ◌+◌, Bool, true, false, cond, List, [], ◌∷◌, Some, is_some, refl, ap, ◌∙◌}
use Rattle.std.specs.Prelude.{◌==◌}
use Rattle.cloud_points.specs.declared.point.Point.{Point}
use Rattle.cloud_points.specs.declared.faults.StageFault.{StageFault}
use Rattle.cloud_points.specs.Flows.{Flow, empty_flow}
use Rattle.cloud_points.specs.Marks.{Mark, At, View_end, End, flow_marks}
use Rattle.network_theory.specs.Machine.{Machine, next, after_all, at_last, one_end, at_start, made_of, state_after}
use Rattle.stage_meanings.proofs.Through.{lifted_gives}
use Rattle.stage_kinds.specs.declared.making.Making.{Making}
use Rattle.view_works.specs.Collecting.{Held, collecting}
use Rattle.view_works.proofs.Collected.{collected, gave-all}
use Rattle.stage_kinds.specs.declared.stage_work.StageState.{StageState}
use Rattle.stage_kinds.specs.declared.stage_work.StageState.TheVariants.{Collecting}
use Rattle.stage_kinds.specs.Stages.{collecting_in, collector_work}

abbrev wide : Machine (Making × Held) StageFault → Machine StageState StageFault
wide c = record { state = Collecting c.state.0 c.state.1; fault = c.fault; cut = c.cut; inputs = c.inputs; ended = c.ended }

wide-next : (c : Machine (Making × Held) StageFault) (t : Mark Point) → next collector_work (wide c) t ≡ wide (next collecting c t)
wide-next c (At p) = go (is_some c.fault)
  where
    go : (b : Bool) → cond b (wide c) (record (wide c) { state = collector_work.after (Collecting c.state.0 c.state.1) (p ∷ []); fault = collector_work.fault (Collecting c.state.0 c.state.1) (p ∷ []) })
        ≡ wide (cond b c (record c { state = collecting.after c.state (p ∷ []); fault = collecting.fault c.state (p ∷ []) }))
    go true = refl
    go false = refl
wide-next c View_end = go (is_some c.fault)
  where
    go : (b : Bool) → cond b (wide c) (record (wide c) { state = (collector_work.at_view (Collecting c.state.0 c.state.1)).0 }) ≡ wide (cond b c (record c { state = (collecting.at_view c.state).0 }))
    go true = refl
    go false = refl
wide-next c (End cut) = go (c.ended + 1 == c.inputs)
  where
    go : (b : Bool) → cond b (at_last collector_work (one_end (wide c) cut)) (one_end (wide c) cut) ≡ wide (cond b (at_last collecting (one_end c cut)) (one_end c cut))
    go true = refl
    go false = refl

wide-after : (c : Machine (Making × Held) StageFault) (ts : List (Mark Point)) → after_all collector_work (wide c) ts ≡ wide (after_all collecting c ts)
wide-after c [] = refl
wide-after c (t ∷ ts) = ap (λ d. after_all collector_work d ts) (wide-next c t) ∙ wide-after (next collecting c t) ts

-- it gives on what it takes, and holds that then
pub collector-gives : (g : Making) (flow : Flow Point) → made_of collector_work (Collecting g (Some empty_flow)) flow ≡ flow_marks flow
collector-gives g flow = lifted_gives collecting collecting_in (λ s. Collecting s.0 s.1) (λ s. refl) (g, Some empty_flow) (flow_marks flow) ∙ gave-all g flow

pub collector-holds : (g : Making) (flow : Flow Point) → state_after collector_work (Collecting g (Some empty_flow)) flow ≡ Collecting g (Some flow)
collector-holds g flow = ap (λ c. c.state) (wide-after (at_start 1 (g, Some empty_flow)) (flow_marks flow)) ∙ ap (λ (s : Making × Held). Collecting s.0 s.1) (collected g flow)
