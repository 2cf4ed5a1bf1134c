-- Where memory was wanting, a stage needs whole views.
use Rattle.std.proofs.Common.{◌≡◌, ℕ, ◌-◌, ◌<◌, Bool, true, false, true≢false, List, length, map, Some, refl, sym, ◌∙◌, arith}
use Rattle.std.specs.Prelude.{slice_get}
use Rattle.std.proofs.lemmas.Option.{slice_get_within}
use Rattle.file_devices.specs.declared.devices.Source as source
use Rattle.file_devices.specs.declared.devices.Sink as sink
use Rattle.network_theory.specs.Forest.{IsForest}
use Rattle.network_core.specs.declared.node.Node.{Node}
use Rattle.network_core.specs.Shown.{work_of}
use Rattle.network_core.proofs.Opened.{some_at}
use Rattle.stage_kinds.specs.declared.stage_work.StageWork.{StageWork}
use Rattle.stage_kinds.specs.declared.stage_work.StageWork.TheVariants.{Reader, Filter, Plug, Tally, Collector, Views, ViewFiles, Writer}
use Rattle.stage_kinds.specs.Stages.{is_short, meaning_of}
use Rattle.stage_options.specs.Roles.{is_gathering}
use Rattle.stage_options.specs.declared.stage.StageSpec.{StageSpec}
use Rattle.stage_parts.specs.Parts.{AreHomes, home_at}
use Rattle.answer_model.specs.Values.{IsDown, role_at, options_at}
use Rattle.stage_runs.specs.Works.{ins_of, AreNewStages}
use Rattle.stage_runs.specs.Parts.{gathers_of, is_past, AreRunBefore, Besides}
use Rattle.stage_forms.specs.Starts.{IsCollecting}
use Rattle.stage_runs.specs.Short.{RanShort, SomeGathers}
use Rattle.stage_runs.proofs.Asked.{keeps-collecting}
use Rattle.stage_forms.proofs.AtStart.{somehow}
use Rattle.stage_runs.proofs.Later.{AreTurnedNodes}
use Rattle.stage_runs.proofs.Places.{map-at}
use Rattle.stage_runs.proofs.Steps.{true-lt, home-gathers}
use Rattle.stage_forms.proofs.Works.{collects-gathers}
use Rattle.plug_stages.specs.declared.filter.PlugFilter as plug_type
use Rattle.plug_stages.specs.declared.tally.PlugTally as tally_type

-- a work that means what a short one means takes whole views
short-collects : {S K P Q : Type 0} (fs : plug_type.Ghosts P) (ts : tally_type.Ghosts Q) (v w : StageWork S K P Q) → is_short v ≡ true → meaning_of fs ts w ≡ meaning_of fs ts v → IsCollecting w
short-collects fs ts (Collector c) w short same = keeps-collecting fs ts c w same
short-collects fs ts (Reader r) w short same = absurd (true≢false (sym short))
short-collects fs ts (Filter f) w short same = absurd (true≢false (sym short))
short-collects fs ts (Plug v) w short same = absurd (true≢false (sym short))
short-collects fs ts (Tally v) w short same = absurd (true≢false (sym short))
short-collects fs ts (Views h) w short same = absurd (true≢false (sym short))
short-collects fs ts (ViewFiles t) w short same = absurd (true≢false (sym short))
short-collects fs ts (Writer v) w short same = absurd (true≢false (sym short))

module _ {S K P Q : Type 0} (s : source.Ghosts S) (k : sink.Ghosts K) (fs : plug_type.Ghosts P) (ts : tally_type.Ghosts Q) where
  -- so a node that is short in the end took whole views from the start
  pub short-ran : (nodes ended : List (Node (StageWork S K P Q))) → AreTurnedNodes s k fs ts nodes ended
      → (i : ℕ) (m : Node (StageWork S K P Q)) → slice_get ended i ≡ Some m → is_short m.work ≡ true → RanShort nodes ended
  short-ran nodes ended ran i m e short =
      let n = some_at nodes i (let a = slice_get_within ended i m e in let b = ran.count in omega (arith, a, b)) in
      record {
        place = i;
        before = n.0;
        after = m;
        was = n.1;
        is = e;
        collects = short-collects fs ts m.work n.0.work short (sym (ran.work i n.0 m n.1 e));
        short = short;
      }

module _ {S K P Q : Type 0} (s : source.Ghosts S) (k : sink.Ghosts K) (fs : plug_type.Ghosts P) (ts : tally_type.Ghosts Q) (stages : List StageSpec) (old : List (Node (StageWork S K P Q))) (new : AreNewStages s k fs ts stages old) (down : IsDown stages)
    (forest : IsForest (ins_of stages) (length (ins_of stages) - 1)) (size : length (ins_of stages) ≡ length stages)
    (homes : List ℕ) (are : AreHomes (gathers_of stages) (ins_of stages) homes) (besides : Besides S K P Q) where
  -- a stage whose work takes whole views at its start needs them
  starts-gathering : (i : ℕ) (n : Node (StageWork S K P Q)) → slice_get old i ≡ Some n → IsCollecting n.work → is_gathering (role_at stages i) ≡ true
  starts-gathering i n e collects =
      let start = somehow k.bytes stages (map work_of old) new.works i n.work (map-at work_of old i n e) in
      collects-gathers s k.bytes (options_at stages i) start.0 n.work start.1 collects

  -- memory is wanting in the last part only where a stage needs whole views: the one at whose node it is, or one that was run before
  pub short-gathers : (now after : List (Node (StageWork S K P Q))) → length now ≡ length stages → AreRunBefore s k fs ts stages homes old (length stages) now → RanShort now after → SomeGathers stages
  short-gathers now after count done short = by_home (is_past s k fs ts stages homes old (length stages) short.place) refl
    where
      inside : short.place < length stages
      inside = let a = slice_get_within now short.place short.before short.was in omega (arith, a, count)

      by_role : is_past s k fs ts stages homes old (length stages) short.place ≡ false → (b : Bool) → is_gathering (role_at stages short.place) ≡ b → SomeGathers stages
      by_role p true g = (short.place, inside, g)
      by_role p false g = (
        short.place,
        inside,
        starts-gathering short.place short.before (done.waits short.place short.before short.was p (λ l h. true≢false (sym h ∙ g))) short.collects,
      )

      by_home : (b : Bool) → is_past s k fs ts stages homes old (length stages) short.place ≡ b → SomeGathers stages
      by_home true p =
          let home = home_at homes short.place in
          let less = true-lt home (length stages) p in
          (home, less, home-gathers s k fs ts stages old new down forest size homes are besides short.place inside home less refl)
      by_home false p = by_role p (is_gathering (role_at stages short.place)) refl
