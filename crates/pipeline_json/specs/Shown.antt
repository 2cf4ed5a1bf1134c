-- What the code's types stand for.
use Rattle.std.specs.Prelude.{List, map, option_map, ◌≡◌, ⊤}
use Rattle.serde_json.specs.View.{members_view}
use Rattle.stage_names.specs.declared.faults.PipeErr.{PipeErr}
use Rattle.stage_names.specs.declared.faults.PipeErr.TheVariants.{Fault, Memory}
use Rattle.std.specs.Prelude.{Err}
use Rattle.pipeline_json.specs.Stages.{Stage}
use Rattle.pipeline_json.specs.Trees.{Outcome}
use Rattle.serde_json.specs.View.{view}
use Rattle.pipeline_json.specs.Stages.{Parts as PartsOf}
use Rattle.pipeline_json.specs.declared.elements.Parts.{Parts}
use Rattle.pipeline_json.specs.declared.stage.RawStage.{RawStage}

abbrev pub stage_view : RawStage → Stage
stage_view s = record { kind = s.kind; tag = s.tag; ins = s.ins; filename = s.filename; members = members_view s.options.entries }

abbrev pub stages_view : List RawStage → List Stage
stages_view stages = map stage_view stages

abbrev pub parts_view : Parts → PartsOf
parts_view p = record {
  type = option_map (λ s. s.now) p.kind;
  tag = option_map (λ s. s.now) p.tag;
  inputs = option_map (λ s. map view s.now) p.inputs;
  filename = option_map (λ s. s.now) p.filename;
}

-- the outcome has the fault that is told
abbrev pub IsToldFault : Outcome → PipeErr → Type 0
IsToldFault o (Fault f) = o ≡ Err f
IsToldFault o Memory = ⊤
