-- Which stages typed stages take.
use Rattle.std.specs.Prelude.{List, map, None}
use Rattle.serde_json.specs.Data.{no_members}
use Rattle.pipeline_json.specs.Stages.{Stage}
use Rattle.stage_options.specs.Kinds.{kind_of}
use Rattle.stage_options.specs.declared.stage.StageSpec.{StageSpec}

-- the type and the inputs alone
abbrev pub shape : StageSpec → Stage
shape s = record { kind = kind_of s.options; tag = None; ins = s.ins; filename = None; members = no_members }

abbrev pub shapes : List StageSpec → List Stage
shapes stages = map shape stages
