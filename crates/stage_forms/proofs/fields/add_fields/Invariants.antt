use Rattle.std.proofs.Common.{◌≡◌, ◌||◌, drop}
use Rattle.answer_model.specs.Values.{is_of_fields}
use Rattle.cloud_points.specs.Layouts.{holds}
use Rattle.cloud_points.specs.declared.dims.Dim.{Dim}
use Rattle.stage_forms.proofs.fields.add_fields.Given as goal

abbrev pub invariant-loop-field : goal.invariant-loop-field
invariant-loop-field l =
    (dim : Dim) → (holds l.layout dim || is_of_fields (drop l.field-index l.fields) dim) ≡ (holds l.initial.layout dim || is_of_fields l.fields dim)
