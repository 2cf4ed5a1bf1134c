use Rattle.std.proofs.Common.{◌≡◌, true, sym, ◌∙◌}
use Rattle.std.proofs.Math.Bool.{beq}
use Rattle.std.specs.Cmp.{booleans_Decides}
use lib.Pointwise.{pointwise, pointwise_decides}
use Rattle.cloud_points.specs.declared.layout.Layout.{Layout}
use Rattle.packed_chunk.proofs.rows.PackedRows.is_alike.Goals as goal

same_layout : (a b : Layout) → true ≡ pointwise beq a.held b.held → a ≡ b
same_layout a b equal =
    let held = (pointwise_decides booleans_Decides a.held b.held).0 (sym equal) in
    λ i. record { held = held i }

pub returns : goal.returns
returns c = λ yes.
    sym c.layout-2.ensures ∙ sym (same_layout c.layout.result c.layout-2.result (sym yes ∙ c.eq.ensures)) ∙ c.layout.ensures
