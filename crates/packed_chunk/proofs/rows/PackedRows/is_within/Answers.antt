use Rattle.std.proofs.Common.{ap, subst}
use Rattle.cloud_points.specs.Clearing.{IsWithin}
use Rattle.cloud_points.specs.Layouts.{holds}
use Rattle.cloud_points.specs.declared.layout.Layout.{Layout}
use Rattle.packed_chunk.specs.Held.{Held}
use Rattle.packed_chunk.proofs.rows.PackedRows.is_within.Goals as goal

pub returns : goal.returns
returns c = λ yes. subst (λ (l : Layout). IsWithin (holds l) c.args.p.now) (ap (λ (h : Held). h.layout) c.self.view_is) (c.is_within.ensures yes)
