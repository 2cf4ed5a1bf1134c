-- The dimensions that formats of points have.
use Rattle.std.specs.Prelude.{Bool, true, false, [], ◌∷◌}
use Rattle.cloud_points.specs.declared.dims.Dim.TheVariants.{GpsTime, Infrared}
use Rattle.cloud_points.specs.declared.layout.Layout.{Layout}
use Rattle.packed_chunk.specs.Rows.{AllAre, first_dims, flag_dims, angle_dims, colour_dims, extra_dims}

-- the layout of a format: what all formats have, and the flags, the time, the colours and the infrared each or not
pub record HasGroups (flags time colours infrared : Bool) (layout : Layout) : Type 0 where
  pub first : AllAre true layout first_dims
  pub flag : AllAre flags layout flag_dims
  pub angle : AllAre true layout angle_dims
  pub gps : AllAre time layout (GpsTime ∷ [])
  pub colour : AllAre colours layout colour_dims
  pub infra : AllAre infrared layout (Infrared ∷ [])
  pub extra : AllAre false layout extra_dims
