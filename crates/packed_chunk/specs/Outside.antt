-- Dimensions outside a layout.
use Rattle.std.specs.Prelude.{◌≡◌, ⊤, false, List, [], ◌∷◌}
use Rattle.cloud_points.specs.Layouts.{holds}
use Rattle.cloud_points.specs.declared.dims.Dim.{Dim}
use Rattle.cloud_points.specs.declared.layout.Layout.{Layout}
use Rattle.cloud_points.specs.declared.point.Point.{Point}
use Rattle.packed_chunk.specs.Rows.{stored}

-- a point has 0 in those of the dimensions that the layout lacks
abbrev pub AreZero : Layout → Point → List Dim → Type 0
AreZero layout p [] = ⊤
AreZero layout p (dim ∷ rest) = (holds layout dim ≡ false → stored p dim ≡ 0) × AreZero layout p rest

-- what a layout lacks the narrower one lacks too
abbrev pub IsWider : Layout → Layout → Type 0
IsWider narrow wide = (dim : Dim) → holds wide dim ≡ false → holds narrow dim ≡ false
