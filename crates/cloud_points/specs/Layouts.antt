-- Sets of dimensions.
use Rattle.std.specs.Prelude.{Bool, false, ◌==◌, get_or}
use Rattle.cloud_points.specs.Dims.{number_of}
use Rattle.cloud_points.specs.declared.dims.Dim.{Dim}
use Rattle.cloud_points.specs.declared.layout.Layout.{Layout}

-- whether a dimension is in a set
abbrev pub holds : Layout → Dim → Bool
holds layout dim = get_or layout.held (number_of dim) false

abbrev pub is_same : Dim → Dim → Bool
is_same a b = number_of a == number_of b
