use Rattle.cloud_points.specs.Dims.{number_of}
use Rattle.cloud_points.proofs.Joining.{no_mark}
use Rattle.cloud_points.proofs.layout.Layout.none.Goals as goal

pub returns : goal.returns
returns c = λ dim. no_mark 30 (number_of dim)
