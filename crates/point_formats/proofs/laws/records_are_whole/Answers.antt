use Rattle.point_formats.proofs.Sizes.{whole}
use Rattle.point_formats.proofs.laws.records_are_whole.Goals as goal

pub returns : goal.returns
returns c = whole
