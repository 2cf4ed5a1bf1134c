use Rattle.limits_text.proofs.Said.{point_says, point_said, box_says, box_said, polygon_says, polygon_said, ranges_says, ranges_said}
use Rattle.limits_text.proofs.laws.texts_are_read.Goals as goal

pub returns-clause-points : goal.returns-clause-points
returns-clause-points c text p = (point_said text p, point_says text p)

pub returns-clause-boxes : goal.returns-clause-boxes
returns-clause-boxes c text b = (box_said text b, box_says text b)

pub returns-clause-polygons : goal.returns-clause-polygons
returns-clause-polygons c text ps = (polygon_said text ps, polygon_says text ps)

pub returns-clause-ranges : goal.returns-clause-ranges
returns-clause-ranges c text rs = (ranges_said text rs, ranges_says text rs)
