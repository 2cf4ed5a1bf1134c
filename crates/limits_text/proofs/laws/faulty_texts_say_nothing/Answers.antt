use Rattle.limits_text.proofs.Refused.{point_refused, box_refused, polygon_refused, ranges_refused}
use Rattle.limits_text.proofs.laws.faulty_texts_say_nothing.Goals as goal

pub returns-clause-points : goal.returns-clause-points
returns-clause-points c = point_refused

pub returns-clause-boxes : goal.returns-clause-boxes
returns-clause-boxes c = box_refused

pub returns-clause-polygons : goal.returns-clause-polygons
returns-clause-polygons c = polygon_refused

pub returns-clause-ranges : goal.returns-clause-ranges
returns-clause-ranges c = ranges_refused
