use Rattle.geo_tests.proofs.Rectangle.{rectangle}
use Rattle.geo_tests.proofs.laws.rectangles_are_boxes.Goals as goal

pub returns : goal.returns
returns c = rectangle
