use Rattle.cloud_points.proofs.FlowLaws.{flow_of-flow_marks, marks-join, points-join, join_assoc, points-upto, all_marks-append}
use Rattle.cloud_points.proofs.flow.flow_laws.Goals as goal

pub returns : goal.returns
returns c = record {
  read_back = flow_of-flow_marks;
  joined_marks = marks-join;
  joined_points = points-join;
  joined_groups = join_assoc;
  first_points = points-upto;
  items = all_marks-append;
}
