use Rattle.std.proofs.Common.{refl, None, ◌∙◌}
use Rattle.worked_examples.proofs.Parts as parts
use Rattle.worked_examples.proofs.Parts.{run_is, refused}
use Rattle.worked_examples.proofs.pipelines_are_refused.Goals as goal

pub returns : goal.returns
returns c = record {
  absent = run_is (λ name. None) ∙ refl;
  empty_array = refused _ parts.empty_array;
  no_json = refused _ parts.no_json;
  no_stages = refused _ parts.no_stages;
  another_ending = refused _ parts.another_ending;
  a_head_first = refused _ parts.a_head_first;
  a_tag_twice = refused _ parts.a_tag_twice;
  an_unknown_tag = refused _ parts.an_unknown_tag;
  an_input_taken_twice = refused _ parts.an_input_taken_twice;
  two_number_signs = refused _ parts.two_number_signs;
  an_unknown_option = refused _ parts.an_unknown_option;
  a_count_too_large = refused _ parts.a_count_too_large;
  two_writers_of_a_name = refused _ parts.two_writers_of_a_name;
  another_order = refused _ parts.another_order;
}
