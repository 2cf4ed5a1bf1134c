use Rattle.answer_model.specs.Values.{evaluated}
use Rattle.worked_examples.proofs.Parts.{read_whole, run_whole, absent_las, cut_at_1, cut_at_0, vlr_past_points, too_many_vlrs, evlr_past_end, compressed, other_scale, short_header, older_short, other_version, format_of_another, other_signature, short_signature, no_bytes}
use Rattle.worked_examples.proofs.files_are_refused.Goals as goal

pub returns : goal.returns
unfolding evaluated
returns c = record {
  last_byte_missing = read_whole _ cut_at_1;
  no_record_whole = read_whole _ cut_at_0;
  compressed_points = run_whole _ compressed;
  neighbour_of_a_scale = run_whole _ other_scale;
  vlr_past_points = run_whole _ vlr_past_points;
  too_many_vlrs = run_whole _ too_many_vlrs;
  evlr_past_end = run_whole _ evlr_past_end;
  header_cut_short = run_whole _ short_header;
  older_header_cut_short = run_whole _ older_short;
  another_version = run_whole _ other_version;
  format_of_another_version = run_whole _ format_of_another;
  another_signature = run_whole _ other_signature;
  signature_cut_short = run_whole _ short_signature;
  no_bytes = run_whole _ no_bytes;
  absent = absent_las;
}
