use Rattle.stage_kinds.proofs.Streams as streams
use Rattle.stage_kinds.proofs.laws.stages_stream.Goals as goal

pub returns : goal.returns
returns c = record {
  filter_gives = streams.filter_gives;
  filter_fault = streams.filter_fault;
  writer_gives = streams.writer_gives;
  writer_fault = streams.writer_fault;
  plug_gives = streams.plug_gives;
  tally_gives = streams.tally_gives;
}
