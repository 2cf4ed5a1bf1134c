use Rattle.std.proofs.Common.{◌≡◌, ◌+◌, ◌++◌, length, option_map, true, ap, subst, ◌∙◌}
use Rattle.cloud_points.specs.Queue.{up_to_limit}
use Rattle.stage_meanings.specs.Admitting.{told_behind}
use Rattle.stage_meanings.specs.Filters.{points_before}
use Rattle.stage_kinds.specs.Files.{chosen, count_of, file_form, file_holds}
use Rattle.stage_kinds.specs.Stages.{first_stop, only_of, spot_in, writes_of}
use Rattle.stage_kinds.proofs.Chunks.{chunk_fault, chunk_given, chunk_spot, stop_within}
use Rattle.stage_kinds.proofs.Putting.{holds_more, same_writes}
use Rattle.stage_kinds.proofs.writer_stage.WriterStage.on_chunk.Goals as goal

pub end_at-requires : goal.end_at-requires
end_at-requires g c =
    let w = c.args.self.now in
    stop_within (writes_of w) (count_of w.file) c.args.points.now.items c.in-Ok.stop (c.in-Ok.ensures.stop ∙ ap (first_stop (writes_of w) (count_of w.file)) c.as_slice.ensures.value)

pub returns-in-Ok-clause-spot : goal.returns-in-Ok-clause-spot
returns-in-Ok-clause-spot g c = λ calm.
    let w = c.args.self.now in
    let ps = c.args.points.now.items in
    let stop = c.in-Ok.stop in
    chunk_spot (writes_of w) (spot_in w) ps stop c.known_spot.ensures (c.in-Ok.ensures.stop ∙ ap (first_stop (writes_of w) (count_of w.file)) c.as_slice.ensures.value) _ _
    (c.end_at.ensures.number ∙ ap (λ t. up_to_limit (t.number + length (points_before stop ps))) c.in-Ok.ensures.taken)
    (ap count_of c.end_at.ensures.file ∙ c.in-Ok.ensures.count ∙ ap (λ qs. up_to_limit (count_of w.file + length (chosen (only_of w) (points_before stop qs)))) c.as_slice.ensures.value)

pub returns-in-Ok-clause-points : goal.returns-in-Ok-clause-points
returns-in-Ok-clause-points g c = λ calm.
    let w = c.args.self.now in
    chunk_given (writes_of w) (spot_in w) c.args.points.now.items c.in-Ok.stop c.known_spot.ensures
    (c.in-Ok.ensures.stop ∙ ap (first_stop (writes_of w) (count_of w.file)) c.as_slice.ensures.value) _ c.end_at.ensures.points

pub returns-in-Ok-clause-fault : goal.returns-in-Ok-clause-fault
returns-in-Ok-clause-fault g c = λ calm.
    let w = c.args.self.now in
    chunk_fault (writes_of w) (spot_in w) c.args.points.now.items c.in-Ok.stop c.known_spot.ensures
    (c.in-Ok.ensures.stop ∙ ap (first_stop (writes_of w) (count_of w.file)) c.as_slice.ensures.value) _
    (c.end_at.ensures.fault ∙ ap (λ t. option_map (told_behind t.number) c.in-Ok.stop) c.in-Ok.ensures.taken)

pub returns-in-Ok-clause-holds : goal.returns-in-Ok-clause-holds
returns-in-Ok-clause-holds g c = λ calm before held.
    let w = c.args.self.now in
    let ps = c.args.points.now.items in
    let stop = c.in-Ok.stop in
    let v = c.end_at.new.self in
    holds_more g.K.Sink.bytes w v before ps stop
    (same_writes (file_form v.file) (file_form w.file) (only_of v) (only_of w) (ap file_form c.end_at.ensures.file ∙ c.in-Ok.ensures.form) (c.end_at.ensures.only ∙ ap (λ t. t.only) c.in-Ok.ensures.taken))
    (c.in-Ok.ensures.stop ∙ ap (first_stop (writes_of w) (count_of w.file)) c.as_slice.ensures.value)
    (ap count_of c.end_at.ensures.file ∙ c.in-Ok.ensures.count ∙ ap (λ qs. up_to_limit (count_of w.file + length (chosen (only_of w) (points_before stop qs)))) c.as_slice.ensures.value)
    (λ none h. ap (λ f. file_holds g.K.Sink.bytes f (chosen (only_of w) before ++ chosen (only_of w) ps)) c.end_at.ensures.file
    ∙ subst (λ qs. file_holds g.K.Sink.bytes c.put_chosen.new.self.file (chosen (only_of w) before ++ chosen (only_of w) qs) ≡ true) c.as_slice.ensures.value
    (c.in-Ok.ensures.holds none (chosen (only_of w) before) h))
    held
