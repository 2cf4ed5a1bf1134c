use Rattle.std.proofs.Common.{◌+◌, ◌≤◌, length, take, refl, arith, rules, ◌∙◌}
use Rattle.las_reader.proofs.Readings.{reads_none, reads_more, reads_last, ends_within}
use Rattle.las_reader.proofs.Wholes.{one_fits}
use Rattle.las_reader.proofs.records.read_over.Goals as goal

pub loop-done-init : goal.loop-done-init
loop-done-init g c = (reads_none c.args.header.now c.args.fields.now c.args.given c.args.most _ _ _ (take 0 c.args.into.now.items) 0 refl refl, refl, omega arith)

pub returns-in_err-whole-clause-reached : goal.returns-in_err-whole-clause-reached
returns-in_err-whole-clause-reached g c =
    let room : c.loop-done.done + c.min-wanted.result ≤ c.args.most = omega (arith, c.min-wanted.ensures, c.loop-done-test.true) in
    let within = ends_within c.args.header.now.record_length c.args.given c.args.most c.loop-done.done c.min-wanted.result room in
    omega (arith, c.in_err-whole.ensures.reached, c.loop-done.invariant.0.got_to, within)

pub returns-then-held-wanted-clause-reached : goal.returns-then-held-wanted-clause-reached
returns-then-held-wanted-clause-reached g c =
    let room : c.loop-done.done + c.min-wanted.result ≤ c.args.most = omega (arith, c.min-wanted.ensures, c.loop-done-test.true) in
    let within = ends_within c.args.header.now.record_length c.args.given c.args.most c.loop-done.done c.min-wanted.result room in
    omega (arith, c.in_ok-whole.ensures.reached, c.loop-done.invariant.0.got_to, within)

pub returns-then-held-wanted-clause-points : goal.returns-then-held-wanted-clause-points
returns-then-held-wanted-clause-points g c =
    let done = c.loop-done.done in
    let held = c.decode_with-held.result in
    let room : done + c.min-wanted.result ≤ c.args.most = omega (arith, c.min-wanted.ensures, c.loop-done-test.true) in
    reads_last c.args.header.now c.args.fields.now c.args.given c.args.most c.min-wanted.result c.in_ok-whole.whole held.count held.out _ _ _ _ _ _ (take done c.loop-done.into.items) (take (done + held.count) c.decode_with-held.new.into.items) done c.read_records.new.buffer
    room c.in_ok-whole.ensures.most c.decode_with-held.ensures.most c.if-held-wanted.true c.in_ok-whole.ensures.whole c.decode_with-held.ensures.items c.decode_with-held.ensures.out c.decode_with-held.ensures.all c.loop-done.invariant.0

pub loop-done-smaller : goal.loop-done-smaller
loop-done-smaller g c =
    let some = one_fits c.args.header.now.record_length (length c.args.buffer.now) (search rules) c.requires.room in
    omega (arith, some, c.min-wanted.ensures, c.loop-done-test.true, c.if-held-wanted.false)

pub loop-done-preserved : goal.loop-done-preserved
loop-done-preserved g c =
    let done = c.loop-done.done in
    let held = c.decode_with-held.result in
    let room : done + c.min-wanted.result ≤ c.args.most = omega (arith, c.min-wanted.ensures, c.loop-done-test.true) in (
      reads_more c.args.header.now c.args.fields.now c.args.given c.args.most c.min-wanted.result c.in_ok-whole.whole held.count held.out _ _ _ _ _ _ _ _ _ (take done c.loop-done.into.items) (take (done + held.count) c.decode_with-held.new.into.items) done (done + held.count) c.read_records.new.buffer
          room c.in_ok-whole.ensures.most c.decode_with-held.ensures.most c.if-held-wanted.false c.in_ok-whole.ensures.bytes c.in_ok-whole.ensures.cause.calm c.in_ok-whole.ensures.reached c.in_ok-whole.ensures.whole c.decode_with-held.ensures.items
          c.decode_with-held.ensures.out refl c.loop-done.invariant.0,
      c.in_ok-whole.ensures.len ∙ c.loop-done.invariant.1,
      omega (arith, c.decode_with-held.ensures.most, c.decode_with-held.ensures.len),
    )
