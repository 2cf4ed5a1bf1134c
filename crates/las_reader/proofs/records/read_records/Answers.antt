use Rattle.std.proofs.Common.{◌≡◌, ◌-◌, ◌*◌, ◌++◌, ◌≤◌, ◌<◌, ◌^◌, min, length, take, drop, ap, ◌∙◌, arith}
use Rattle.std.proofs.lemmas.Grind.{common_steps}
use Rattle.std.proofs.lemmas.List.{length-take-le}
use Rattle.las_reader.proofs.Wholes.{has_records}
use Rattle.las_reader.proofs.records.read_records.Goals as goal

pub returns-clause-whole : goal.returns-clause-whole
returns-clause-whole g c = λ file e.
    let header = c.args.header.now in
    let n = c.in_ok-count.count in
    let filled = c.in_ok-count.ensures.filled in
    let small : length file < 2 ^ 64 = g.met.S.Source.small c.args.source.now file e in
    let room : c.min-room.result ≤ length c.args.buffer.now = omega (arith, c.min-room.ensures, c.requires.room) in
    let part : length (take c.min-room.result c.args.buffer.now) ≡ c.min-room.result = length-take-le c.min-room.result c.args.buffer.now room in
    let size : n ≡ min (header.record_length * c.args.most) (length file - c.in-Some.at) = omega (arith, filled.all file e, c.min-room.ensures, part, small) in
    has_records header file c.args.given c.args.most n (c.fill.new.into ++ drop c.min-room.result c.args.buffer.now) c.requires.some
    (size ∙ ap (λ k. min (header.record_length * c.args.most) (length file - k)) c.in-Some.ensures.some)
    (grind (arith, common_steps, filled.within, c.fill.auto.into) ∙ filled.given file e ∙ ap (λ k. take n (drop k file)) c.in-Some.ensures.some)
