use Rattle.std.proofs.Common.{◌≤◌, length, subst, arith}
use Rattle.las_reader.specs.Files.{las_with}
use Rattle.las_reader.specs.Reading.{IsWithin}
use Rattle.las_reader.proofs.Steps.{at_end, gives_view_end, points_long}
use Rattle.las_reader.proofs.reader.LasReader.next.Goals as goal

pub returns-else-given-count-clause-told : goal.returns-else-given-count-clause-told
returns-else-given-count-clause-told g c = λ file e h within.
    let header = c.args.self.now.header in
    let fields = c.args.self.now.fields in
    let long = points_long header fields file in
    let there : c.in-Records.given ≤ length (las_with header fields file).points = subst (IsWithin (las_with header fields file).points) c.in-Records.is within in
    let last = at_end header fields file c.in-Records.given (omega (arith, long, there)) (omega (arith, c.points-count.ensures, c.if-given-count.false)) in
    rw c.in-Records.is
    (gives_view_end (las_with header fields file).points (las_with header fields file).fault c.args.chunk c.in-Records.given c.clear.new.self.items (omega (arith, long, last.past)) last.fault c.clear.ensures)
