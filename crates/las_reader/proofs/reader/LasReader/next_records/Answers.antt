use Rattle.std.proofs.Common.{◌≡◌, ◌<◌, ◌≤◌, List, length, drop, true, Some, rules, subst, arith, ◌∙◌, ap}
use Rattle.cloud_points.specs.declared.faults.Make.TheVariants.{End}
use Rattle.cloud_points.specs.declared.faults.StageFault.TheVariants as stage
use Rattle.cloud_points.specs.declared.extra.ExtraField.{ExtraField}
use Rattle.las_header.specs.Counts.{points_in}
use Rattle.las_reader.specs.Files.{las_with}
use Rattle.las_reader.specs.Pieces.{HasPoints}
use Rattle.las_reader.specs.Reading.{fault_at}
use Rattle.las_reader.specs.Records.{point_with}
use Rattle.las_reader.proofs.Steps.{gives_points, gives_fault, ended_at, next_is, points_long, sound}
use Rattle.las_reader.proofs.reader.LasReader.next_records.Goals as goal

pub returns-then-is_empty-clause-told : goal.returns-then-is_empty-clause-told
returns-then-is_empty-clause-told g c = λ file e h within.
    let header = c.args.self.now.header in
    let fields = c.args.self.now.fields in
    let points = c.read_points.new.into.items in
    let empty : length points ≡ 0 = search rules in
    let long = points_long header fields file in
    let inside : c.args.given ≤ sound header fields file = omega (arith, long, within) in
    let has = subst (λ (fields : List ExtraField). HasPoints header fields file c.args.given c.min-most.result points c.in-Ok.out) c.as_slice.ensures (c.in-Ok.ensures.points file e) in
    let next = next_is header fields file c.args.given inside c.min-most.result c.args.chunk points c.in-Ok.out c.requires.more c.requires.low (omega (arith, c.min-most.ensures)) has in
    let past : length (las_with header fields file).points ≤ c.args.given = omega (arith, long, empty, next.size, c.requires.low) in
    gives_fault (las_with header fields file).points (las_with header fields file).fault (fault_at c.args.given c.in-Ok.out) c.args.chunk c.args.given _ _ _ past (next.fault empty)
    (c.end-then-is_empty.ensures.made ∙ ap (λ f. End true (Some (stage.Point f))) c.fault_at.ensures) c.end-then-is_empty.ensures.empty (ap (λ r. r.progress) c.end-then-is_empty.ensures.same)

pub returns-then-is_empty-clause-moves : goal.returns-then-is_empty-clause-moves
returns-then-is_empty-clause-moves g c =
    let made : c.end-then-is_empty.result ≡ End true (Some (stage.Point (fault_at c.args.given c.in-Ok.out))) = c.end-then-is_empty.ensures.made ∙ ap (λ f. End true (Some (stage.Point f))) c.fault_at.ensures in
    rw made (ended_at (points_in c.args.self.now.header) c.args.chunk c.args.given c.in-Ok.out c.end-then-is_empty.new.into.items c.end-then-is_empty.new.self.progress
    c.end-then-is_empty.ensures.empty (ap (λ r. r.progress) c.end-then-is_empty.ensures.same))

pub returns-clause-told : goal.returns-clause-told
returns-clause-told g c = λ file e h within.
    let header = c.args.self.now.header in
    let fields = c.args.self.now.fields in
    let points = c.read_points.new.into.items in
    let long = points_long header fields file in
    let inside : c.args.given ≤ sound header fields file = omega (arith, long, within) in
    let has = subst (λ (fields : List ExtraField). HasPoints header fields file c.args.given c.min-most.result points c.in-Ok.out) c.as_slice.ensures (c.in-Ok.ensures.points file e) in
    let next = next_is header fields file c.args.given inside c.min-most.result c.args.chunk points c.in-Ok.out c.requires.more c.requires.low (omega (arith, c.min-most.ensures)) has in
    let some : 0 < length points = search rules in
    let more : c.args.given < sound header fields file = omega (arith, next.size, some) in
    rw c.len.ensures.value
    (gives_points (point_with header fields) header.record_length (las_with header fields file).fault c.args.chunk c.args.given (length points) (sound header fields file) (drop header.points_at file) points more next.size has.points_are)
