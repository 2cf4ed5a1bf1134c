-- A file that is read without fields.
use Rattle.std.proofs.Common.{drop}
use Rattle.las_header.specs.Counts.{points_in}
use Rattle.las_reader.specs.Files.{WithoutFields, fault_of, sound_records, whole_records}
use Rattle.las_reader.specs.Records.{points_from}
use Rattle.las_reader.proofs.Outs.{plain_out}
use Rattle.las_reader.proofs.Pieces.{plain_point}

pub without_fields : WithoutFields
without_fields header file =
    let whole = whole_records header file in
    let stored = drop header.points_at file in
    λ i. record {
      points = points_from (plain_point header i) header.record_length 0 (sound_records whole (plain_out header.record_length 0 whole stored i)) stored;
      fault = fault_of (points_in header) whole (plain_out header.record_length 0 whole stored i);
    }
