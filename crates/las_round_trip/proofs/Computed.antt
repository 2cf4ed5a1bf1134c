-- Worked examples, by computing.
use Rattle.std.proofs.Common.{◌≡◌, [], ◌∷◌, refl}
use Rattle.las_header.specs.declared.form.Format.TheVariants.{F0, F3}
use Rattle.las_header.specs.Written.{file_part, record_part, grid_part, count_part}
use Rattle.point_formats.specs.Encoded.{coordinate_bytes, angle_bytes, bits_number}
use Rattle.forward_rules.specs.Asked.{asked}
use Rattle.forward_rules.specs.Forwarded.{form_of}
use Rattle.las_writer.specs.Records.{point_record}
use Rattle.las_writer.specs.Totals.{returns_from, totals_of}
use Rattle.las_writer.specs.LasOutput.{header_with, las_output}
use Rattle.las_round_trip.specs.Rows.{plain, no_options, empty_file, first_point, second_point, file_of_two, old_file_of_two}
use Rattle.las_round_trip.specs.Rows.{file_of_heights, high_point, low_point, with_heights}

pub all_defaults : form_of no_options [] ≡ plain 4 F3
unfolding form_of asked
all_defaults = refl

pub header_alone : las_output (plain 4 F3) [] ≡ empty_file
unfolding header_with totals_of returns_from file_part record_part grid_part count_part
header_alone = refl

pub two_points : las_output (plain 4 F0) (first_point ∷ second_point ∷ []) ≡ file_of_two
unfolding header_with totals_of returns_from point_record coordinate_bytes angle_bytes bits_number file_part record_part grid_part count_part
two_points = refl

pub old_two_points : las_output (plain 2 F0) (first_point ∷ second_point ∷ []) ≡ old_file_of_two
unfolding header_with totals_of returns_from point_record coordinate_bytes angle_bytes bits_number file_part record_part grid_part count_part
old_two_points = refl

pub heights : las_output with_heights (high_point ∷ low_point ∷ []) ≡ file_of_heights
unfolding header_with totals_of returns_from point_record coordinate_bytes angle_bytes bits_number file_part record_part grid_part count_part
heights = refl
