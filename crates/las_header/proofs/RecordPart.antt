-- The fields from the header size to the legacy counts by return, read from the header's bytes.
use Rattle.std.proofs.Common.{◌≡◌, ℕ, List, [], ◌∷◌, ◌++◌, length, drop, refl, ap, sym, ◌∙◌, ◌*◌, append_assoc, w16, w32}
use Rattle.std.specs.Int.{to_le_bytes}
use Rattle.std.specs.List.{flat_map}
use Rattle.las_header.specs.declared.block.Header.{Header}
use Rattle.byte_numbers.specs.Bytes.{number_at, numbers_at}
use Rattle.las_header.specs.Formats.{format_number}
use Rattle.las_header.specs.Sizes.{HasRecordSizes}
use Rattle.las_header.specs.Written.{record_part}
use Rattle.byte_numbers.proofs.Places.{behind, byte_is, two_is, four_is, fours_are, length_all}

pub record RecordFields (h : Header) (bytes rest : List ℕ) : Type 0 where
  pub header_size : number_at 94 2 bytes ≡ h.header_size
  pub points_at : number_at 96 4 bytes ≡ h.points_at
  pub vlrs : number_at 100 4 bytes ≡ h.vlrs
  pub format : number_at 104 1 bytes ≡ format_number h.format
  pub record_length : number_at 105 2 bytes ≡ h.record_length
  pub legacy_count : number_at 107 4 bytes ≡ h.legacy_count
  pub legacy_returns : numbers_at 111 5 4 bytes ≡ h.legacy_returns
  pub end : drop 131 bytes ≡ rest

flat : (a b c d e f g rest : List ℕ) → ((((((a ++ b) ++ c) ++ d) ++ e) ++ f) ++ g) ++ rest ≡ a ++ (b ++ (c ++ (d ++ (e ++ (f ++ (g ++ rest))))))
flat a b c d e f g rest = simp append_assoc refl

-- the part with what follows it, piece by piece
pieces : (h : Header) (rest : List ℕ) → record_part h ++ rest ≡ to_le_bytes w16 h.header_size ++ (to_le_bytes w32 h.points_at ++ (to_le_bytes w32 h.vlrs
    ++ ((format_number h.format ∷ []) ++ (to_le_bytes w16 h.record_length ++ (to_le_bytes w32 h.legacy_count ++ (flat_map (to_le_bytes w32) h.legacy_returns ++ rest))))))
unfolding record_part
pieces h rest = flat (to_le_bytes w16 h.header_size) (to_le_bytes w32 h.points_at) (to_le_bytes w32 h.vlrs) (format_number h.format ∷ []) (to_le_bytes w16 h.record_length) (to_le_bytes w32 h.legacy_count) (flat_map (to_le_bytes w32) h.legacy_returns) rest

pub record_fields : (h : Header) (bytes rest : List ℕ) → HasRecordSizes h → drop 94 bytes ≡ record_part h ++ rest → RecordFields h bytes rest
record_fields h bytes rest sizes is =
    let x6 = flat_map (to_le_bytes w32) h.legacy_returns ++ rest in
    let x5 = to_le_bytes w32 h.legacy_count ++ x6 in
    let x4 = to_le_bytes w16 h.record_length ++ x5 in
    let x3 = format_number h.format ∷ x4 in
    let x2 = to_le_bytes w32 h.vlrs ++ x3 in
    let x1 = to_le_bytes w32 h.points_at ++ x2 in
    let header_size : drop 94 bytes ≡ to_le_bytes w16 h.header_size ++ x1 = is ∙ pieces h rest in
    let points_at : drop 96 bytes ≡ x1 = behind 94 2 bytes (to_le_bytes w16 h.header_size) x1 header_size refl in
    let vlrs : drop 100 bytes ≡ x2 = behind 96 4 bytes (to_le_bytes w32 h.points_at) x2 points_at refl in
    let format : drop 104 bytes ≡ x3 = behind 100 4 bytes (to_le_bytes w32 h.vlrs) x3 vlrs refl in
    let record_length : drop 105 bytes ≡ x4 = behind 104 1 bytes (format_number h.format ∷ []) x4 format refl in
    let legacy_count : drop 107 bytes ≡ x5 = behind 105 2 bytes (to_le_bytes w16 h.record_length) x5 record_length refl in
    let legacy_returns : drop 111 bytes ≡ x6 = behind 107 4 bytes (to_le_bytes w32 h.legacy_count) x6 legacy_count refl in
    let size : length (flat_map (to_le_bytes w32) h.legacy_returns) ≡ 20 = length_all (to_le_bytes w32) 4 (λ n. refl) h.legacy_returns ∙ ap (λ n. 4 * n) sizes.five_returns in
    record {
      header_size = two_is 94 h.header_size bytes x1 header_size sizes.header_size;
      points_at = four_is 96 h.points_at bytes x2 points_at sizes.points_at;
      vlrs = four_is 100 h.vlrs bytes x3 vlrs sizes.vlrs;
      format = byte_is 104 (format_number h.format) bytes x4 format;
      record_length = two_is 105 h.record_length bytes x5 record_length sizes.record_length;
      legacy_count = four_is 107 h.legacy_count bytes x6 legacy_count sizes.legacy_count;
      legacy_returns = ap (λ n. numbers_at 111 n 4 bytes) (sym sizes.five_returns) ∙ fours_are h.legacy_returns 111 bytes rest sizes.legacy_returns legacy_returns;
      end = behind 111 20 bytes (flat_map (to_le_bytes w32) h.legacy_returns) rest legacy_returns size;
    }
