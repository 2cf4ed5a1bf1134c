-- The first fields of a header, from the signature to the creation year, read from its bytes.
use Rattle.std.proofs.Common.{◌≡◌, ℕ, List, [], ◌∷◌, ◌++◌, drop, refl, ◌∙◌, append_assoc, w16}
use Rattle.std.specs.Int.{to_le_bytes}
use Rattle.las_header.specs.declared.block.Header.{Header}
use Rattle.byte_numbers.specs.Bytes.{number_at, piece}
use Rattle.las_header.specs.Sizes.{HasFileSizes}
use Rattle.las_header.specs.Written.{file_part}
use Rattle.byte_numbers.proofs.Places.{behind, piece_is, byte_is, two_is}

pub record FileFields (h : Header) (bytes rest : List ℕ) : Type 0 where
  pub signature : piece 0 4 bytes ≡ h.signature
  pub source_id : number_at 4 2 bytes ≡ h.source_id
  pub encoding : number_at 6 2 bytes ≡ h.encoding
  pub guid : piece 8 16 bytes ≡ h.guid
  pub major : number_at 24 1 bytes ≡ h.major
  pub minor : number_at 25 1 bytes ≡ h.minor
  pub system : piece 26 32 bytes ≡ h.system
  pub software : piece 58 32 bytes ≡ h.software
  pub day : number_at 90 2 bytes ≡ h.day
  pub year : number_at 92 2 bytes ≡ h.year
  pub end : drop 94 bytes ≡ rest

flat : (a b c d e f g i j rest : List ℕ) → (((((((a ++ b) ++ c) ++ d) ++ e) ++ f) ++ g) ++ i ++ j) ++ rest ≡ a ++ (b ++ (c ++ (d ++ (e ++ (f ++ (g ++ (i ++ (j ++ rest))))))))
flat a b c d e f g i j rest = simp append_assoc refl

-- the part with what follows it, piece by piece
pieces : (h : Header) (rest : List ℕ) → file_part h ++ rest ≡ h.signature ++ (to_le_bytes w16 h.source_id ++ (to_le_bytes w16 h.encoding
    ++ (h.guid ++ ((h.major ∷ h.minor ∷ []) ++ (h.system ++ (h.software ++ (to_le_bytes w16 h.day ++ (to_le_bytes w16 h.year ++ rest))))))))
unfolding file_part
pieces h rest = flat h.signature (to_le_bytes w16 h.source_id) (to_le_bytes w16 h.encoding) h.guid (h.major ∷ h.minor ∷ []) h.system h.software (to_le_bytes w16 h.day) (to_le_bytes w16 h.year) rest

pub file_fields : (h : Header) (bytes rest : List ℕ) → HasFileSizes h → bytes ≡ file_part h ++ rest → FileFields h bytes rest
file_fields h bytes rest sizes is =
    let x8 = to_le_bytes w16 h.year ++ rest in
    let x7 = to_le_bytes w16 h.day ++ x8 in
    let x6 = h.software ++ x7 in
    let x5 = h.system ++ x6 in
    let x4 = h.minor ∷ x5 in
    let x3 = h.guid ++ (h.major ∷ x4) in
    let x2 = to_le_bytes w16 h.encoding ++ x3 in
    let x1 = to_le_bytes w16 h.source_id ++ x2 in
    let signature : drop 0 bytes ≡ h.signature ++ x1 = is ∙ pieces h rest in
    let source_id : drop 4 bytes ≡ x1 = behind 0 4 bytes h.signature x1 signature sizes.signature in
    let encoding : drop 6 bytes ≡ x2 = behind 4 2 bytes (to_le_bytes w16 h.source_id) x2 source_id refl in
    let guid : drop 8 bytes ≡ x3 = behind 6 2 bytes (to_le_bytes w16 h.encoding) x3 encoding refl in
    let major : drop 24 bytes ≡ h.major ∷ x4 = behind 8 16 bytes h.guid (h.major ∷ x4) guid sizes.guid in
    let minor : drop 25 bytes ≡ x4 = behind 24 1 bytes (h.major ∷ []) x4 major refl in
    let system : drop 26 bytes ≡ x5 = behind 25 1 bytes (h.minor ∷ []) x5 minor refl in
    let software : drop 58 bytes ≡ x6 = behind 26 32 bytes h.system x6 system sizes.system in
    let day : drop 90 bytes ≡ x7 = behind 58 32 bytes h.software x7 software sizes.software in
    let year : drop 92 bytes ≡ x8 = behind 90 2 bytes (to_le_bytes w16 h.day) x8 day refl in
    record {
      signature = piece_is 0 4 bytes h.signature x1 signature sizes.signature;
      source_id = two_is 4 h.source_id bytes x2 source_id sizes.source_id;
      encoding = two_is 6 h.encoding bytes x3 encoding sizes.encoding;
      guid = piece_is 8 16 bytes h.guid (h.major ∷ x4) guid sizes.guid;
      major = byte_is 24 h.major bytes x4 major;
      minor = byte_is 25 h.minor bytes x5 minor;
      system = piece_is 26 32 bytes h.system x6 system sizes.system;
      software = piece_is 58 32 bytes h.software x7 software sizes.software;
      day = two_is 90 h.day bytes x8 day sizes.day;
      year = two_is 92 h.year bytes rest year sizes.year;
      end = behind 92 2 bytes (to_le_bytes w16 h.year) rest year refl;
    }
