-- Bytes that stand for a header without a fault are read as it.
use Rattle.std.proofs.Common.{◌≡◌, ℕ, ◌<◌, ◌==◌, ◌&&◌, true, nat_lt, nat_le, List, length, take, codes, Some, Ok, sym, ap, ◌∙◌, arith}
use Rattle.std.proofs.Math.Seq.{take-length}
use Rattle.std.specs.Str.{bytes_eq}
use Rattle.std.proofs.lemmas.Bool.{le-leb}
use Rattle.las_header.specs.declared.block.Header.{Header}
use Rattle.las_header.specs.declared.form.Format.{Format}
use Rattle.las_header.specs.declared.faults.HeaderFault.TheVariants.{NotLas, VersionNotRead, HeaderSize, Compressed, FormatNotRead, RecordTooShort, PointsInHeader}
use Rattle.byte_numbers.specs.Bytes.{number_at}
use Rattle.las_header.specs.Formats.{format_of, format_size}
use Rattle.las_header.specs.Headers.{minor_of, has_signature, has_version, has_block, block_of, holds_fields, has_points_behind, format_known, record_format, header_with, header_in, header_of}
use Rattle.las_header.specs.Versions.{block_size, is_version, takes_format}
use Rattle.las_header.proofs.Standing.{block_is_long}
use Rattle.las_header.specs.Standing.{Stands, HasNoFault}
use Rattle.las_header.specs.Steps.{◌>>=◌, wants}

-- a number that has a format isn't one of compressed points
plain : (n : ℕ) (f : Format) → format_of n ≡ Some f → n < 128
plain n f e = grind arith

-- the fields that decide on a fault
record Deciding (h : Header) (bytes : List ℕ) : Type 0 where
  signature : take 4 bytes ≡ h.signature
  major : number_at 24 1 bytes ≡ h.major
  minor : number_at 25 1 bytes ≡ h.minor
  header_size : number_at 94 2 bytes ≡ h.header_size
  points_at : number_at 96 4 bytes ≡ h.points_at
  record_length : number_at 105 2 bytes ≡ h.record_length

deciding : (h : Header) (bytes : List ℕ) → header_with h.format h.scale h.offset bytes ≡ h → Deciding h bytes
unfolding header_with
deciding h bytes is = record {
  signature = ap (λ (x : Header). x.signature) is;
  major = ap (λ (x : Header). x.major) is;
  minor = ap (λ (x : Header). x.minor) is;
  header_size = ap (λ (x : Header). x.header_size) is;
  points_at = ap (λ (x : Header). x.points_at) is;
  record_length = ap (λ (x : Header). x.record_length) is;
}

record_again : (h : Header) (bytes : List ℕ) → Stands bytes h → Deciding h bytes → HasNoFault h → record_format bytes ≡ Ok h.format
unfolding record_format
record_again h bytes s d n =
    let low : nat_lt (number_at 104 1 bytes) 128 ≡ true = le-leb _ 128 (plain (number_at 104 1 bytes) h.format s.format) in
    let takes : takes_format (minor_of bytes) h.format ≡ true = ap (λ m. takes_format m h.format) d.minor ∙ n.format in
    let long : holds_fields h.format bytes ≡ true = ap (nat_le (format_size h.format)) d.record_length ∙ le-leb (format_size h.format) h.record_length n.long in
    let behind : has_points_behind bytes ≡ true = (λ i. nat_le (d.header_size i) (d.points_at i)) ∙ le-leb h.header_size h.points_at n.behind in
    (λ i. wants (low i) Compressed >>= (λ _. format_known (s.format i) >>= (λ format. wants (takes_format (minor_of bytes) format) FormatNotRead >>= (λ _. wants (holds_fields format bytes) RecordTooShort >>= (λ _. wants (has_points_behind bytes) PointsInHeader >>= (λ _. Ok format))))))
    ∙ (λ i. wants (takes i) FormatNotRead >>= (λ _. wants (long i) RecordTooShort >>= (λ _. wants (behind i) PointsInHeader >>= (λ _. Ok h.format))))

block_again : (h : Header) (bytes : List ℕ) → Stands bytes h → Deciding h bytes → HasNoFault h → block_of bytes ≡ Ok bytes
unfolding block_of
block_again h bytes s d n =
    let signature : has_signature bytes ≡ true = ap (λ l. bytes_eq (codes "LASF") l) (d.signature ∙ n.signature) in
    let size : block_size (minor_of bytes) ≡ length bytes = ap block_size d.minor ∙ sym s.size in
    let whole : take (block_size (minor_of bytes)) bytes ≡ bytes = ap (λ k. take k bytes) size ∙ take-length bytes in
    let long : nat_le 26 (length bytes) ≡ true = le-leb 26 (length bytes) (let b = block_is_long h.minor n.version in omega (arith, b, s.size)) in
    let version : has_version bytes ≡ true = (λ i. ((d.major ∙ n.major) i == 1) && is_version (d.minor i)) ∙ n.version in
    let all : nat_le (block_size (minor_of bytes)) (length bytes) ≡ true = le-leb (block_size (minor_of bytes)) (length bytes) (omega (arith, size)) in
    let given : nat_le (block_size (minor_of bytes)) (number_at 94 2 bytes) ≡ true = (λ i. nat_le (block_size (d.minor i)) (d.header_size i)) ∙ le-leb (block_size h.minor) h.header_size n.block in
    let block : has_block bytes ≡ true = λ i. all i && given i in
    (λ i. wants (signature i) NotLas >>= (λ _. wants (long i) HeaderSize >>= (λ _. wants (version i) VersionNotRead >>= (λ _. wants (block i) HeaderSize >>= (λ _. Ok (take (block_size (minor_of bytes)) bytes))))))
    ∙ ap (λ b. Ok b) whole

pub is_read_back : (h : Header) (bytes : List ℕ) → Stands bytes h → HasNoFault h → header_of bytes ≡ Ok h
unfolding header_in
is_read_back h bytes s n =
    let d = deciding h bytes s.fields in
    let format = record_again h bytes s d n in
    ap (λ r. r >>= header_in) (block_again h bytes s d n)
    ∙ (λ i. format i >>= (λ f. s.scale i >>= (λ scale. s.offset i >>= (λ offset. Ok (header_with f scale offset bytes)))))
    ∙ ap (λ x. Ok x) s.fields
