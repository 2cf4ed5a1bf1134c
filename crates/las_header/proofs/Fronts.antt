-- A header is read of the block in front of a file alone.
use Rattle.std.proofs.Common.{◌≡◌, ℕ, ◌+◌, ◌≤◌, ◌<◌, ◌==◌, ◌&&◌, Bool, true, false, nat_le, List, length, take, codes, Ok, refl, sym, ap, ◌∙◌, arith, inl, inr}
use Rattle.std.proofs.lemmas.Bool.{cases_lt, le-leb}
use Rattle.std.proofs.lemmas.List.{take-take, take_all, length-take-le}
use Rattle.std.specs.Str.{bytes_eq}
use Rattle.las_header.specs.declared.faults.HeaderFault.TheVariants.{NotLas, VersionNotRead, HeaderSize}
use Rattle.byte_numbers.specs.Bytes.{number_at}
use Rattle.byte_numbers.proofs.Fronts.{number_front}
use Rattle.las_header.specs.Headers.{minor_of, has_signature, has_version, has_block, block_of, header_in, header_of}
use Rattle.las_header.specs.Steps.{◌>>=◌, wants}
use Rattle.las_header.specs.Versions.{block_size, is_version}
use Rattle.las_header.proofs.Standing.{block_is_long, block_is_some}

module _ (file : List ℕ) where
  -- what stands in front of it, as far as its version asks
  abbrev size : ℕ
  size = block_size (minor_of file)

  abbrev front : List ℕ
  front = take size file

  -- numbers and the signature in front are those of the file
  number_same : (at n : ℕ) → at + n ≤ size → number_at at n front ≡ number_at at n file
  number_same at n room = number_front n at (at + n) front file (omega arith) (take-take (at + n) size file room)

  signature_same : 26 ≤ size → has_signature front ≡ has_signature file
  signature_same some = ap (bytes_eq (codes "LASF")) (take-take 4 size file (omega arith))

  second : (a b : Bool) → a && b ≡ true → b ≡ true
  second true b e = e
  second false b e = absurd cc

  block_same : size < length file → block_of front ≡ block_of file
  unfolding block_of
  block_same longer = by_version (has_version file) refl
    where
      some : 26 ≤ size
      some = block_is_some (minor_of file)

      length_is : length front ≡ size
      length_is = length-take-le size file (omega arith)

      minor_same : minor_of front ≡ minor_of file
      minor_same = number_same 25 1 (omega (arith, some))

      version_same : has_version front ≡ has_version file
      version_same = λ i. (number_same 24 1 (omega (arith, some)) i == 1) && is_version (minor_same i)

      long_front : nat_le 26 (length front) ≡ true
      long_front = le-leb 26 (length front) (omega (arith, some, length_is))

      long_file : nat_le 26 (length file) ≡ true
      long_file = le-leb 26 (length file) (omega (arith, some))

      by_version : (v : Bool) → has_version file ≡ v → block_of front ≡ block_of file
      by_version false w =
          (λ i. wants (signature_same some i) NotLas >>= (λ _. wants (long_front i) HeaderSize >>= (λ _. wants ((version_same ∙ w) i) VersionNotRead >>= (λ _. wants (has_block front) HeaderSize >>= (λ _. Ok (take (block_size (minor_of front)) front))))))
          ∙ sym (λ i. wants (has_signature file) NotLas >>= (λ _. wants (long_file i) HeaderSize >>= (λ _. wants (w i) VersionNotRead >>= (λ _. wants (has_block file) HeaderSize >>= (λ _. Ok front)))))
      by_version true w =
          let known : 227 ≤ size = block_is_long (minor_of file) (second (number_at 24 1 file == 1) (is_version (minor_of file)) w) in
          let block : has_block front ≡ has_block file =
          (λ i. nat_le (block_size (minor_same i)) (length front) && nat_le (block_size (minor_same i)) (number_same 94 2 (omega (arith, known)) i))
          ∙ ap (λ b. b && nat_le size (number_at 94 2 file)) (le-leb size (length front) (omega (arith, length_is)) ∙ sym (le-leb size (length file) (omega arith))) in
          let whole : take (block_size (minor_of front)) front ≡ front = ap (λ m. take (block_size m) front) minor_same ∙ take-take size size file (omega arith) in
          (λ i. wants (signature_same some i) NotLas >>= (λ _. wants ((long_front ∙ sym long_file) i) HeaderSize >>= (λ _. wants (version_same i) VersionNotRead >>= (λ _. wants (block i) HeaderSize >>= (λ _. Ok (whole i))))))

-- so the header of a file is that of what its version asks for
pub header_of_front : (file : List ℕ) → header_of (take (block_size (minor_of file)) file) ≡ header_of file
header_of_front file = elim (cases_lt (block_size (minor_of file)) (length file)) [
  | inl longer ↦ ap (λ r. r >>= header_in) (block_same file longer)
  | inr all ↦ ap header_of (take_all (block_size (minor_of file)) file all)
]
