-- How many records of a piece of a file are whole.
use Rattle.std.proofs.Common.{◌≡◌, ℕ, ◌+◌, ◌-◌, ◌*◌, ◌/◌, ◌<◌, ◌≤◌, min, List, length, take, drop, inl, inr, ap, sym, ◌∙◌, arith}
use Rattle.std.proofs.Math.Nat.{mul-add-div, mul-div_cancel_left, div-eq_of_lt, mul-div-le}
use Rattle.std.proofs.lemmas.Nat.{div_below, le-div}
use Rattle.std.proofs.lemmas.Bool.{cases_lt}
use Rattle.std.proofs.lemmas.List.{take-take}
use Rattle.las_header.specs.declared.block.Header.{Header}
use Rattle.las_reader.specs.Pieces.{HasRecords, whole_from}

-- behind g records
left_behind : (L d g : ℕ) → 0 < L → (d - L * g) / L ≡ d / L - g
left_behind L d g some = elim (cases_lt d (L * g)) [
  | inl short ↦
      let swap : L * g ≡ g * L = omega arith in
      let few : d / L < g = div_below d L g some (omega (arith, swap)) in
      let none : d - L * g ≡ 0 = omega arith in
      let nothing : 0 / L ≡ 0 = div-eq_of_lt some in
      let left : 0 ≡ d / L - g = omega arith in
      ap (λ n. n / L) none ∙ nothing ∙ left
  | inr long ↦
      let split : d ≡ L * g + (d - L * g) = omega arith in
      let sum : d / L ≡ g + (d - L * g) / L = ap (λ n. n / L) split ∙ mul-add-div some g (d - L * g) in
      omega arith
]

-- of so many records, of which so many bytes are there
whole_of : (L m left : ℕ) → 0 < L → min (L * m) left / L ≡ min m (left / L)
whole_of L m left some = elim (cases_lt left (L * m)) [
  | inl short ↦
      let swap : L * m ≡ m * L = omega arith in
      let few : left / L < m = div_below left L m some (omega (arith, swap)) in
      let is : min (L * m) left ≡ left = omega arith in
      let least : left / L ≡ min m (left / L) = omega arith in
      ap (λ n. n / L) is ∙ least
  | inr long ↦
      let split : left ≡ L * m + (left - L * m) = omega arith in
      let sum : left / L ≡ m + (left - L * m) / L = ap (λ n. n / L) split ∙ mul-add-div some m (left - L * m) in
      let is : min (L * m) left ≡ L * m = omega arith in
      let least : m ≡ min m (left / L) = omega arith in
      ap (λ n. n / L) is ∙ mul-div_cancel_left m some ∙ least
]

-- the records that n bytes from the place of record `given` hold
pub whole_is : (header : Header) (file : List ℕ) (given most n : ℕ) → 0 < header.record_length → n ≡ min (header.record_length * most) (length file - (header.points_at + header.record_length * given))
    → n / header.record_length ≡ whole_from header file given most
whole_is header file given most n some is =
    let L = header.record_length in
    let behind : length file - (header.points_at + L * given) ≡ length file - header.points_at - L * given = omega arith in
    ap (λ k. k / L) (is ∙ ap (min (L * most)) behind) ∙ whole_of L most (length file - header.points_at - L * given) some
    ∙ ap (min most) (left_behind L (length file - header.points_at) given some)

-- n bytes hold the records in front
pub has_records : (header : Header) (file : List ℕ) (given most n : ℕ) (buffer : List ℕ) → 0 < header.record_length → n ≡ min (header.record_length * most) (length file - (header.points_at + header.record_length * given))
    → take n buffer ≡ take n (drop (header.points_at + header.record_length * given) file) → HasRecords header file given most (n / header.record_length) buffer
has_records header file given most n buffer some is same =
    let L = header.record_length in
    let at = header.points_at + L * given in
    let within : L * (n / L) ≤ n = mul-div-le n L in
    record {
      count = whole_is header file given most n some is;
      bytes = sym (take-take (L * (n / L)) n buffer within) ∙ ap (take (L * (n / L))) same ∙ take-take (L * (n / L)) n (drop at file) within;
    }

-- so many bytes have room for a record
pub one_fits : (L n : ℕ) → 0 < L → L ≤ n → 1 ≤ n / L
one_fits L n some h = le-div 1 n L some (omega arith)
