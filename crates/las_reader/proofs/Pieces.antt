-- Points of records, piece by piece.
use Rattle.std.proofs.Common.{◌≡◌, ℕ, zero, suc, ◌+◌, ◌-◌, ◌*◌, ◌<◌, ◌≤◌, min, List, [], ◌∷◌, ◌++◌, length, take, drop, get_or, slice_range, refl, ap, sym, ◌∙◌, arith, add-one, add-zero, drop-drop, append_assoc, append-nil, length-drop}
use Rattle.std.proofs.Math.Nat.{mul-add, mul-le-mul_left}
use Rattle.std.proofs.lemmas.List.{drop-take, take-take, length-take-le}
use Rattle.std.proofs.Math.Seq.{take-append_seam}
use Rattle.cloud_points.specs.declared.point.Point.{Point}
use Rattle.las_header.specs.declared.block.Header.{Header}
use Rattle.las_reader.specs.Records.{point_of, point_with, record_at, points_from}

pub points_none : (read : List ℕ → Point) (size : ℕ) (k : ℕ) (b : List ℕ) → points_from read size k 0 b ≡ []
unfolding points_from
points_none read size k b = refl

pub points_more : (read : List ℕ → Point) (size : ℕ) (k n : ℕ) (b : List ℕ) → points_from read size k (n + 1) b ≡ points_from read size k n b ++ read (record_at size (k + n) b) ∷ []
unfolding points_from
points_more read size k zero b = rw (add-zero k) refl
points_more read size k (suc n) b =
    let next : k + 1 + n ≡ k + suc n = omega arith in
    ap (λ j. points_from read size k j b) (add-one (suc n))
    ∙ ap (λ ps. read (record_at size k b) ∷ ps) (ap (λ j. points_from read size (k + 1) j b) (sym (add-one n)) ∙ points_more read size (k + 1) n b ∙ ap (λ j. points_from read size (k + 1) n b ++ read (record_at size j b) ∷ []) next)

pub length-points_from : (read : List ℕ → Point) (size : ℕ) (k n : ℕ) (b : List ℕ) → length (points_from read size k n b) ≡ n
unfolding points_from
length-points_from read size k zero b = refl
length-points_from read size k (suc n) b = ap (λ j. suc j) (length-points_from read size (k + 1) n b)

pub drop-points_from : (read : List ℕ → Point) (size : ℕ) (j k n : ℕ) (b : List ℕ) → drop j (points_from read size k n b) ≡ points_from read size (k + j) (n - j) b
unfolding points_from
drop-points_from read size zero k n b = let stay : k ≡ k + 0 = omega arith in let all : n ≡ n - 0 = omega arith in ap (λ i. points_from read size i n b) stay ∙ ap (λ i. points_from read size (k + 0) i b) all
drop-points_from read size (suc j) k zero b = let none : 0 ≡ 0 - suc j = omega arith in ap (λ i. points_from read size (k + suc j) i b) none
drop-points_from read size (suc j) k (suc n) b =
    let at : k + 1 + j ≡ k + suc j = omega arith in
    let left : n - j ≡ suc n - suc j = omega arith in
    drop-points_from read size j (k + 1) n b ∙ ap (λ i. points_from read size i (n - j) b) at ∙ ap (λ i. points_from read size (k + suc j) i b) left

pub take-points_from : (read : List ℕ → Point) (size : ℕ) (m k n : ℕ) (b : List ℕ) → take m (points_from read size k n b) ≡ points_from read size k (min m n) b
unfolding points_from
take-points_from read size zero k n b = let none : 0 ≡ min 0 n = omega arith in ap (λ i. points_from read size k i b) none
take-points_from read size (suc m) k zero b = let none : 0 ≡ min (suc m) 0 = omega arith in ap (λ i. points_from read size k i b) none
take-points_from read size (suc m) k (suc n) b =
    let more : suc (min m n) ≡ min (suc m) (suc n) = omega arith in
    ap (λ ps. read (record_at size k b) ∷ ps) (take-points_from read size m (k + 1) n b) ∙ ap (λ i. points_from read size k i b) more

-- the points of more records stand behind those of the first
pub points-append : (read : List ℕ → Point) (size : ℕ) (n m k : ℕ) (b : List ℕ) → points_from read size k n b ++ points_from read size (k + n) m b ≡ points_from read size k (n + m) b
unfolding points_from
points-append read size zero m k b = let here : k + 0 ≡ k = omega arith in let all : m ≡ 0 + m = omega arith in ap (λ j. points_from read size j m b) here ∙ ap (λ j. points_from read size k j b) all
points-append read size (suc n) m k b =
    let next : k + suc n ≡ k + 1 + n = omega arith in
    let all : suc (n + m) ≡ suc n + m = omega arith in
    ap (λ ps. read (record_at size k b) ∷ ps) (ap (λ j. points_from read size (k + 1) n b ++ points_from read size j m b) next ∙ points-append read size n m (k + 1) b)
    ∙ ap (λ j. points_from read size k j b) all

-- a record of a piece that begins at record k
pub record_of_piece : (L j k size : ℕ) (b : List ℕ) → L * j + L ≤ size → record_at L j (take size (drop (L * k) b)) ≡ record_at L (k + j) b
record_of_piece L j k size b h =
    let split : size ≡ L * j + (size - L * j) = omega arith in
    let place : L * k + L * j ≡ L * (k + j) = sym (mul-add L k j) in
    let enough : L ≤ size - L * j = omega arith in
    ap (λ n. take L (drop (L * j) (take n (drop (L * k) b)))) split
    ∙ ap (take L) (drop-take (L * j) (size - L * j) (drop (L * k) b))
    ∙ take-take L (size - L * j) (drop (L * j) (drop (L * k) b)) enough
    ∙ ap (take L) (drop-drop (L * j) (L * k) b)
    ∙ ap (λ n. take L (drop n b)) place

piece_from : (read : List ℕ → Point) (each : ℕ) (n j k size : ℕ) (b : List ℕ) → each * (j + n) ≤ size → points_from read each j n (take size (drop (each * k) b)) ≡ points_from read each (k + j) n b
unfolding points_from
piece_from read each zero j k size b h = refl
piece_from read each (suc n) j k size b h =
    let all : each * (j + suc n) ≡ each * j + (each + each * n) = omega (arith, mul-add each j (suc n), mul-add each 1 n) in
    let here : each * j + each ≤ size = omega arith in
    let after : j + 1 + n ≡ j + suc n = omega arith in
    let there : each * (j + 1 + n) ≤ size = rw after h in
    let next : k + (j + 1) ≡ k + j + 1 = omega arith in
    ap (λ r. read r ∷ points_from read each (j + 1) n (take size (drop (each * k) b))) (record_of_piece each j k size b here)
    ∙ ap (λ ps. read (record_at each (k + j) b) ∷ ps) (piece_from read each n (j + 1) k size b there ∙ ap (λ i. points_from read each i n b) next)

-- the points of a piece of n records that begins at record k
points_of_piece : (read : List ℕ → Point) (each : ℕ) (n k size : ℕ) (b : List ℕ) → each * n ≤ size → points_from read each 0 n (take size (drop (each * k) b)) ≡ points_from read each k n b
points_of_piece read each n k size b h = let fits : each * (0 + n) ≤ size = omega arith in piece_from read each n 0 k size b fits ∙ ap (λ i. points_from read each i n b) (add-zero k)

-- the points of a buffer that holds a piece of the file
pub points_of_buffer : (read : List ℕ → Point) (header : Header) (n given : ℕ) (buffer file : List ℕ) → take (header.record_length * n) buffer ≡ take (header.record_length * n) (drop (header.points_at + header.record_length * given) file)
    → points_from read header.record_length 0 n buffer ≡ points_from read header.record_length given n (drop header.points_at file)
points_of_buffer read header n given buffer file same =
    let L = header.record_length in
    let fits : L * n ≤ L * n = omega arith in
    let none : L * 0 ≡ 0 = omega arith in
    sym (points_of_piece read header.record_length n 0 (L * n) buffer fits) ∙ ap (λ m. points_from read header.record_length 0 n (take (L * n) (drop m buffer))) none
    ∙ ap (points_from read header.record_length 0 n) (same ∙ ap (take (L * n)) (sym (drop-drop (L * given) header.points_at file))) ∙ points_of_piece read header.record_length n given (L * n) (drop header.points_at file) fits

-- what is the same in front is so further in front
pub same_front : (L c n : ℕ) (a b : List ℕ) → c ≤ n → take (L * n) a ≡ take (L * n) b → take (L * c) a ≡ take (L * c) b
same_front L c n a b h same =
    let less : L * c ≤ L * n = mul-le-mul_left L h in
    sym (take-take (L * c) (L * n) a less) ∙ ap (take (L * c)) same ∙ take-take (L * c) (L * n) b less

pub record_is : (L k : ℕ) (b : List ℕ) → slice_range b (L * k) (L * k + L) ≡ record_at L (0 + k) b
record_is L k b =
    let size : L * k + L - L * k ≡ L = omega arith in
    let same : k ≡ 0 + k = omega arith in
    ap (λ n. take n (drop (L * k) b)) size ∙ ap (λ i. record_at L i b) same

-- one more point
pub one_more : (header : Header) (k : ℕ) (b : List ℕ) (before ps : List Point) (p : Point) → ps ≡ before ++ points_from (point_of header) header.record_length 0 k b
    → p ≡ point_of header (slice_range b (header.record_length * k) (header.record_length * k + header.record_length)) → ps ++ p ∷ [] ≡ before ++ points_from (point_of header) header.record_length 0 (k + 1) b
one_more header k b before ps p were is =
    ap (λ qs. qs ++ p ∷ []) were ∙ append_assoc before (points_from (point_of header) header.record_length 0 k b) (p ∷ [])
    ∙ ap (λ q. before ++ (points_from (point_of header) header.record_length 0 k b ++ q ∷ [])) (is ∙ ap (point_of header) (record_is header.record_length k b))
    ∙ ap (λ l. before ++ l) (sym (points_more (point_of header) header.record_length 0 k b))

-- the points of the first k records stand behind others, in a list of at least so many
pub record Decoded (header : Header) (k : ℕ) (records : List ℕ) (before points : List Point) (at size : ℕ) : Type 0 where
  pub points_are : points ≡ before ++ points_from (point_of header) header.record_length 0 k records
  pub there : at + k ≤ size

pub decoded_none : (header : Header) (records : List ℕ) (at : ℕ) (items : List Point) (size : ℕ) → at ≤ size → Decoded header 0 records (take at items) (take (at + 0) items) at size
decoded_none header records at items size h =
    let same : at + 0 ≡ at = omega arith in
    record {
      points_are = ap (λ n. take n items) same ∙ sym (ap (λ l. take at items ++ l) (points_none (point_of header) header.record_length 0 records) ∙ append-nil (take at items));
      there = omega arith;
    }

-- without fields a record is read as before
pub plain_point : (header : Header) → point_with header [] ≡ point_of header
unfolding point_with
plain_point header = refl

-- the bytes of a record have so many
pub record_long : (L k n : ℕ) (b : List ℕ) → k < n → L * n ≤ length b → length (record_at L k b) ≡ L
record_long L k n b h room =
    let next : L * (k + 1) ≤ L * n = (let more : k + 1 ≤ n = omega arith in mul-le-mul_left L more) in
    let sum : L * (k + 1) ≡ L * k + L = omega arith in
    length-take-le L (drop (L * k) b) (omega (arith, length-drop (L * k) b, next, sum, room))

-- point k of those of n records
pub get_or-points_from : (read : List ℕ → Point) (size : ℕ) (i k n : ℕ) (b : List ℕ) (p : Point) → i < n → get_or (points_from read size k n b) i p ≡ read (record_at size (k + i) b)
unfolding points_from
get_or-points_from read size i k zero b p h = absurd (omega arith)
get_or-points_from read size zero k (suc n) b p h = let same : k ≡ k + 0 = omega arith in ap (λ j. read (record_at size j b)) same
get_or-points_from read size (suc i) k (suc n) b p h =
    let next : k + 1 + i ≡ k + suc i = omega arith in
    get_or-points_from read size i (k + 1) n b p (omega arith) ∙ ap (λ j. read (record_at size j b)) next

-- what stands in front of points that were put behind it stays
pub front_stays : (at count : ℕ) (old new points : List Point) → at ≤ length old → take (at + count) new ≡ take at old ++ points → take at new ≡ take at old
front_stays at count old new points h e =
    let front : length (take at old) ≡ at = length-take-le at old h in
    sym (take-take at (at + count) new (omega arith)) ∙ ap (take at) e ∙ ap (λ n. take n (take at old ++ points)) (sym front) ∙ take-append_seam (take at old) points
