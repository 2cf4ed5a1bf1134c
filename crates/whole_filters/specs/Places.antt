-- The keys of points, and the places where they stand.
use Rattle.std.specs.Prelude.{ℤ, pos, neg_ℤ, ◌+ℤ◌, ◌-ℤ◌, ◌≡◌, ℕ, ◌+◌, ◌-◌, ◌*◌, ◌/◌, ◌^◌, ◌<◌, ◌≤◌, Bool, true, false, List, length, get_or}
use Rattle.cloud_points.specs.Points.{key_of}
use Rattle.cloud_points.specs.declared.dims.Dim.{Dim}
use Rattle.cloud_points.specs.declared.point.Point.{Point}
use Rattle.packed_chunk.specs.Keys.{short_key}
use Rattle.whole_filters.specs.declared.places.Entry.{Entry}

-- downwards the greatest key comes first
abbrev pub turned : Bool → ℤ → ℤ
turned true key = neg_ℤ (pos 1) -ℤ key
turned false key = key

-- the entries of the first n points: the key of each, with its place
pub record AreKeyed (dim : Dim) (down : Bool) (points : List Point) (n : ℕ) (entries : List Entry) : Type 0 where
  pub each : length entries ≡ n
  pub key : (k : ℕ) (d : Point) (e : Entry) → k < n → (get_or entries k e).key ≡ turned down (short_key dim (key_of (get_or points k d) dim))
  pub place : (k : ℕ) (e : Entry) → k < n → (get_or entries k e).place ≡ k

-- the same keys alone, raised by 2 ^ 63 to numbers from 0 on
pub record AreRaised (dim : Dim) (down : Bool) (points : List Point) (n : ℕ) (keys : List ℕ) : Type 0 where
  pub each : length keys ≡ n
  pub key : (k : ℕ) (d : Point) → k < n → pos (get_or keys k 0) ≡ turned down (short_key dim (key_of (get_or points k d) dim)) +ℤ pos (2 ^ 63)

-- a key, counted from the least one, without so many low bits
abbrev pub counted : ℕ → ℕ → ℕ → ℕ
counted least zeros key = (key - least) / 2 ^ zeros

-- these bits are 0, and a word of 64 bits has room for the others, and `bits` more for a place
pub record HasRoom (least zeros bits key : ℕ) : Type 0 where
  pub above : least ≤ key
  pub whole : counted least zeros key * 2 ^ zeros ≡ key - least
  pub below : counted least zeros key < 2 ^ (64 - bits)

-- so it is of each key, and `bits` are enough for each place
pub record FitWords (least zeros bits : ℕ) (keys : List ℕ) : Type 0 where
  pub shifts : zeros < 64
  pub narrow : bits < 64
  pub places : length keys ≤ 2 ^ bits
  pub room : (k : ℕ) → k < length keys → HasRoom least zeros bits (get_or keys k 0)

-- the words: the counted key in the high bits, and the place in the low ones
pub record AreWords (least zeros bits : ℕ) (keys words : List ℕ) : Type 0 where
  pub each : length words ≡ length keys
  pub word : (k : ℕ) → k < length keys → get_or words k 0 ≡ counted least zeros (get_or keys k 0) * 2 ^ bits + k
