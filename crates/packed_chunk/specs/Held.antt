-- Points that are held in packed rows.
use Rattle.std.specs.Prelude.{◌≡◌, ℕ, zero, suc, ◌+◌, ◌-◌, ◌*◌, ◌/◌, ◌%◌, ◌^◌, ◌<◌, ◌≤◌, nat_lt, if◌then◌else◌, List, [], ◌∷◌, ◌++◌, length, get_or}
use Rattle.cloud_points.specs.declared.layout.Layout.{Layout}
use Rattle.cloud_points.specs.declared.point.Point.{Point}
use Rattle.packed_chunk.specs.Rows.{row_size}
use Rattle.packed_chunk.specs.Unpacked.{unpacked_at}

-- points, and the layout of their rows
pub record Held : Type 0 where
  pub layout : Layout
  pub points : List Point

-- the piece in which a row stands: the first 128 pieces have 8 rows each, and those behind them 1024
unfoldable pub piece_of : ℕ → ℕ
piece_of place = if nat_lt place 1024 then place / 8 else 127 + place / 1024

-- its place in this piece
unfoldable pub offset_of : ℕ → ℕ
offset_of place = if nat_lt place 1024 then place % 8 else place % 1024

-- how many rows a piece has
unfoldable pub rows_of : ℕ → ℕ
rows_of piece = if nat_lt piece 128 then 8 else 1024

-- the point of a row, where so many pieces at the front are gone
unfoldable pub point_at : Layout → ℕ → List (List ℕ) → ℕ → Point
point_at layout gone pieces place = unpacked_at layout (offset_of place * row_size layout) (get_or pieces (piece_of place - gone) [])

-- so many points, by their places
abbrev pub listed_to : (ℕ → Point) → ℕ → List Point
listed_to point zero = []
listed_to point (suc n) = listed_to point n ++ point n ∷ []

unfoldable pub listed : (ℕ → Point) → ℕ → List Point
listed point n = listed_to point n

-- the points of rows from a place on
abbrev pub points_from : Layout → ℕ → List (List ℕ) → ℕ → ℕ → List Point
points_from layout gone pieces first len = listed (λ k. point_at layout gone pieces (first + k)) len

-- the pieces have the size of their rows
abbrev pub AreSized : Layout → ℕ → List (List ℕ) → Type 0
AreSized layout gone pieces = (i : ℕ) → i < length pieces → length (get_or pieces i []) ≡ rows_of (gone + i) * row_size layout

-- the pieces have all rows up to an end, and the row at the end stands at most in the next piece
pub record ArePieces (layout : Layout) (gone : ℕ) (pieces : List (List ℕ)) (first end : ℕ) : Type 0 where
  pub sized : AreSized layout gone pieces
  pub begins : gone ≤ piece_of first
  pub held : (place : ℕ) → place < end → piece_of place < gone + length pieces
  pub next : piece_of end ≤ gone + length pieces
  pub most : end ≤ 2 ^ 56

-- pieces with room at a place: as they were, or with one of a size behind them
pub record HasRoom (old : List (List ℕ)) (piece size : ℕ) (new : List (List ℕ)) : Type 0 where
  pub kept : (i : ℕ) → i < length old → get_or new i [] ≡ get_or old i []
  pub more : length old ≤ length new
  pub room : piece < length new
  pub blank : (i : ℕ) → i < length new → length old ≤ i → (i ≡ piece) × (length (get_or new i []) ≡ size)
