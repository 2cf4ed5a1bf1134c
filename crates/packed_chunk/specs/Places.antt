-- Where points stand, and where they go.
use Rattle.std.specs.Prelude.{◌≡◌, ℕ, ◌-◌, ◌<◌, ◌≤◌, eqb, leb, ltb, not, ◌&&◌, if◌then◌else◌, List, [], length, get_or, filter}
use Rattle.std.specs.List.{range_with_len}
use Rattle.cloud_points.specs.Points.{zero_point}
use Rattle.cloud_points.specs.declared.layout.Layout.{Layout}
use Rattle.cloud_points.specs.declared.point.Point.{Point}
use Rattle.packed_chunk.specs.Unpacked.{unpacked_at}

-- the numbers below n, each at one place alone
pub record ArePlaces (n : ℕ) (places : List ℕ) : Type 0 where
  pub each : length places ≡ n
  pub low : (k : ℕ) → k < n → get_or places k 0 < n
  pub once : (j k : ℕ) → j < n → k < n → get_or places j 0 ≡ get_or places k 0 → j ≡ k

-- of so many places from one on those that aren't their own source
abbrev pub unsettled : List ℕ → ℕ → ℕ → List ℕ
unsettled sources start count = filter (λ k. not (eqb (get_or sources k 0) k)) (range_with_len start count)

-- the rows of their points are in hand
abbrev pub AreInHand : Layout → ℕ → ℕ → List Point → List ℕ → List (List ℕ) → Type 0
AreInHand layout start end points sources hands = (k : ℕ) → start ≤ k → k < end → (get_or sources k 0 ≡ k → ⊥)
    → unpacked_at layout 0 (get_or hands (k - start) []) ≡ get_or points k zero_point

-- what goes to each of some places is in hand: the point of its source, by its row where that was in hand before
abbrev pub AreGoing : Layout → ℕ → ℕ → List Point → List ℕ → List (List ℕ) → List ℕ → List (List ℕ) → Type 0
AreGoing layout start end points sources hands places going = (i : ℕ) → i < length places →
    let source = get_or sources (get_or places i 0) 0 in
    unpacked_at layout 0 (get_or going i []) ≡ (if leb start source && ltb source end
    then unpacked_at layout 0 (get_or hands (source - start) []) else get_or points source zero_point)

-- the sources of points still name the point for each place, after some moved: at the places from one to another these
-- stand there, and what stood at its place stays
pub record IsSettled (start end : ℕ) (points : List Point) (sources : List ℕ) (after : List Point) (left : List ℕ) : Type 0 where
  pub many : length after ≡ length points
  pub places : ArePlaces (length points) left
  pub same : (k : ℕ) → k < length points → get_or after (get_or left k 0) zero_point ≡ get_or points (get_or sources k 0) zero_point
  pub here : (k : ℕ) → start ≤ k → k < end → get_or left k 0 ≡ k
  pub stays : (k : ℕ) → k < length points → get_or sources k 0 ≡ k → get_or left k 0 ≡ k
