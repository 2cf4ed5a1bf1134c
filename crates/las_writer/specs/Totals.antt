-- What a LAS writer's header says of its points as a whole.
use Rattle.std.specs.Prelude.{ℕ, zero, suc, ◌+◌, ◌-◌, ◌^◌, ℤ, pos, neg_ℤ, ◌==◌, nat_lt, if◌then◌else◌, List, [], ◌∷◌, length, map, get_or, set}
use Rattle.std.specs.List.{count_by, fold}
use Rattle.std.specs.Int.{int_min, int_max}
use Rattle.cloud_points.specs.Queue.{up_to_limit}
use Rattle.cloud_points.specs.declared.point.Point.{Point}
use Rattle.file_devices.specs.Counts.{saturating}
use Rattle.forward_rules.specs.declared.form.LasForm.{LasForm}
use Rattle.las_writer.specs.declared.totals.Totals.{Totals}
use Rattle.las_writer.specs.Records.{point_record, raw_number}

-- how many points have return number k, k + 1, .., so many numbers
unfoldable pub returns_from : ℕ → ℕ → List Point → List ℕ
returns_from zero k points = []
returns_from (suc n) k points = up_to_limit (count_by (λ p. p.return_number == k) points) ∷ returns_from n (k + 1) points

-- the least of numbers of 32 bits, and the greatest of these where there are none; the greatest of them, likewise
abbrev pub least : List ℤ → ℤ
least numbers = fold int_min (pos (2 ^ 31 - 1)) numbers

abbrev pub greatest : List ℤ → ℤ
greatest numbers = fold int_max (neg_ℤ (pos (2 ^ 31))) numbers

-- the raw numbers of points on an axis
abbrev pub raws : LasForm → ℕ → List Point → List ℤ
raws form axis points = map (λ p. raw_number axis (point_record form p)) points

-- the number of the points, how many have each return number from 0 to 15, and their least and greatest raw numbers
unfoldable pub totals_of : LasForm → List Point → Totals
totals_of form points = record {
  count = up_to_limit (length points);
  returns = returns_from 16 0 points;
  least = least (raws form 0 points) ∷ least (raws form 1 points) ∷ least (raws form 2 points) ∷ [];
  greatest = greatest (raws form 0 points) ∷ greatest (raws form 1 points) ∷ greatest (raws form 2 points) ∷ [];
}

-- a list of counts with one more at a place
abbrev pub one_more : List ℕ → ℕ → List ℕ
one_more counts at = if nat_lt at 16 then set counts at (saturating (get_or counts at 0) 1) else counts

abbrev pub number_on : List ℤ → ℕ → ℤ
number_on numbers axis = get_or numbers axis (pos 0)

-- the lesser numbers on the axes, of these and of those of a record; the greater ones, likewise
abbrev pub lesser : List ℤ → List ℤ → List ℤ
lesser a b = int_min (number_on a 0) (number_on b 0) ∷ int_min (number_on a 1) (number_on b 1) ∷ int_min (number_on a 2) (number_on b 2) ∷ []

abbrev pub greater : List ℤ → List ℤ → List ℤ
greater a b = int_max (number_on a 0) (number_on b 0) ∷ int_max (number_on a 1) (number_on b 1) ∷ int_max (number_on a 2) (number_on b 2) ∷ []

-- the three raw numbers of a record
abbrev pub raw_numbers : List ℕ → List ℤ
raw_numbers bytes = raw_number 0 bytes ∷ raw_number 1 bytes ∷ raw_number 2 bytes ∷ []

-- totals with a point of this return number and with this record
unfoldable pub with_record : Totals → ℕ → List ℕ → Totals
with_record t number bytes = record {
  count = saturating t.count 1;
  returns = one_more t.returns number;
  least = lesser t.least (raw_numbers bytes);
  greatest = greater t.greatest (raw_numbers bytes);
}
