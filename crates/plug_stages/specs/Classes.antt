-- How many points of each class there are.
use Rattle.std.specs.Prelude.{ℕ, ◌+◌, ◌-◌, ◌==◌, nat_le, ℤ, pos, nat_abs, List, [], ◌∷◌, ◌++◌, map, take, length, set, get_or, count_by, replicate, codes, decimal, if◌then◌else◌}
use Rattle.std.specs.List.{range_with_len}
use Rattle.cloud_points.specs.Queue.{up_to_limit}
use Rattle.cloud_points.specs.declared.point.Point.{Point}

-- a class and how many points have it, up to the greatest u64
abbrev pub class_text : ℕ × ℕ → List ℕ
class_text c = decimal c.0 ++ codes ":" ++ decimal c.1

-- with blanks between them
abbrev pub spaced : List (ℕ × ℕ) → List ℕ
spaced [] = []
spaced (c ∷ []) = class_text c
spaced (c ∷ cs) = class_text c ++ codes " " ++ spaced cs

-- what stands behind the first eight of so many: that there is none, or how many more they are
abbrev pub rest_text : ℕ → List ℕ
rest_text came =
    if came == 0 then codes "empty"
    else if nat_le came 8 then []
    else codes " and " ++ decimal (came - 8) ++ codes " more"

abbrev pub told_text : List (ℕ × ℕ) → List ℕ
told_text cs = spaced (take 8 cs) ++ rest_text (length cs)

-- of the classes from k on those that came, by how many points each has
abbrev pub came_from : ℕ → List ℕ → List (ℕ × ℕ)
came_from k [] = []
came_from k (n ∷ ns) = if n == 0 then came_from (k + 1) ns else (k, n) ∷ came_from (k + 1) ns

-- of each class how many of the points have it
abbrev pub class_counts : List Point → List ℕ
class_counts points = map (λ c. up_to_limit (count_by (λ p. p.classification == c) points)) (range_with_len 0 256)

-- the least eight classes of points, and how many more there are; or that there is no point
abbrev pub classes_text : List Point → List ℕ
classes_text points = told_text (came_from 0 (class_counts points))

-- ---- the same as a step: remembered is of each class how many points had it

abbrev pub none_counted : List ℤ
none_counted = map pos (replicate 256 0)

abbrev pub one_counted : ℤ → ℤ
one_counted n = pos (up_to_limit (nat_abs n + 1))

abbrev pub count_with : List ℤ → Point → List ℤ
count_with s p = set s p.classification (one_counted (get_or s p.classification (pos 0)))

abbrev pub count_text : List ℤ → List ℕ
count_text s = told_text (came_from 0 (map nat_abs s))
