-- Limits, one by one.
use Rattle.std.proofs.Common.{◌≡◌, ℕ, ◌+◌, ◌<◌, ◌≤◌, Bool, true, false, ◌&&◌, ◌||◌, List, [], ◌∷◌, length, take, get_or, None, refl, ap, ◌∙◌, eq-eqb, arith}
use Rattle.std.specs.List.{list_any}
use Rattle.std.proofs.lemmas.List.{take_more}
use Rattle.std.proofs.lemmas.List.Folds.{list_any-append}
use Rattle.cloud_points.specs.Dims.{number_of}
use Rattle.cloud_points.specs.Points.{get}
use Rattle.cloud_points.specs.declared.dims.Dim.{Dim}
use Rattle.cloud_points.specs.declared.dims.Dim.TheVariants.{X}
use Rattle.cloud_points.specs.declared.point.Point.{Point}
use Rattle.geo_tests.specs.declared.limits.Limit.{Limit}
use Rattle.geo_tests.specs.Limits.{is_within, one_holds, in_limits}
use Rattle.geo_tests.specs.Tests.{in_interval}

last_first : (a b : Bool) → a || (b || false) ≡ b || a
last_first true true = refl
last_first true false = refl
last_first false true = refl
last_first false false = refl

abbrev pub no_limit : Limit
no_limit = record { dim = X; interval = record { low = None; low_in = false; high = None; high_in = false; negated = false } }

pub within_more : (limits : List Limit) (i : ℕ) (p : Point) (dim : Dim) → i < length limits
    → one_holds (take (i + 1) limits) p dim ≡ is_within p dim (get_or limits i no_limit) || one_holds (take i limits) p dim
within_more limits i p dim lt =
    ap (list_any (is_within p dim)) (take_more limits i no_limit lt) ∙ list_any-append (is_within p dim) (take i limits) (get_or limits i no_limit ∷ [])
    ∙ last_first (one_holds (take i limits) p dim) (is_within p dim (get_or limits i no_limit))

alone : (same b : Bool) → same ≡ true → ((same && b) || false) && true ≡ b
alone true true e = refl
alone true false e = refl
alone false b e = absurd cc

-- where there is no other limit, that one decides
pub one_limit : (limits : List Limit) (p : Point) → 1 ≤ length limits → length limits < 2
    → in_limits p limits ≡ in_interval (get p (get_or limits 0 no_limit).dim) (get_or limits 0 no_limit).interval
one_limit [] p some few = absurd (omega arith)
one_limit (limit ∷ []) p some few = alone _ _ (eq-eqb (number_of limit.dim) (number_of limit.dim) refl)
one_limit (a ∷ b ∷ rest) p some few = absurd (omega arith)
