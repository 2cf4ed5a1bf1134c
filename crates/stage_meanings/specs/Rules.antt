-- The rules of the filters.
use Rattle.std.specs.Prelude.{ℕ, ◌-◌, ◌%◌, ◌==◌, nat_le, nat_lt, ℤ, Bool, true, ◌&&◌, ◌||◌, if◌then◌else◌, List, [], ◌∷◌, Option, Some, None, Result, Ok, Err}
use Rattle.cloud_points.specs.declared.point.Point.{Point}
use Rattle.cloud_points.specs.declared.dims.Dim.{Dim}
use Rattle.cloud_points.specs.Points.{point_with}
use Rattle.option_texts.specs.declared.groups.Groups.{Groups}
use Rattle.geo_tests.specs.declared.limits.Limit.{Limit}
use Rattle.geo_tests.specs.declared.shape.Shape.{Shape}
use Rattle.geo_tests.specs.Limits.{in_limits}
use Rattle.geo_tests.specs.Tests.{different, in_shape}
use Rattle.expr_lang.specs.Formula.{Formula}
use Rattle.expr_eval.specs.declared.assignment.Assignment.{Assignment}
use Rattle.stage_meanings.specs.declared.reason.Reason.{Reason}
use Rattle.stage_meanings.specs.declared.reason.Reason.TheVariants.{OutOfRange}
use Rattle.stage_meanings.specs.Conditions.{condition, worth, passes}
use Rattle.stage_meanings.specs.Filters.{◌>>=◌, Rule, Each, Places, tested, changed}

-- the first so many
abbrev pub head : {P R : Type 0} → ℕ → Rule P R
head count = Places (λ k. nat_lt k count)

-- those at the positions offset, offset + step, offset + 2 * step and so on that are below a limit, where there is one
abbrev pub is_below : Option ℕ → ℕ → Bool
is_below None k = true
is_below (Some limit) k = nat_lt k limit

abbrev pub is_step : ℕ → ℕ → Option ℕ → ℕ → Bool
is_step step offset limit k = is_below limit k && nat_le offset k && ((k - offset) % step == 0)

abbrev pub decimation : {P R : Type 0} → ℕ → ℕ → Option ℕ → Rule P R
decimation step offset limit = Places (is_step step offset limit)

-- whether return r of the n of a pulse is in one of these groups: the only one is in its own, and of several the first, the last, and
-- those between
abbrev pub is_grouped : Groups → ℕ → ℕ → Bool
is_grouped groups n r =
    (groups.only && (n == 1)) || (nat_lt 1 n && ((groups.first && (r == 1)) || (groups.last && (r == n)) || (groups.intermediate && nat_lt 1 r && nat_lt r n)))

abbrev pub returns : {R : Type 0} → Groups → Rule Point R
returns groups = tested (λ p. Ok (is_grouped groups p.number_of_returns p.return_number))

-- those that are within limits
abbrev pub range : {R : Type 0} → List Limit → Rule Point R
range limits = tested (λ p. Ok (in_limits p limits))

-- those that are in a shape, or those outside
abbrev pub crop : {R : Type 0} → Shape → Bool → Rule Point R
crop shape outside = tested (λ p. Ok (different outside (in_shape p shape)))

-- those for which a condition holds
abbrev pub expression : Formula Dim → Rule Point Reason
expression c = tested (condition c)

-- each point as it is
abbrev pub passing : {P R : Type 0} → Rule P R
passing = Each (λ p. Ok (Some p))

-- ---- assignments

-- a dimension takes a value, where its range holds it
abbrev pub or_out_of_range : Dim → Option Point → Result Point Reason
or_out_of_range d None = Err (OutOfRange d)
or_out_of_range d (Some q) = Ok q

abbrev pub put : Dim → ℤ → Point → Result Point Reason
put d v p = or_out_of_range d (point_with p d v)

-- a dimension takes a value of the point, if the point passes the assignment's own `where`
abbrev pub assigned : Assignment → Point → Result Point Reason
assigned a p = passes a.only p >>= λ b. if b then (worth a.value p >>= λ v. put a.target v p) else Ok p

-- changes one after the other
abbrev pub in_turn : {C P R : Type 0} → (C → P → Result P R) → List C → P → Result P R
in_turn change [] p = Ok p
in_turn change (c ∷ cs) p = change c p >>= in_turn change cs

-- each point, with its assignments made
abbrev pub assign : List Assignment → Rule Point Reason
assign parts = changed (in_turn assigned parts)
