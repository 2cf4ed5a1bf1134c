-- What each filter is.
use Rattle.std.specs.Prelude.{ℕ, Bool, true, false, Option, None}
use Rattle.cloud_points.specs.declared.dims.Dim.{Dim}
use Rattle.cloud_points.specs.declared.point.Point.{Point}
use Rattle.expr_lang.specs.Formula.{Formula}
use Rattle.stage_meanings.specs.Filtering.{Filtering, By, Merge}
use Rattle.stage_meanings.specs.Filters.{Rule, Each, Places}
use Rattle.stage_meanings.specs.Rules.{range, crop, assign, expression, decimation, head, returns, passing}
use Rattle.stage_meanings.specs.declared.reason.Reason.{Reason}
use Rattle.name_binding.specs.declared.binding.BoundFilter.{BoundFilter}
use Rattle.name_binding.specs.declared.binding.BoundFilter.TheVariants as filter

-- one row a filter: it judges by a rule the points that pass its `where`, or it merges all views
abbrev pub filtering_of : BoundFilter → Option (Formula Dim) → Filtering
filtering_of (filter.Range limits) only = By (range limits) only
filtering_of (filter.Crop shape outside) only = By (crop shape outside) only
filtering_of (filter.Assign assignments) only = By (assign assignments) only
filtering_of (filter.Expression c) only = By (expression c) only
filtering_of (filter.Decimation step offset limit) only = By (decimation step offset limit) only
filtering_of (filter.Head count) only = By (head count) only
filtering_of (filter.Returns groups) only = By (returns groups) only
filtering_of filter.Merge only = Merge

-- the rule; a merge has none, and each point goes on
abbrev pub rule_in : Filtering → Rule Point Reason
rule_in (By rule only) = rule
rule_in _ = passing

abbrev pub rule_of : BoundFilter → Rule Point Reason
rule_of f = rule_in (filtering_of f None)

-- whether a rule goes by positions
abbrev pub is_by_place : {P R : Type 0} → Rule P R → Bool
is_by_place (Each f) = false
is_by_place (Places test) = true

-- the positions that it takes; a rule that looks at each point by itself takes any
abbrev pub takes : {P R : Type 0} → Rule P R → ℕ → Bool
takes (Each f) = λ k. true
takes (Places test) = test
