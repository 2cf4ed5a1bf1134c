-- What the code's types stand for.
use Rattle.std.specs.Prelude.{List, map}
use Rattle.serde_json.specs.Data.{Data, string}
use Rattle.serde_json.specs.View.{view}
use Rattle.stage_options.specs.declared.rules.Allowed.{Allowed}
use Rattle.stage_options.specs.declared.rules.Allowed.TheVariants as allowed
use Rattle.stage_options.specs.declared.rules.Rule.{Rule}
use Rattle.stage_options.specs.declared.rules.Rule.TheVariants.{Required, Optional, OneOf, AlongWith, Apart}
use Rattle.stage_options.specs.declared.values.Given.{Given}
use Rattle.stage_options.specs.declared.values.Given.TheVariants.{Name, Json}
use Rattle.stage_options.specs.declared.role.Role.{Role}
use Rattle.stage_options.specs.declared.role.Role.TheVariants as role
use Rattle.stage_options.specs.Roles as roles
use Rattle.stage_options.specs.Rules as rules

abbrev pub allowed_view : Allowed → rules.Allowed
allowed_view (allowed.Whole low high) = rules.whole low high
allowed_view (allowed.Decimal low high) = rules.decimal low high
allowed_view allowed.Format = rules.format
allowed_view allowed.Truth = rules.truth
allowed_view (allowed.Sized low high) = rules.sized low high
allowed_view allowed.Text = rules.any_text
allowed_view (allowed.Either one other) = rules.either_text one.now other.now
allowed_view (allowed.Exactly text) = rules.this_text text.now
allowed_view allowed.Columns = rules.columns
allowed_view allowed.Forward = rules.forward
allowed_view allowed.Ranges = rules.ranges
allowed_view allowed.Bounds = rules.bounds
allowed_view allowed.Polygon = rules.polygon
allowed_view allowed.Point = rules.point
allowed_view allowed.Ferries = rules.ferries
allowed_view allowed.ExtraDims = rules.extra_dims
allowed_view allowed.Groups = rules.groups
allowed_view allowed.Condition = rules.condition
allowed_view allowed.Assignments = rules.assignments
allowed_view allowed.Source = rules.source
allowed_view allowed.Target = rules.target

abbrev pub rule_view : Rule → rules.Rule
rule_view (Required name allowed) = rules.required name.now (allowed_view allowed)
rule_view (Optional name allowed) = rules.optional name.now (allowed_view allowed)
rule_view (OneOf name allowed before behind) = rules.either name.now (allowed_view allowed) (map (λ s. s.now) before.now) (map (λ s. s.now) behind.now)
rule_view (AlongWith name allowed other) = rules.going_with name.now (allowed_view allowed) other.now
rule_view (Apart name allowed these other those) = rules.kept_apart name.now (allowed_view allowed) (allowed_view these) other.now (allowed_view those)

abbrev pub rules_view : List Rule → List rules.Rule
rules_view rs = map rule_view rs

abbrev pub given_view : Given → Data
given_view (Name text) = string text.now
given_view (Json value) = view value.now

abbrev pub role_view : Role → roles.Role
role_view (role.Reads name) = roles.Reads name.now
role_view role.Filters = roles.Filters
role_view role.Gathers = roles.Gathers
role_view (role.Writes name) = roles.Writes name.now
role_view (role.WritesEach name) = roles.WritesEach name.now
