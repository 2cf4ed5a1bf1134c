use Rattle.std.proofs.Common.{◌≡◌, Err, sym, subst, ◌∙◌, rules}
use Rattle.cloud_points.specs.Layouts.{holds}
use Rattle.name_binding.specs.Binding.{where_refused}
use Rattle.stage_names.specs.Faults.{or_else, IsFaultOf}
use Rattle.stage_options.specs.Where.{only_of}
use Rattle.name_binding.proofs.Others.{filter_bound, filter_names}
use Rattle.name_binding.proofs.binding.Binder.stage.Goals as goal

pub returns-in_ok-only-in-WritersLas-clause-laid : goal.returns-in_ok-only-in-WritersLas-clause-laid
returns-in_ok-only-in-WritersLas-clause-laid c =
    let extra = c.in_ok-extra-in-WritersLas in
    λ own. (extra.ensures.laid own, extra.ensures.few)

pub returns-in_ok-only-in_default-clause-bound : goal.returns-in_ok-only-in_default-clause-bound
returns-in_ok-only-in_default-clause-bound c =
    let self = c.args.self.now in
    let other = c.in_default in
    rw (c.in_ok-filter-in_default.ensures.bound, c.in_ok-only-in_default.ensures.ok)
    (sym (filter_bound (holds self.layout.now) self.names.now c.args.ferries c.args.options.now other.not-ReadersLas other.not-FiltersPlug other.not-FiltersSort other.not-FiltersTail other.not-FiltersGroupby other.not-FiltersSplitter other.not-FiltersVoxeldownsize other.not-WritersLas other.not-WritersText other.not-WritersTally))

pub returns-in_ok-only-in_default-clause-ok : goal.returns-in_ok-only-in_default-clause-ok
returns-in_ok-only-in_default-clause-ok c =
    let self = c.args.self.now in
    let o = c.args.options.now in
    rw (filter_names self.stage self.names.now (holds self.layout.now) o c.in_default.not-FiltersSort c.in_default.not-FiltersGroupby c.in_default.not-WritersLas c.in_default.not-WritersText, c.in_ok-filter-in_default.ensures.ok) c.in_ok-only-in_default.ensures.none

pub returns-in_err-only-in_default : goal.returns-in_err-only-in_default
returns-in_err-only-in_default c =
    let self = c.args.self.now in
    let o = c.args.options.now in
    let err = c.in_err-only-in_default.field-0.0 in
    let none = filter_names self.stage self.names.now (holds self.layout.now) o c.in_default.not-FiltersSort c.in_default.not-FiltersGroupby c.in_default.not-WritersLas c.in_default.not-WritersText ∙ c.in_ok-filter-in_default.ensures.ok in
    let refused : c.from_residual-in_err-only-in_default.result ≡ Err err = search rules in
    rw refused (record {
      bound = tt;
      ok = tt;
      fault = subst (λ f. IsFaultOf (or_else f (where_refused self.stage self.names.now (holds self.layout.now) (only_of o))) err) (sym none) c.in_err-only-in_default.ensures.fault;
      laid = λ own. tt;
    })
