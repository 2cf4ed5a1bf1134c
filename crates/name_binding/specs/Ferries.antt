-- Ferries: a dimension takes the value of another. A target may be a new name, which from there on is one of the pipeline's extra names.
use Rattle.std.specs.Prelude.{ℕ, ◌≡◌, ◌++◌, ◌==◌, Bool, nat_lt, take, is_some, List, [], ◌∷◌, length, Option, Some, None, if◌then◌else◌}
use Rattle.std.specs.List.{list_any}
use Rattle.cloud_points.specs.Dims.{kind_of}
use Rattle.cloud_points.specs.ExtraNames.{dim_in}
use Rattle.cloud_points.specs.Layouts.{is_same}
use Rattle.cloud_points.specs.declared.dims.Dim.{Dim}
use Rattle.expr_lang.specs.Formula as formula
use Rattle.expr_eval.specs.Bindings.{bound_dim, numeric_dim, dim_of}
use Rattle.expr_eval.specs.declared.assignment.Assignment.{Assignment}
use Rattle.option_texts.specs.declared.ferries.NamedFerry.{NamedFerry}
use Rattle.stage_names.specs.declared.faults.PipeFault.{PipeFault}
use Rattle.stage_names.specs.declared.faults.PipeFault.TheVariants.{DimUnknown, TooManyDims}
use Rattle.stage_names.specs.Faults.{or_else}
use Rattle.name_binding.specs.Refusals.{refused}
use Rattle.stage_options.specs.declared.options.Options.{Options}
use Rattle.stage_options.specs.Ferries.{ferries_in}

-- ---- extra names

-- the extra names behind one that is a target: a new one comes last
abbrev pub with_target : List (List ℕ) → List ℕ → List (List ℕ)
with_target names to = if is_some (dim_in to names) then names else names ++ to ∷ []

abbrev pub with_targets : List (List ℕ) → List NamedFerry → List (List ℕ)
with_targets names [] = names
with_targets names (f ∷ fs) = with_targets (with_target names f.to) fs

-- the extra names behind a stage with these options
abbrev pub names_behind : List (List ℕ) → Options → List (List ℕ)
names_behind names o = with_targets names (ferries_in o)

-- the extra names behind some first ones of these ferries, which were bound before another one, or what comes after them, was refused
abbrev pub AreBehindSome : List (List ℕ) → List NamedFerry → List (List ℕ) → Type 0
AreBehindSome names ferries behind = (k : ℕ) × (behind ≡ with_targets names (take k ferries))

-- ---- faults of stage i, of which the first in the order of the text is told

-- a target is a dimension with numbers, or a new name of at most 32 bytes, where there aren't 8 of them yet
abbrev pub target_refused : ℕ → List (List ℕ) → List ℕ → Option Dim → Option PipeFault
target_refused i names to (Some d) = refused i (numeric_dim to d (kind_of d))
target_refused i names to None =
    if nat_lt 32 (length to) then Some (DimUnknown i to) else (if length names == 8 then Some (TooManyDims i) else None)

-- a source is a dimension with numbers of those that points have
abbrev pub ferry_refused : ℕ → List (List ℕ) → (Dim → Bool) → NamedFerry → Option PipeFault
ferry_refused i names has f = or_else (refused i (bound_dim has names f.from)) (target_refused i names f.to (dim_in f.to names))

abbrev pub ferries_refused : ℕ → List (List ℕ) → (Dim → Bool) → List NamedFerry → Option PipeFault
ferries_refused i names has [] = None
ferries_refused i names has (f ∷ fs) = or_else (ferry_refused i names has f) (ferries_refused i (with_target names f.to) has fs)

-- ---- ferries with dimensions in place of names

-- one dimension takes the value of another
abbrev pub ferried : Dim → Dim → Assignment
ferried from to = record { target = to; value = formula.name from; only = None }

abbrev pub ferry_bound : List (List ℕ) → NamedFerry → Assignment
ferry_bound names f = ferried (dim_of names f.from) (dim_of (with_target names f.to) f.to)

abbrev pub ferries_bound : List (List ℕ) → List NamedFerry → List Assignment
ferries_bound names [] = []
ferries_bound names (f ∷ fs) = ferry_bound names f ∷ ferries_bound (with_target names f.to) fs

-- whether a dimension is the target of one of these
abbrev pub is_target_of : List Assignment → Dim → Bool
is_target_of list dim = list_any (λ a. is_same a.target dim) list

-- whether a stage with these options gives its points a dimension, behind these extra names
abbrev pub adds : List (List ℕ) → Options → Dim → Bool
adds names o dim = is_target_of (ferries_bound names (ferries_in o)) dim
