-- Dimensions in place of names, without regard to the case of letters.
use Rattle.std.specs.Prelude.{◌≡◌, ℕ, Bool, List, ⊤, Option, Some, None, Result, Ok, Err, if◌then◌else◌}
use Rattle.std.specs.Option.{option_map, unwrap_or}
use Rattle.cloud_points.specs.Dims.{kind_of}
use Rattle.cloud_points.specs.ExtraNames.{dim_in}
use Rattle.cloud_points.specs.declared.dims.Dim.{Dim}
use Rattle.cloud_points.specs.declared.dims.Dim.TheVariants.{X}
use Rattle.cloud_points.specs.declared.dims.Kind.{Kind}
use Rattle.cloud_points.specs.declared.dims.Kind.TheVariants.{Fixed, Whole, Word}
use Rattle.text_bytes.specs.Steps.{and_then}
use Rattle.expr_lang.specs.declared.expr.Assign.{Assign}
use Rattle.expr_lang.specs.Formula.{Formula, renamed, number, name, minus, not, binary}
use Rattle.expr_eval.specs.declared.assignment.Assignment.{Assignment}
use Rattle.expr_eval.specs.declared.bind.BindErr.{BindErr}
use Rattle.expr_eval.specs.declared.bind.BindErr.TheVariants.{Unknown, NotNumeric, Memory}

-- ---- one name

-- a dimension whose values are words has no numbers
abbrev pub numeric_dim : List ℕ → Dim → Kind → Result Dim BindErr
numeric_dim n d Word = Err (NotNumeric n)
numeric_dim n d Fixed = Ok d
numeric_dim n d Whole = Ok d

abbrev pub held_dim : (Dim → Bool) → List ℕ → Option Dim → Result Dim BindErr
held_dim has n (Some d) = if has d then numeric_dim n d (kind_of d) else Err (Unknown n)
held_dim has n None = Err (Unknown n)

-- the dimension under a name, of those that points have
abbrev pub bound_dim : (Dim → Bool) → List (List ℕ) → List ℕ → Result Dim BindErr
bound_dim has names n = held_dim has n (dim_in n names)

-- ---- a formula, of whose refusals the first from left to right is answered

abbrev pub bound_in : (Dim → Bool) → List (List ℕ) → Formula (List ℕ) → Result (Formula Dim) BindErr
bound_in has names (number n) = Ok (number n)
bound_in has names (name n) = and_then (bound_dim has names n) (λ d. Ok (name d))
bound_in has names (minus a) = and_then (bound_in has names a) (λ x. Ok (minus x))
bound_in has names (not a) = and_then (bound_in has names a) (λ x. Ok (not x))
bound_in has names (binary o a b) = and_then (bound_in has names a) (λ x. and_then (bound_in has names b) (λ y. Ok (binary o x y)))

-- want of memory apart, the error is the answer
abbrev pub IsAnswered : {A : Type 0} → BindErr → Result A BindErr → Type 0
IsAnswered Memory r = ⊤
IsAnswered (Unknown n) r = r ≡ Err (Unknown n)
IsAnswered (NotNumeric n) r = r ≡ Err (NotNumeric n)

-- ---- where a formula is bound

-- the dimension of a name, where it is one
abbrev pub dim_of : List (List ℕ) → List ℕ → Dim
dim_of names n = unwrap_or (dim_in n names) X

-- ---- assignments: the target, then the value, then the condition

abbrev pub bound_only : (Dim → Bool) → List (List ℕ) → Option (Formula (List ℕ)) → Result (Option (Formula Dim)) BindErr
bound_only has names None = Ok None
bound_only has names (Some f) = and_then (bound_in has names f) (λ x. Ok (Some x))

abbrev pub bound_assign : (Dim → Bool) → List (List ℕ) → Assign → Result Assignment BindErr
bound_assign has names a =
    and_then (bound_dim has names a.target) (λ d. and_then (bound_in has names a.value) (λ v. and_then (bound_only has names a.only) (λ o.
    Ok (record { target = d; value = v; only = o }))))

-- where it is bound
abbrev pub assign_of : List (List ℕ) → Assign → Assignment
assign_of names a = record {
  target = dim_of names a.target;
  value = renamed (dim_of names) a.value;
  only = option_map (renamed (dim_of names)) a.only;
}
