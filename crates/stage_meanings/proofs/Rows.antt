-- Worked examples of the definitions; a point is a number in the first ones.
use Rattle.std.specs.Prelude.{◌≡◌, ℕ, ◌*◌, ◌/◌, ◌%◌, ◌^◌, ◌==◌, nat_lt, Bool, true, false, if◌then◌else◌, pos, List, [], ◌∷◌, Option, Some, None, Result, Ok, Err, refl}
use Rattle.cloud_points.specs.Flows.{Flow}
use Rattle.cloud_points.specs.Points.{zero_point}
use Rattle.cloud_points.specs.declared.dims.Dim.{Dim}
use Rattle.cloud_points.specs.declared.dims.Dim.TheVariants.{Red, Classification}
use Rattle.cloud_points.specs.declared.faults.PointFault.TheVariants as fault
use Rattle.cloud_points.specs.declared.faults.StageFault.TheVariants as stage
use Rattle.cloud_points.specs.declared.point.Point.{Point}
use Rattle.expr_lang.specs.Formula.{Formula, number, name, binary}
use Rattle.expr_lang.specs.declared.op.BinaryOp.TheVariants.{Equal, Plus, Over}
use Rattle.expr_eval.specs.declared.assignment.Assignment.{Assignment}
use Rattle.stage_meanings.specs.declared.reason.Reason.{Reason}
use Rattle.stage_meanings.specs.declared.reason.Reason.TheVariants.{DivideByZero, NotHeld, TooMany}
use Rattle.stage_meanings.specs.Filtering.{By, Admit, filtered, filtered_fault}
use Rattle.stage_meanings.specs.Filters.{changed, on_view, streamed, streamed_fault, merged}
use Rattle.stage_meanings.specs.Rules.{head, expression, assign}

abbrev all : ℕ → Result Bool Reason
all p = Ok true

abbrev even : ℕ → Result Bool Reason
even p = Ok (p % 2 == 0)

-- it has no value at 0
abbrev not_zero : ℕ → Result Bool Reason
not_zero p = if p == 0 then Err DivideByZero else Ok true

-- a hundred by the point
abbrev hundredth : ℕ → Result ℕ Reason
hundredth p = if p == 0 then Err DivideByZero else Ok (100 / p)

abbrev ten : List ℕ
ten = 0 ∷ 1 ∷ 2 ∷ 3 ∷ 4 ∷ 5 ∷ 6 ∷ 7 ∷ 8 ∷ 9 ∷ []

-- the odd ones don't pass, and stay; of the even ones the first two go on
head_of_the_even_ones : on_view (head 2) even ten ≡ 0 ∷ 1 ∷ 2 ∷ 3 ∷ 5 ∷ 7 ∷ 9 ∷ []
head_of_the_even_ones = refl

-- each view by itself
head_begins_anew_with_each_view : streamed (head 2) all (record { views = ten ∷ (7 ∷ []) ∷ []; open_view = 3 ∷ 4 ∷ 5 ∷ []; cut = true })
    ≡ record { views = (0 ∷ 1 ∷ []) ∷ (7 ∷ []) ∷ []; open_view = 3 ∷ 4 ∷ []; cut = true }
head_begins_anew_with_each_view = refl

-- the number counts over all views, and the flow ends before that point
abbrev two_views : Flow ℕ
two_views = record { views = (5 ∷ 4 ∷ []) ∷ (3 ∷ 0 ∷ 2 ∷ []) ∷ []; open_view = []; cut = false }

a_change_that_has_no_value : streamed_fault (changed hundredth) all two_views ≡ Some (stage.Point (fault.DivideByZero 3))
a_change_that_has_no_value = refl

what_stands_before_it : streamed (changed hundredth) all two_views ≡ record { views = (20 ∷ 25 ∷ []) ∷ []; open_view = 33 ∷ []; cut = true }
what_stands_before_it = refl

-- a `where` is asked of each point, also past the count of a head
a_where_that_has_no_value : streamed_fault (head 1) not_zero two_views ≡ Some (stage.Point (fault.DivideByZero 3))
a_where_that_has_no_value = refl

-- where it doesn't hold, no change is tried
a_point_that_is_passed_over : streamed_fault (changed hundredth) (λ p. Ok (nat_lt 0 p)) two_views ≡ None
a_point_that_is_passed_over = refl

merged_views : merged two_views ≡ record { views = (5 ∷ 4 ∷ 3 ∷ 0 ∷ 2 ∷ []) ∷ []; open_view = []; cut = false }
merged_views = refl

merged_nothing : merged {P = ℕ} (record { views = []; open_view = []; cut = false }) ≡ record { views = [] ∷ []; open_view = []; cut = false }
merged_nothing = refl

merged_cut : merged {P = ℕ} (record { views = (1 ∷ []) ∷ []; open_view = 2 ∷ []; cut = true }) ≡ record { views = []; open_view = 1 ∷ 2 ∷ []; cut = true }
merged_cut = refl

-- ---- points

abbrev point : ℕ → ℕ → Point
point red class = record zero_point { red = red; classification = class }

abbrev units : ℕ → Formula Dim
units n = number (pos (n * 10 ^ 9))

-- `Red == 1`
abbrev is_red : Formula Dim
is_red = binary Equal (name Red) (units 1)

-- `Classification = Classification + 250 WHERE Red == 1`, `Classification = Classification + 1`
abbrev two_assignments : List Assignment
two_assignments =
    record { target = Classification; value = binary Plus (name Classification) (units 250); only = Some is_red }
    ∷ record { target = Classification; value = binary Plus (name Classification) (units 1); only = None } ∷ []

abbrev three : Flow Point
three = record { views = (point 1 3 ∷ []) ∷ []; open_view = point 0 9 ∷ point 1 5 ∷ []; cut = false }

red_ones : filtered (By (expression is_red) None) three ≡ record { views = (point 1 3 ∷ []) ∷ []; open_view = point 1 5 ∷ []; cut = false }
red_ones = refl

-- the third would have the class 256
assigned_in_turn : filtered (By (assign two_assignments) None) three ≡ record { views = (point 1 254 ∷ []) ∷ []; open_view = point 0 10 ∷ []; cut = true }
assigned_in_turn = refl

out_of_range : filtered_fault (By (assign two_assignments) None) three ≡ Some (stage.Point (fault.ValueOutOfRange 2 Classification))
out_of_range = refl

-- `1 / Red == 1` has no value at the second
no_value : filtered_fault (By (assign two_assignments) (Some (binary Equal (binary Over (units 1) (name Red)) (units 1)))) three ≡ Some (stage.Point (fault.DivideByZero 1))
no_value = refl

-- a writer that can't write a class of 9, and has none to write
not_written : filtered_fault (Admit (λ k p. if p.classification == 9 then Some (NotHeld Classification) else None) (Some is_red)) three ≡ None
not_written = refl

not_held : filtered_fault (Admit (λ k p. if p.classification == 9 then Some (NotHeld Classification) else None) None) three ≡ Some (stage.Point (fault.NotHeld 1 Classification))
not_held = refl

-- a file that counts one point; of all views only those that pass the `where` are counted
abbrev only_one : ℕ → Point → Option Reason
only_one k p = if nat_lt k 1 then None else Some TooMany

too_many : filtered_fault (Admit only_one (Some is_red)) three ≡ Some (stage.Point (fault.TooMany 2))
too_many = refl

before_too_many : filtered (Admit only_one (Some is_red)) three ≡ record { views = (point 1 3 ∷ []) ∷ []; open_view = point 0 9 ∷ []; cut = true }
before_too_many = refl
