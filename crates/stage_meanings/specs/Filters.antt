-- What a filter makes of whole views and flows.
use Rattle.std.specs.Prelude.{ℕ, ◌+◌, Bool, true, false, not, ◌||◌, if◌then◌else◌, List, [], ◌∷◌, map, filter, flat_map, take, is_some, Option, Some, None, Result, Ok, Err}
use Rattle.std.specs.List.{filter_map}
use Rattle.std.specs.Option.{option_map}
use Rattle.cloud_points.specs.Queue.{up_to_limit}
use Rattle.cloud_points.specs.Flows.{Flow, points, upto, map_views}
use Rattle.cloud_points.specs.declared.faults.StageFault.{StageFault}
use Rattle.cloud_points.specs.declared.faults.StageFault.TheVariants as stage
use Rattle.cloud_points.specs.declared.faults.PointFault.{PointFault}
use Rattle.cloud_points.specs.declared.faults.PointFault.TheVariants as fault
use Rattle.stage_meanings.specs.declared.reason.Reason.{Reason}
use Rattle.stage_meanings.specs.declared.reason.Reason.TheVariants.{OutOfRange, NotHeld, DivideByZero, ArithOverflow, TooMany}

-- ---- what a filter does with the points that pass its `where`

infixl 10 ◌>>=◌
abbrev pub ◌>>=◌ : {A B R : Type 0} → Result A R → (A → Result B R) → Result B R
Ok x >>= f = f x
Err r >>= f = Err r

-- it looks at each point by itself and says what it becomes, if it goes on; or it takes the points at some positions
pub data Rule (P R : Type 0) : Type 0 where
  Each : (P → Result (Option P) R) → Rule P R
  Places : (ℕ → Bool) → Rule P R

abbrev pub keeps : {P : Type 0} → Bool → P → Option P
keeps true p = Some p
keeps false p = None

-- those for which a test holds go on
abbrev pub tested : {P R : Type 0} → (P → Result Bool R) → Rule P R
tested test = Each (λ p. test p >>= λ b. Ok (keeps b p))

-- each goes on, changed
abbrev pub changed : {P R : Type 0} → (P → Result P R) → Rule P R
changed change = Each (λ p. change p >>= λ q. Ok (Some q))

-- ---- one point

-- a position is no matter of the point alone
abbrev pub becomes : {P R : Type 0} → Rule P R → P → Result (Option P) R
becomes (Each f) p = f p
becomes (Places test) p = Ok (Some p)

-- a point that doesn't pass stays as it is
abbrev pub at_point : {P R : Type 0} → Rule P R → (P → Result Bool R) → P → Result (Option P) R
at_point rule only p = only p >>= λ b. if b then becomes rule p else Ok (Some p)

abbrev pub reason_of : {A R : Type 0} → Result A R → Option R
reason_of (Ok x) = None
reason_of (Err r) = Some r

abbrev pub or_nothing : {P R : Type 0} → Result (Option P) R → Option P
or_nothing (Ok o) = o
or_nothing (Err r) = None

-- it is true, and not without a value
abbrev pub is_true : {R : Type 0} → Result Bool R → Bool
is_true (Ok b) = b
is_true (Err r) = false

-- ---- a view

-- each point with its position among those that pass, counted from k
abbrev pub positions : {P : Type 0} → (P → Bool) → ℕ → List P → List (P × ℕ)
positions passing k [] = []
positions passing k (p ∷ ps) = (p, k) ∷ positions passing (if passing p then up_to_limit (k + 1) else k) ps

-- those that don't pass stay, and of the others those at the chosen positions
abbrev pub chosen : {P : Type 0} → (P → Bool) → (ℕ → Bool) → ℕ → List P → List P
chosen passing test k view = map (λ q. q.0) (filter (λ q. not (passing q.0) || test q.1) (positions passing k view))

abbrev pub on_view : {P R : Type 0} → Rule P R → (P → Result Bool R) → List P → List P
on_view (Each f) only view = filter_map (λ p. or_nothing (at_point (Each f) only p)) view
on_view (Places test) only view = chosen (λ p. is_true (only p)) test 0 view

-- ---- a flow

-- the least number from n on of a point for which there is a reason
abbrev pub found : {R : Type 0} → ℕ → Option R → Option (ℕ × R) → Option (ℕ × R)
found n (Some r) later = Some (n, r)
found n None later = later

abbrev pub first_from : {P R : Type 0} → (P → Option R) → ℕ → List P → Option (ℕ × R)
first_from why n [] = None
first_from why n (p ∷ ps) = found n (why p) (first_from why (n + 1) ps)

-- why a point can't be judged: its `where`, its condition or its change has no value
abbrev pub why : {P R : Type 0} → Rule P R → (P → Result Bool R) → P → Option R
why rule only p = reason_of (at_point rule only p)

-- the least number of a point that can't be judged
abbrev pub stop_of : {P R : Type 0} → Rule P R → (P → Result Bool R) → Flow P → Option (ℕ × R)
stop_of rule only flow = first_from (why rule only) 0 (points flow)

-- of points those before the one of this number, and all where there is none
abbrev pub points_before : {P R : Type 0} → Option (ℕ × R) → List P → List P
points_before None points = points
points_before (Some s) points = take s.0 points

-- the same of a flow
abbrev pub before_stop : {P R : Type 0} → Option (ℕ × R) → Flow P → Flow P
before_stop None flow = flow
before_stop (Some s) flow = upto flow s.0

-- each view by itself, up to the first point that can't be judged
abbrev pub streamed : {P R : Type 0} → Rule P R → (P → Result Bool R) → Flow P → Flow P
streamed rule only flow = map_views (on_view rule only) (before_stop (stop_of rule only flow) flow)

-- ---- points that a filter admits by how many passed before them

-- the least number from n on of a point at which the `where` has no value
abbrev pub first_unjudged : {P R : Type 0} → (P → Result Bool R) → ℕ → List P → Option (ℕ × R)
first_unjudged only n points = first_from (λ p. reason_of (only p)) n points

-- the reason against a point, by the one there is if it passes; where its `where` has no value, why that is
abbrev pub if_passing : {R : Type 0} → Result Bool R → Option R → Option R
if_passing (Ok true) reason = reason
if_passing (Ok false) reason = None
if_passing (Err r) reason = Some r

-- of a point with its position among those that pass
abbrev pub refused_by : {P R : Type 0} → (ℕ → P → Option R) → (P → Result Bool R) → P × ℕ → Option R
refused_by against only q = if_passing (only q.0) (against q.1 q.0)

-- the least number from n on of a point that isn't admitted, where k passed before these points
abbrev pub first_refused : {P R : Type 0} → (ℕ → P → Option R) → (P → Result Bool R) → ℕ → ℕ → List P → Option (ℕ × R)
first_refused against only n k points = first_from (refused_by against only) n (positions (λ p. is_true (only p)) k points)

-- the same of a flow: those that passed are counted over all views
abbrev pub refusal_of : {P R : Type 0} → (ℕ → P → Option R) → (P → Result Bool R) → Flow P → Option (ℕ × R)
refusal_of against only flow = first_refused against only 0 0 (points flow)

-- all views as they are, up to that point
abbrev pub admitted : {P R : Type 0} → (ℕ → P → Option R) → (P → Result Bool R) → Flow P → Flow P
admitted against only flow = before_stop (refusal_of against only flow) flow

-- ---- points that are admitted in each view by itself

-- the same where those that passed are counted in each view anew
abbrev pub refusal_in_views : {P R : Type 0} → (ℕ → P → Option R) → (P → Result Bool R) → Flow P → Option (ℕ × R)
refusal_in_views against only flow = first_from (refused_by against only) 0 (flat_map (positions (λ p. is_true (only p)) 0) flow.views)

-- nothing, cut
abbrev pub nothing_cut : {P : Type 0} → Flow P
nothing_cut = record { views = []; open_view = []; cut = true }

-- all complete views as they are, where each of their points is admitted; else nothing goes on, nor of a cut flow
abbrev pub admitted_in_views : {P R : Type 0} → (ℕ → P → Option R) → (P → Result Bool R) → Flow P → Flow P
admitted_in_views against only flow =
    if flow.cut || is_some (refusal_in_views against only flow) then nothing_cut
    else record { views = flow.views; open_view = []; cut = false }

-- ---- all views as one

-- one view with all points; of a cut flow only an open one
abbrev pub merged : {P : Type 0} → Flow P → Flow P
merged flow = if flow.cut then record { views = []; open_view = points flow; cut = true }
    else record { views = points flow ∷ []; open_view = []; cut = false }

-- ---- faults

-- the fault of the point with this number
abbrev pub point_fault : ℕ → Reason → PointFault
point_fault n (OutOfRange d) = fault.ValueOutOfRange n d
point_fault n (NotHeld d) = fault.NotHeld n d
point_fault n DivideByZero = fault.DivideByZero n
point_fault n ArithOverflow = fault.ArithOverflow n
point_fault n TooMany = fault.TooMany n

abbrev pub fault_at : ℕ → Reason → StageFault
fault_at n r = stage.Point (point_fault n r)

-- its number is told up to the greatest u64
abbrev pub told_stop : ℕ × Reason → StageFault
told_stop s = fault_at (up_to_limit s.0) s.1

abbrev pub streamed_fault : {P : Type 0} → Rule P Reason → (P → Result Bool Reason) → Flow P → Option StageFault
streamed_fault rule only flow = option_map told_stop (stop_of rule only flow)
