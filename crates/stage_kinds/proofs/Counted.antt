-- Works that give on each point, and what a writer counts.
use Rattle.std.proofs.Common.{◌≡◌, ℕ, ◌+◌, ◌≤◌, Bool, true, false, if◌then◌else◌, List, [], ◌∷◌, length, Option, Some, None, Result, Ok, Err, is_some, option_map, refl, sym, ap, ◌∙◌, arith}
use Rattle.std.proofs.lemmas.Option.{same_Some}
use Rattle.std.specs.List.{cons_option}
use Rattle.cloud_points.specs.Events.{first_fault}
use Rattle.cloud_points.specs.Lifted.{lifted, emit_at, fault_at}
use Rattle.cloud_points.specs.Meaning.{Meaning}
use Rattle.cloud_points.specs.Queue.{up_to_limit}
use Rattle.cloud_points.specs.declared.dims.Dim.{Dim}
use Rattle.cloud_points.specs.declared.faults.StageFault.{StageFault}
use Rattle.cloud_points.specs.declared.point.Point.{Point}
use Rattle.expr_eval.specs.declared.assignment.Assignment.{Assignment}
use Rattle.expr_lang.specs.Formula.{Formula}
use Rattle.network_theory.specs.Ahead.{KeepsCount, CountsPoints}
use Rattle.stage_meanings.specs.ByRule.{steps_of}
use Rattle.stage_meanings.specs.Conditions.{passes}
use Rattle.stage_meanings.specs.Filtering.{By, Merge, filter_meaning}
use Rattle.stage_meanings.specs.Filters.{◌>>=◌, changed, or_nothing, reason_of, fault_at as fault_with, refused_by}
use Rattle.stage_meanings.specs.Rules.{assign, assigned, in_turn}
use Rattle.stage_meanings.specs.Steps.{Steps, steps_meaning, unless, given, reached, stopped}
use Rattle.stage_meanings.specs.declared.reason.Reason.{Reason}
use Rattle.stage_meanings.specs.declared.reason.Reason.TheVariants.{OutOfRange, NotHeld, DivideByZero, ArithOverflow, TooMany}
use Rattle.stage_meanings.specs.declared.spot.Spot.{Spot}
use Rattle.stage_kinds.specs.declared.file_form.Writing.{Writing as Writes}
use Rattle.stage_kinds.specs.declared.stage_work.StageState.{StageState}
use Rattle.stage_kinds.specs.declared.stage_work.StageState.TheVariants.{Reading, Filtering as At, Plugging, Tallying, Collecting, Keeping, Writing}
use Rattle.stage_kinds.specs.Files.{unwritten}
use Rattle.stage_kinds.specs.Stages.{writing_steps, writing_meaning, writing_in, writer_work, filtering_in, filter_work}
use Rattle.stage_kinds.specs.Leads.{number_of, taken_in}

-- ---- each point goes on

steps-count : {S P F : Type 0} (st : Steps S P F) → ((s : S) (p : P) → st.fault s p ≡ None → is_some (st.becomes s p) ≡ true) → KeepsCount (steps_meaning st)
steps-count {S} {P} {F} st on s [] e = refl
steps-count {S} {P} {F} st on s (p ∷ ps) e = by_fault (st.fault s p) refl (steps-count st on (st.next s p) ps) e
  where
    by_point : (o : Option P) → is_some o ≡ true → (rest : List P) → length rest ≡ length ps → length (cons_option o rest) ≡ length (p ∷ ps)
    by_point None h rest more = cc
    by_point (Some q) h rest more = omega (arith, more)

    by_fault : (f : Option F) → st.fault s p ≡ f → (stopped st (st.next s p) ps ≡ None → length (given st (st.next s p) ps) ≡ length ps) → first_fault f (stopped st (st.next s p) ps) ≡ None
        → length (unless f [] (cons_option (st.becomes s p) (given st (st.next s p) ps))) ≡ length (p ∷ ps)
    by_fault (Some f) is rest h = cc
    by_fault None is rest h = by_point (st.becomes s p) (on s p is) (given st (st.next s p) ps) (rest h)

lifted-count : {S T P F : Type 0} (m : Meaning S P F) (project : T → Option S) (inject : S → T) → KeepsCount m → KeepsCount (lifted m project inject)
lifted-count {S} {T} {P} {F} m project inject keeps t ps e = go (project t) e
  where
    go : (o : Option S) → fault_at m o ps ≡ None → length (emit_at m o ps) ≡ length ps
    go None h = refl
    go (Some s) h = keeps s ps h

-- a changed point does
changed-count : (change : Point → Result Point Reason) (only : Point → Result Bool Reason) → KeepsCount (steps_meaning (steps_of (changed change) only))
changed-count change only = steps-count (steps_of (changed change) only) (λ s p e. by_only p (only p) s.number e)
  where
    by_change : (r : Result Point Reason) (n : ℕ) → option_map (fault_with n) (reason_of (r >>= λ q. Ok (Some q))) ≡ None → is_some (or_nothing (r >>= λ q. Ok (Some q))) ≡ true
    by_change (Ok q) n e = refl
    by_change (Err r) n e = cc

    by_only : (p : Point) (r : Result Bool Reason) (n : ℕ) → option_map (fault_with n) (reason_of (r >>= λ b. if b then (change p >>= λ q. Ok (Some q)) else Ok (Some p))) ≡ None
        → is_some (or_nothing (r >>= λ b. if b then (change p >>= λ q. Ok (Some q)) else Ok (Some p))) ≡ true
    by_only p (Ok true) n e = by_change (change p) n e
    by_only p (Ok false) n e = refl
    by_only p (Err r) n e = cc

pub assign-count : (list : List Assignment) (only : Option (Formula Dim)) → KeepsCount (filter_work (By (assign list) only))
assign-count list only = lifted-count (filter_meaning (By (assign list) only)) filtering_in At (changed-count (in_turn assigned list) (passes only))

pub merge-count : KeepsCount (filter_work Merge)
merge-count = lifted-count (filter_meaning Merge) filtering_in At (λ s ps e. refl)

pub writer-count : KeepsCount writer_work
writer-count = lifted-count writing_meaning writing_in (λ s. Writing s.0 s.1) (λ s ps e. steps-count (writing_steps s.0) (λ t p h. refl) s.1 ps e)

-- ---- what a writer counts

counts : (x : Writes) (s : Spot) (ps : List Point) → stopped (writing_steps x) s ps ≡ None → up_to_limit ((reached (writing_steps x) s ps).number) ≡ up_to_limit (up_to_limit s.number + length ps)
counts x s [] e = omega arith
counts x s (p ∷ ps) e = by_fault ((writing_steps x).fault s p) (counts x ((writing_steps x).next s p) ps) e
  where
    by_fault : (f : Option StageFault) → (stopped (writing_steps x) ((writing_steps x).next s p) ps ≡ None → up_to_limit ((reached (writing_steps x) ((writing_steps x).next s p) ps).number) ≡ up_to_limit (up_to_limit ((writing_steps x).next s p).number + length ps))
        → first_fault f (stopped (writing_steps x) ((writing_steps x).next s p) ps) ≡ None → up_to_limit ((unless f s (reached (writing_steps x) ((writing_steps x).next s p) ps)).number) ≡ up_to_limit (up_to_limit s.number + length (p ∷ ps))
    by_fault (Some f) rest h = cc
    by_fault None rest h = let c = rest h in omega (arith, c)

fault-number : (n : ℕ) (r : Reason) → number_of (fault_with n r) ≡ n
fault-number n (OutOfRange d) = refl
fault-number n (NotHeld d) = refl
fault-number n DivideByZero = refl
fault-number n ArithOverflow = refl
fault-number n TooMany = refl

-- a fault has the number of a point that it didn't count yet
uncounted : (x : Writes) (s : Spot) (ps : List Point) (f : StageFault) → stopped (writing_steps x) s ps ≡ Some f → up_to_limit s.number ≤ number_of f
uncounted x s [] f e = cc
uncounted x s (p ∷ ps) f e = by_reason (refused_by (unwritten x.form) (passes x.only) (p, s.place)) (uncounted x ((writing_steps x).next s p) ps f) e
  where
    by_reason : (r : Option Reason) → (stopped (writing_steps x) ((writing_steps x).next s p) ps ≡ Some f → up_to_limit ((writing_steps x).next s p).number ≤ number_of f) → first_fault (option_map (fault_with s.number) r) (stopped (writing_steps x) ((writing_steps x).next s p) ps) ≡ Some f
        → up_to_limit s.number ≤ number_of f
    by_reason (Some r) later h = let n : number_of f ≡ s.number = sym (ap number_of (same_Some (fault_with s.number r) f h)) ∙ fault-number s.number r in omega (arith, n)
    by_reason None later h = let l = later h in omega (arith, l)

pub writer-counts : CountsPoints writer_work taken_in number_of
writer-counts = record {
  points = points-of;
  view = view-of;
  last = last-of;
  fault = fault-of;
}
  where
    points-of : (t : StageState) (ps : List Point) → writer_work.fault t ps ≡ None → taken_in (writer_work.after t ps) ≡ up_to_limit (taken_in t + length ps)
    points-of (Writing x spot) ps e = counts x spot ps e
    points-of Reading ps e = omega arith
    points-of (At spot) ps e = omega arith
    points-of (Plugging spot) ps e = omega arith
    points-of (Tallying spot) ps e = omega arith
    points-of (Collecting making views) ps e = omega arith
    points-of (Keeping x views) ps e = omega arith

    view-of : (t : StageState) → taken_in (writer_work.at_view t).0 ≡ taken_in t
    view-of (Writing x spot) = refl
    view-of Reading = refl
    view-of (At spot) = refl
    view-of (Plugging spot) = refl
    view-of (Tallying spot) = refl
    view-of (Collecting making views) = refl
    view-of (Keeping x views) = refl

    last-of : (t : StageState) (cut : Bool) → taken_in (writer_work.at_end t cut).0 ≡ taken_in t
    last-of (Writing x spot) cut = refl
    last-of Reading cut = refl
    last-of (At spot) cut = refl
    last-of (Plugging spot) cut = refl
    last-of (Tallying spot) cut = refl
    last-of (Collecting making views) cut = refl
    last-of (Keeping x views) cut = refl

    fault-of : (t : StageState) (ps : List Point) (f : StageFault) → writer_work.fault t ps ≡ Some f → taken_in t ≤ number_of f
    fault-of (Writing x spot) ps f e = uncounted x spot ps f e
    fault-of Reading ps f e = cc
    fault-of (At spot) ps f e = cc
    fault-of (Plugging spot) ps f e = cc
    fault-of (Tallying spot) ps f e = cc
    fault-of (Collecting making views) ps f e = cc
    fault-of (Keeping x views) ps f e = cc
