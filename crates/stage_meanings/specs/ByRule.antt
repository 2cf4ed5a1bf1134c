-- A filter as a work: it judges one point after the other, and counts them.
use Rattle.std.specs.Prelude.{ℕ, ◌+◌, ◌^◌, ◌<◌, Bool, not, if◌then◌else◌, Option, Some, None, Result, Ok, false}
use Rattle.std.specs.Option.{option_map}
use Rattle.cloud_points.specs.Queue.{up_to_limit}
use Rattle.cloud_points.specs.Meaning.{Meaning}
use Rattle.cloud_points.specs.declared.faults.StageFault.{StageFault}
use Rattle.stage_meanings.specs.declared.reason.Reason.{Reason}
use Rattle.stage_meanings.specs.declared.spot.Spot.{Spot}
use Rattle.stage_meanings.specs.Filters.{◌>>=◌, Rule, Each, Places, keeps, or_nothing, is_true, reason_of, refused_by, fault_at}
use Rattle.stage_meanings.specs.Steps.{Steps, steps_meaning}

-- what a point at a place comes to, if it passes
abbrev pub judged : {P R : Type 0} → Rule P R → ℕ → P → Result (Option P) R
judged (Each f) k p = f p
judged (Places test) k p = Ok (keeps (test k) p)

-- and if it may not pass
abbrev pub judged_at : {P R : Type 0} → Rule P R → (P → Result Bool R) → ℕ → P → Result (Option P) R
judged_at rule only k p = only p >>= λ b. if b then judged rule k p else Ok (Some p)

-- ---- where the next point stands

-- at the beginning of a view behind n points
abbrev pub spot_at : ℕ → Spot
spot_at n = record { number = up_to_limit n; place = 0 }

abbrev pub one_more : ℕ → ℕ
one_more n = up_to_limit (n + 1)

-- behind a point, which does or doesn't pass the `where`
abbrev pub spot_after : Bool → Spot → Spot
spot_after passed s = record { number = one_more s.number; place = if passed then one_more s.place else s.place }

-- behind so many points, of which so many pass
abbrev pub spot_past : ℕ → ℕ → Spot → Spot
spot_past points passed s = record { number = up_to_limit (s.number + points); place = up_to_limit (s.place + passed) }

-- both numbers are those of a u64
pub record IsWithin (s : Spot) : Type 0 where
  pub number : s.number < 2 ^ 64
  pub place : s.place < 2 ^ 64

-- at the beginning of the next view
abbrev pub spot_anew : Spot → Spot
spot_anew s = record s { place = 0 }

-- ---- the works

abbrev pub steps_of : {P : Type 0} → Rule P Reason → (P → Result Bool Reason) → Steps Spot P StageFault
steps_of rule only = record {
  fault = λ s p. option_map (fault_at s.number) (reason_of (judged_at rule only s.place p));
  becomes = λ s p. or_nothing (judged_at rule only s.place p);
  next = λ s p. spot_after (is_true (only p)) s;
  anew = spot_anew;
}

abbrev pub rule_meaning : {P : Type 0} → Rule P Reason → (P → Result Bool Reason) → Meaning Spot P StageFault
rule_meaning rule only = steps_meaning (steps_of rule only)

-- each point goes on as it is, and those that pass are counted over all views
abbrev pub admitting_steps : {P : Type 0} → (ℕ → P → Option Reason) → (P → Result Bool Reason) → Steps Spot P StageFault
admitting_steps against only = record {
  fault = λ s p. option_map (fault_at s.number) (refused_by against only (p, s.place));
  becomes = λ s p. Some p;
  next = λ s p. spot_after (is_true (only p)) s;
  anew = λ s. s;
}

abbrev pub admitting_meaning : {P : Type 0} → (ℕ → P → Option Reason) → (P → Result Bool Reason) → Meaning Spot P StageFault
admitting_meaning against only = steps_meaning (admitting_steps against only)

-- all points go on, no end of a view does, and one goes before an end that isn't cut
abbrev pub merge_meaning : {S P F : Type 0} → Meaning S P F
merge_meaning = record {
  emit = λ s points. points;
  after = λ s points. s;
  fault = λ s points. None;
  at_view = λ s. (s, false);
  at_end = λ s cut. (s, not cut);
  nature = None;
}
