-- How many devices works hold, and how often these failed.
use Rattle.std.specs.Prelude.{ℕ, List, map, sum_by, cond, is_some, Option, Some, None, option_map}
use Rattle.las_reader.specs.declared.reader.LasReader.{LasReader}
use Rattle.stage_kinds.specs.declared.held.Held.{Held}
use Rattle.stage_kinds.specs.declared.held.Held.TheVariants.{Source, Sink}
use Rattle.stage_kinds.specs.declared.stage_work.StageWork.{StageWork}
use Rattle.stage_kinds.specs.Held.{held_by, op_of}

-- how many of these there are
abbrev pub there : {A : Type 0} → Option A → ℕ
there o = cond (is_some o) 1 0

abbrev pub all_there : {A : Type 0} → List (Option A) → ℕ
all_there os = sum_by there os

-- how many devices works hold
abbrev pub all_held : {S K P Q : Type 0} → List (StageWork S K P Q) → ℕ
all_held works = sum_by (λ w. there (op_of w)) works

-- the count of a device that is held, by that of a source and of a sink
abbrev pub count_on : {S K P Q : Type 0} → (S → ℕ) → (K → ℕ) → Held S K P Q → Option ℕ
count_on sources sinks (Source s) = Some (sources s)
count_on sources sinks (Sink k) = Some (sinks k)
count_on sources sinks _ = None

-- those of the devices that works hold
abbrev pub counts_on : {S K P Q : Type 0} → (S → ℕ) → (K → ℕ) → List (StageWork S K P Q) → List (Option ℕ)
counts_on sources sinks works = map (λ w. count_on sources sinks (held_by w)) works

-- those of the sources of readers
abbrev pub source_counts : {S : Type 0} → (S → ℕ) → List (Option (LasReader S)) → List (Option ℕ)
source_counts sources readers = map (option_map (λ r. sources r.source)) readers
