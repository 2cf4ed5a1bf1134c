-- How far a run that ended at its first fault has read the files of its readers.
use Rattle.std.specs.Prelude.{◌≡◌, ℕ, ◌+◌, ◌-◌, ◌*◌, ◌^◌, ◌<◌, ◌≤◌, true, List, length, sum_by, Option, Some, None}
use Rattle.std.specs.List.{range_with_len}
use Rattle.file_devices.specs.Named.{Names}
use Rattle.cloud_points.specs.declared.faults.StageFault.{StageFault}
use Rattle.las_header.specs.declared.block.Header.{Header}
use Rattle.stage_kinds.specs.Leads.{number_of}
use Rattle.stage_options.specs.Roles.{is_writing}
use Rattle.stage_options.specs.declared.stage.StageSpec.{StageSpec}
use Rattle.answer_model.specs.Values.{role_at}
use Rattle.stage_runs.specs.Ahead.{KeepPoints, HasAllReaders, most_read}
use Rattle.run_opening.specs.Headers.{header_at}

-- where the points begin in a file with this header
abbrev pub begins_in : Option Header → ℕ
begins_in (Some header) = header.points_at
begins_in None = 0

-- the sum of that over the files that stages read
abbrev pub all_begin : Names → List StageSpec → ℕ
all_begin m stages = sum_by (λ i. begins_in (header_at m (role_at stages i))) (range_with_len 0 (length stages))

-- their headers count no EVLRs, and their records have at most so many bytes
abbrev pub HavePlainFiles : Names → List StageSpec → ℕ → Type 0
HavePlainFiles m stages bytes = (i : ℕ) (header : Header) → header_at m (role_at stages i) ≡ Some header → (header.evlrs ≡ 0) × (header.record_length ≤ bytes)

-- where the sum of how far the sources were read that were taken back is told, it was told before, and rose by at most this
abbrev pub ReadAtMost : ℕ → Option ℕ → Option ℕ → Type 0
ReadAtMost most old new = (k : ℕ) → new ≡ Some k → (n : ℕ) × (old ≡ Some n) × (k ≤ n + most)

-- where all stages give on each point, and every reader stands under the writer that has this fault, that is at most what stands in front of
-- the points of the files, and so many records
abbrev pub HasReadNoMore : Names → List StageSpec → ℕ → ℕ → ℕ → StageFault → Option ℕ → Option ℕ → Type 0
HasReadNoMore m stages queue chunk i f old new = KeepPoints stages → is_writing (role_at stages i) ≡ true → HasAllReaders stages i → number_of f < 2 ^ 64 - 1
    → (bytes : ℕ) → HavePlainFiles m stages bytes → ReadAtMost (all_begin m stages + most_read (number_of f) (length stages) queue chunk * bytes) old new
