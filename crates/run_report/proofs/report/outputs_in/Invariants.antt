use Rattle.std.specs.Prelude.{◌≡◌, ◌+◌, ◌-◌, ◌≤◌, ◌^◌, drop}
use Rattle.std.specs.List.{sum_by}
use Rattle.cloud_points.specs.Queue.{up_to_limit}
use Rattle.run_report.specs.Reports.{outputs_in}
use Rattle.run_report.proofs.report.outputs_in.Given as goal

abbrev pub invariant-loop-count : goal.invariant-loop-count
invariant-loop-count l = (l.files ≤ 2 ^ 64 - 1) × (up_to_limit (l.files + sum_by (λ count. count.files) (drop l.count-index l.counts)) ≡ outputs_in l.counts)
