-- How many points a header counts.
use Rattle.std.specs.Prelude.{ℕ, ◌==◌, if◌then◌else◌}
use Rattle.las_header.specs.declared.block.Header.{Header}

-- the count, or the legacy count where that is 0
abbrev pub points_in : Header → ℕ
points_in h = if h.count == 0 then h.legacy_count else h.count
