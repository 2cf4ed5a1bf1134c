-- A line in pieces.
use Rattle.std.specs.Prelude.{ℕ, List, ◌++◌}
use Rattle.run_report.specs.declared.faults.Line.{Line}

-- the bytes of a line
abbrev pub line_bytes : Line → List ℕ
line_bytes line = line.before.bytes ++ (line.name.now ++ line.after.now)
