use Rattle.std.proofs.Common.{◌≡◌, take}
use Rattle.decimal_coords.specs.Scanning.{run}
use Rattle.decimal_coords.specs.declared.scan.Scan.TheVariants.{Start, Dead}
use Rattle.decimal_coords.proofs.parse.bad_byte.Given as goal

abbrev pub invariant-loop-i : goal.invariant-loop-i
invariant-loop-i l = record { reached : l.state ≡ run Start (take l.i l.text); alive : l.state ≡ Dead → ⊥ }
