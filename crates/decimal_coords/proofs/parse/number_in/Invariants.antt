use Rattle.std.proofs.Common.{◌≡◌, ◌-◌, ◌^◌, min, take}
use Rattle.decimal_coords.specs.Scanning.{digits_in}
use Rattle.decimal_coords.proofs.parse.number_in.Given as goal

abbrev pub invariant-loop-b : goal.invariant-loop-b
invariant-loop-b l = l.number ≡ min (digits_in (take l.b-index l.text)) (2 ^ 64 - 1)
