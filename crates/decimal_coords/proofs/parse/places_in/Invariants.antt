use Rattle.std.proofs.Common.{◌≡◌, drop}
use Rattle.decimal_coords.specs.Scanning.{places_in}
use Rattle.decimal_coords.proofs.parse.places_in.Given as goal

abbrev pub invariant-loop-i : goal.invariant-loop-i
invariant-loop-i l = places_in (drop l.i l.text) ≡ places_in l.text
