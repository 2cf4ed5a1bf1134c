use Rattle.std.proofs.Common.{◌≡◌, ◌+◌, ◌^◌, ◌<◌, ◌≤◌, ◌++◌, take, drop}
use Rattle.decimal_coords.specs.Fixed.{padded_digits}
use Rattle.decimal_coords.proofs.put.put_padded.Given as goal

abbrev pub invariant-loop-count : goal.invariant-loop-count
invariant-loop-count l = record {
  low : 1 ≤ l.count;
  high : l.count ≤ l.places;
  small : l.rest < 10 ^ l.count;
  place : l.at + l.places ≡ l.end + l.count;
  written : padded_digits l.count l.rest ++ drop l.at l.line ≡ padded_digits l.places l.n ++ drop l.end l.fn.line;
  before : take l.at l.line ≡ take l.at l.fn.line;
}

abbrev pub decreases-loop-count : goal.decreases-loop-count
decreases-loop-count l = l.count
