use Rattle.std.proofs.Common.{◌≡◌, map, drop, string_bytes}
use Rattle.command_words.specs.Machine.{command_of, command_from, state_in}
use Rattle.command_words.proofs.command.read_command.Given as goal

abbrev pub invariant-loop-place : goal.invariant-loop-place
invariant-loop-place l = command_of (map string_bytes l.words) ≡ command_from (state_in l.state) l.place (map string_bytes (drop l.place l.words))
