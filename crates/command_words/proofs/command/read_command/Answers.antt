use Rattle.std.proofs.Common.{option_map, ap, sym, ◌∙◌, arith}
use Rattle.command_words.specs.Commands.{command_in}
use Rattle.command_words.specs.Machine.{state_in}
use Rattle.command_words.proofs.Bounds.{ended_within}
use Rattle.command_words.proofs.command.read_command.Goals as goal

pub returns-in-Some-ended-clause-within : goal.returns-in-Some-ended-clause-within
returns-in-Some-ended-clause-within c =
    ended_within c.args.words.now (state_in c.loop-place.state) c.loop-place.place (command_in c.in-Some-ended.command) c.loop-place.invariant (omega (arith, c.loop-place-test.false))
    (ap (option_map command_in) (sym c.in-Some-ended.is) ∙ c.ended.ensures)
