use Rattle.command_words.proofs.Places.{told, only}
use Rattle.command_words.proofs.laws.commands_are_told.Goals as goal

pub returns-clause-told : goal.returns-clause-told
returns-clause-told c = told

pub returns-clause-only : goal.returns-clause-only
returns-clause-only c = only
