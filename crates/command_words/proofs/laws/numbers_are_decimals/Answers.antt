use Rattle.command_words.proofs.Numerals.{written_so, read_so}
use Rattle.command_words.proofs.laws.numbers_are_decimals.Goals as goal

pub returns-clause-told : goal.returns-clause-told
returns-clause-told c = written_so

pub returns-clause-only : goal.returns-clause-only
returns-clause-only c = read_so
