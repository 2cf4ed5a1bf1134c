use Rattle.command_words.proofs.Places.{place_told, place_only}
use Rattle.command_words.proofs.laws.places_are_told.Goals as goal

pub returns-clause-told : goal.returns-clause-told
returns-clause-told c = place_told

pub returns-clause-only : goal.returns-clause-only
returns-clause-only c = place_only
