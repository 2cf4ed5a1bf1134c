use Rattle.extra_bytes.proofs.Returning.{nearest_is_read, exact_is_read, fine_takes_all}
use Rattle.extra_bytes.proofs.laws.values_return.Goals as goal

pub returns-clause-nearest : goal.returns-clause-nearest
returns-clause-nearest c = nearest_is_read

pub returns-clause-exact : goal.returns-clause-exact
returns-clause-exact c = exact_is_read

pub returns-clause-fine : goal.returns-clause-fine
returns-clause-fine c = fine_takes_all
