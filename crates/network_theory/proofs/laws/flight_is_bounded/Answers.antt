use Rattle.network_theory.proofs.Flights.{fit-run, flight-most, opening-fit}
use Rattle.network_theory.proofs.laws.flight_is_bounded.Goals as goal

pub returns : goal.returns
returns g c = λ net root cap chunk ts o laws most allowed. flight-most chunk cap _ root (fit-run chunk cap net root ts laws (opening-fit chunk cap net root o most) allowed)
