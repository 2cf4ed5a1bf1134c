-- Steps of which each may be refused: the first refusal is the answer.
use Rattle.std.specs.Prelude.{Bool, true, false, Result, Ok, Err}

infixl 10 ◌>>=◌
abbrev pub ◌>>=◌ : {A B E : Type 0} → Result A E → (A → Result B E) → Result B E
(Ok x) >>= next = next x
(Err e) >>= next = Err e

-- a test that has to hold, or else this refusal
abbrev pub wants : {E : Type 0} → Bool → E → Result Bool E
wants true e = Ok true
wants false e = Err e
