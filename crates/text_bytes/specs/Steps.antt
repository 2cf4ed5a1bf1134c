-- Steps that may be refused.
use Rattle.std.specs.Prelude.{Result, Ok, Err}

-- the second step where the first is right, with what that came to
abbrev pub and_then : {A B E : Type 0} → Result A E → (A → Result B E) → Result B E
and_then (Ok a) f = f a
and_then (Err e) f = Err e
