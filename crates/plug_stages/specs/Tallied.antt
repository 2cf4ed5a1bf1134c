-- What a tally makes of points.
use Rattle.std.specs.Prelude.{ℤ, List, fold}

-- what it remembers behind them
abbrev pub tallied : {P : Type 0} → (List ℤ → P → List ℤ) → List ℤ → List P → List ℤ
tallied step s points = fold step s points
