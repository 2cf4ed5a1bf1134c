-- What is noted of calls on files.
use Rattle.std.specs.Prelude.{ℕ, List, ◌++◌, codes}

-- the line of a call with the name that it was made with
abbrev pub note_of : List ℕ → List ℕ → List ℕ
note_of call name = call ++ name ++ codes "\n"
