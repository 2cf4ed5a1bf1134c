-- Points as a chunk, where there are some.
use Rattle.std.specs.Prelude.{List, [], ◌∷◌, Option, Some, None}

abbrev pub chunk_of : {P : Type 0} → List P → Option (List P)
chunk_of [] = None
chunk_of (p ∷ ps) = Some (p ∷ ps)
