-- What can be printed.
use Rattle.std.specs.Prelude.{ℕ, leb, Bool, true, ◌&&◌, List, [], ◌∷◌}

-- a blank, or a byte of ASCII that has a glyph
abbrev pub is_printable : ℕ → Bool
is_printable b = leb 32 b && leb b 126

-- all bytes of a text are
abbrev pub are_printable : List ℕ → Bool
are_printable [] = true
are_printable (b ∷ bs) = is_printable b && are_printable bs
