-- Lists of parts in a text.
use Rattle.std.specs.Prelude.{ℕ, ◌==◌, List, [], ◌∷◌, reverse, Option, Some, option_map, option_and_then, if◌then◌else◌}
use Rattle.std.specs.List.{slice_split}
use Rattle.text_bytes.specs.Bytes.{is_space}

-- without the spaces in front
abbrev pub skip_spaces : List ℕ → List ℕ
skip_spaces [] = []
skip_spaces (b ∷ bs) = if is_space b then skip_spaces bs else b ∷ bs

-- without the spaces at both ends
abbrev pub trimmed : List ℕ → List ℕ
trimmed text = reverse (skip_spaces (reverse (skip_spaces text)))

-- the parts of a text, which is cut at each comma
abbrev pub parts_of : List ℕ → List (List ℕ)
parts_of text = slice_split (λ b. b == 44) text

-- what each part is read as, where each one can be read
abbrev pub each_read : {X : Type 0} → (List ℕ → Option X) → List (List ℕ) → Option (List X)
each_read read [] = Some []
each_read read (part ∷ parts) = option_and_then (λ x. option_map (λ xs. x ∷ xs) (each_read read parts)) (read part)
