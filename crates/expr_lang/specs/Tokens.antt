-- The tokens of a text, as a function.
use Rattle.std.specs.Prelude.{ℕ, ◌+◌, ◌-◌, zero, suc, List, [], ◌∷◌, if◌then◌else◌}
use Rattle.expr_lang.specs.declared.token.Placed.{Placed}
use Rattle.expr_lang.specs.Grammar.{placed}
use Rattle.expr_lang.specs.Lexical.{first_token}
use Rattle.text_bytes.specs.Bytes.{is_space}

-- the tokens of bytes that begin at a place, of which the first `size` belong to the token before them
abbrev pub tokens_behind : ℕ → ℕ → List ℕ → List Placed
tokens_behind size at [] = []
tokens_behind zero at (b ∷ bs) = if is_space b then tokens_behind 0 (at + 1) bs
    else placed at (first_token (b ∷ bs)).token ∷ tokens_behind ((first_token (b ∷ bs)).size - 1) (at + 1) bs
tokens_behind (suc size) at (b ∷ bs) = tokens_behind size (at + 1) bs

-- the tokens of a text
abbrev pub tokens_of : List ℕ → List Placed
tokens_of text = tokens_behind 0 0 text
