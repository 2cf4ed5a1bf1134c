-- The tokens of a text, as a relation and as a function.
use Rattle.std.proofs.Common.{◌≡◌, ℕ, zero, suc, ◌<◌, ◌+◌, ◌-◌, arith, refl, ap, subst, ◌∙◌, List, [], ◌∷◌, drop, Bool, true, false, if◌then◌else◌}
use Rattle.std.specs.List.{prefix_len}
use Rattle.std.specs.Prelude.{Option, Some, None}
use Rattle.expr_lang.specs.declared.op.BinaryOp.{BinaryOp}
use Rattle.expr_lang.specs.declared.token.Placed.{Placed}
use Rattle.expr_lang.specs.Grammar.{placed}
use Rattle.expr_lang.specs.Lexical.{pair_op, pair_or_byte, symbol, word_lexeme, number_lexeme, first_token, IsLexed, at_end, at_space, at_token}
use Rattle.text_bytes.specs.Bytes.{is_space, is_letter, is_digit, is_word}
use Rattle.expr_lang.specs.Tokens.{tokens_behind, tokens_of}
use Rattle.expr_lang.proofs.Spans.{letter_word}

-- ---- a token has a byte

symbol_some : (b : ℕ) (bs : List ℕ) → 0 < (symbol b bs).size
symbol_some b [] = omega arith
symbol_some b (d ∷ bs) = go (pair_op b d)
  where
    go : (o : Option BinaryOp) → 0 < (pair_or_byte o b).size
    go None = omega arith
    go (Some o) = omega arith

passes_some : (p : ℕ → Bool) (b : ℕ) (bs : List ℕ) → p b ≡ true → 0 < prefix_len p (b ∷ bs)
passes_some p b bs h = rw h (omega arith)

token_some : (b : ℕ) (bs : List ℕ) → 0 < (first_token (b ∷ bs)).size
token_some b bs = go (is_letter b) (is_digit b) refl refl
  where
    go : (l d : Bool) → is_letter b ≡ l → is_digit b ≡ d → 0 < (if l then word_lexeme (b ∷ bs) else (if d then number_lexeme (b ∷ bs) else symbol b bs)).size
    go true d h k = passes_some is_word b bs (letter_word b h)
    go false true h k = let n = passes_some is_digit b bs k in omega (arith, n)
    go false false h k = symbol_some b bs

-- ---- bytes of the token before are passed over

passed_over : (size at : ℕ) (bs : List ℕ) → tokens_behind size at bs ≡ tokens_behind 0 (at + size) (drop size bs)
passed_over zero at [] = refl
passed_over zero at (b ∷ bs) = rw (let e : at + 0 ≡ at = omega arith in e) refl
passed_over (suc size) at [] = refl
passed_over (suc size) at (b ∷ bs) = passed_over size (at + 1) bs ∙ ap (λ n. tokens_behind 0 n (drop size bs)) (let e : at + 1 + size ≡ at + suc size = omega arith in e)

behind_token : (at size : ℕ) (b : ℕ) (bs : List ℕ) → 0 < size → tokens_behind (size - 1) (at + 1) bs ≡ tokens_behind 0 (at + size) (drop size (b ∷ bs))
behind_token at zero b bs h = absurd (omega arith)
behind_token at (suc size) b bs h = rw (let e : suc size - 1 ≡ size = omega arith in e) (passed_over size (at + 1) bs ∙ ap (λ n. tokens_behind 0 n (drop size bs)) (let e : at + 1 + size ≡ at + suc size = omega arith in e))

behind_is : {at : ℕ} {bs : List ℕ} {ts : List Placed} → IsLexed at bs ts → tokens_behind 0 at bs ≡ ts
behind_is at_end = refl
behind_is (at_space y w) = rw y (behind_is w)
behind_is (at_token {at = at} {b = b} {bs = bs} n w) =
    rw n (ap (λ us. placed at (first_token (b ∷ bs)).token ∷ us) (behind_token at (first_token (b ∷ bs)).size b bs (token_some b bs) ∙ behind_is w))

pub tokens_are : (text : List ℕ) (ts : List Placed) → IsLexed 0 text ts → tokens_of text ≡ ts
tokens_are text ts w = behind_is w

-- ---- the tokens that the function gives are those of the relation

tail_of : (at size b : ℕ) (bs : List ℕ) → 0 < size
    → ((s p : ℕ) → p ≡ at + 1 + s → IsLexed p (drop s bs) (tokens_behind s (at + 1) bs))
    → IsLexed (at + size) (drop size (b ∷ bs)) (tokens_behind (size - 1) (at + 1) bs)
tail_of at zero b bs h rest = absurd (omega arith)
tail_of at (suc size) b bs h rest = rw (let e : suc size - 1 ≡ size = omega arith in e) (rest size (at + suc size) (omega arith))

lexed_byte : (at b : ℕ) (bs : List ℕ) → ((s p : ℕ) → p ≡ at + 1 + s → IsLexed p (drop s bs) (tokens_behind s (at + 1) bs))
    → IsLexed at (b ∷ bs) (tokens_behind 0 at (b ∷ bs))
lexed_byte at b bs rest = go (is_space b) refl
  where
    go : (s : Bool) → is_space b ≡ s
        → IsLexed at (b ∷ bs) (if s then tokens_behind 0 (at + 1) bs else placed at (first_token (b ∷ bs)).token ∷ tokens_behind ((first_token (b ∷ bs)).size - 1) (at + 1) bs)
    go true y = at_space y (rest 0 (at + 1) (omega arith))
    go false n = at_token n (tail_of at (first_token (b ∷ bs)).size b bs (token_some b bs) rest)

lexed_behind : (size at to : ℕ) (bs : List ℕ) → to ≡ at + size → IsLexed to (drop size bs) (tokens_behind size at bs)
lexed_behind zero at to [] e = at_end
lexed_behind (suc size) at to [] e = at_end
lexed_behind zero at to (b ∷ bs) e = let k : at ≡ to = omega (arith, e) in
    subst (λ p. IsLexed p (b ∷ bs) (tokens_behind 0 at (b ∷ bs))) k (lexed_byte at b bs (λ s p h. lexed_behind s (at + 1) p bs h))
lexed_behind (suc size) at to (b ∷ bs) e = lexed_behind size (at + 1) to bs (omega (arith, e))

pub are_tokens : (text : List ℕ) → IsLexed 0 text (tokens_of text)
are_tokens text = lexed_behind 0 0 0 text refl
