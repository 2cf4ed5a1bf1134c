use Rattle.std.proofs.Common.{◌≡◌, ℕ, Bool, ◌∙◌, sym, ap, reverse}
use Rattle.std.specs.Char.{char_set_contains}
use Rattle.std.specs.Str.Pattern.{FindsPrefixBy, FindsSuffixBy}
use Rattle.option_texts.specs.Parts.{skip_spaces}
use Rattle.text_bytes.specs.Bytes.{is_space}
use Rattle.option_texts.proofs.Trimming.{spaces, space_is, front_is, back_is}
use Rattle.option_texts.proofs.parts.trimmed.Goals as goal

pub returns : goal.returns
returns c =
    let front = front_is (λ m o. (k : ℕ → Bool) → ((b : ℕ) → char_set_contains spaces b ≡ k b) → FindsPrefixBy k m o) (λ m o h. h is_space space_is) c.args.text.now c.trim_start_matches.result.now c.trim_start_matches.ensures.matches in
    let back = back_is (λ m o. (k : ℕ → Bool) → ((b : ℕ) → char_set_contains spaces b ≡ k b) → FindsSuffixBy k m o) (λ m o h. h is_space space_is) c.trim_start_matches.result.now c.trim_end_matches.result.now c.trim_end_matches.ensures.matches in
    sym back ∙ ap (λ xs. reverse (skip_spaces (reverse xs))) (sym front)
