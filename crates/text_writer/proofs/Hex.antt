-- Hexadecimal digits that are written from the last.
use Rattle.std.proofs.Common.{◌≡◌, ℕ, suc, ◌+◌, ◌-◌, ◌*◌, ◌/◌, ◌%◌, ◌^◌, ◌<◌, ◌≤◌, List, ◌∷◌, ◌++◌, length, drop, set, refl, sym, ap, ◌∙◌, arith}
use Rattle.std.proofs.Math.Nat.{div-one, div-div-eq-div-mul}
use Rattle.std.proofs.Common.{length-set, pow-add}
use Rattle.text_writer.specs.Cells.{hex_digit, last_hex}
use Rattle.text_writer.proofs.Lists.{drop_at_set}

-- the last digits are written, and the rest of the word is left
pub record Digits (word end count rest : ℕ) (old line : List ℕ) : Type 0 where
  pub few : count ≤ 16
  pub same : length line ≡ length old
  pub left : rest ≡ word / 16 ^ count
  pub written : drop (end - count) line ≡ last_hex count word ++ drop end old

pub digit_more : (word end count rest : ℕ) (old line : List ℕ) → 16 ≤ end → end ≤ length old → count < 16 → Digits word end count rest old line
    → drop (end - (count + 1)) (set line (end - (count + 1)) (hex_digit (rest % 16))) ≡ last_hex (count + 1) word ++ drop end old
unfolding last_hex
digit_more word end count rest old line room within few was =
    let at : end - (count + 1) < length line = omega (arith, was.same) in
    let next : end - (count + 1) + 1 ≡ end - count = omega arith in
    let size : suc count ≡ count + 1 = omega arith in
    drop_at_set line (end - (count + 1)) (hex_digit (rest % 16)) at
    ∙ ap (λ n. hex_digit (rest % 16) ∷ drop n line) next
    ∙ ap (λ ys. hex_digit (rest % 16) ∷ ys) was.written
    ∙ ap (λ r. hex_digit (r % 16) ∷ (last_hex count word ++ drop end old)) was.left
    ∙ ap (λ k. last_hex k word ++ drop end old) size

pub rest_more : (word count rest : ℕ) → rest ≡ word / 16 ^ count → rest / 16 ≡ word / 16 ^ (count + 1)
rest_more word count rest was =
    ap (λ r. r / 16) was ∙ div-div-eq-div-mul word (16 ^ count) 16
    ∙ ap (λ n. word / n) (let e : 16 ^ count * 16 ≡ 16 ^ (count + 1) = omega (arith, pow-add 16 count 1) in e)

pub no_digits : (word end : ℕ) (line : List ℕ) → Digits word end 0 word line line
unfolding last_hex
no_digits word end line = record {
  few = omega arith;
  same = refl;
  left = sym (div-one word);
  written = ap (λ n. drop n line) (let e : end - 0 ≡ end = omega arith in e);
}

pub digits_more : (word end count rest digit : ℕ) (old line : List ℕ) → 16 ≤ end → end ≤ length old → count < 16 → digit ≡ hex_digit (rest % 16) → Digits word end count rest old line
    → Digits word end (count + 1) (rest / 16) old (set line (end - (count + 1)) digit)
digits_more word end count rest digit old line room within few is was = record {
  few = omega arith;
  same = length-set line (end - (count + 1)) digit ∙ was.same;
  left = rest_more word count rest was.left;
  written = ap (λ d. drop (end - (count + 1)) (set line (end - (count + 1)) d)) is ∙ digit_more word end count rest old line room within few was;
}
