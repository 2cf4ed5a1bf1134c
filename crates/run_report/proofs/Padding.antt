-- Texts with zeros behind them.
use Rattle.std.proofs.Common.{◌≡◌, ℕ, ◌-◌, ◌≤◌, List, ◌++◌, length, take, drop, replicate, IsUtf8, refl, ap, subst, sym, ◌∙◌}
use Rattle.std.proofs.lemmas.List.{take_at, drop-replicate}
use Rattle.run_report.specs.Padding.{IsPadded}

-- a text that was copied over the first of so many zeros
pub padded_text : (most : ℕ) (text copy : List ℕ) → copy ≡ text → length text ≤ most → IsUtf8 text → IsPadded most (length text) (copy ++ drop (length text) (replicate most 0))
padded_text most text copy same short utf8 =
    let zeros = drop (length text) (replicate most 0) in
    let front : take (length text) (copy ++ zeros) ≡ text = ap (λ xs. take (length text) (xs ++ zeros)) same ∙ take_at text zeros (length text) refl in
    record {
      short = short;
      counted = ap length front;
      padded = ap (λ xs. xs ++ replicate (most - length xs) 0) front ∙ ap (λ xs. text ++ xs) (sym (drop-replicate (length text) most 0)) ∙ ap (λ xs. xs ++ zeros) (sym same);
      utf8 = ∣ subst IsUtf8 (sym front) utf8 ∣₁;
    }
