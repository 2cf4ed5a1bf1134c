-- a text written so that it ends at a place
use Rattle.std.proofs.Common.{◌≡◌, ℕ, ◌+◌, ◌-◌, ◌/◌, ◌%◌, ◌^◌, ◌<◌, ◌≤◌, arith, sym, ap, ◌∙◌, List, ◌∷◌, ◌++◌, length, drop, slice_range, eqb, length-append}
use Rattle.std.specs.Prelude.{decimal}
use Rattle.std.proofs.Math.Nat.{pow-le-pow_right}
use Rattle.std.proofs.Math.Seq.{take-append_seam, drop-append_seam}
use Rattle.std.proofs.lemmas.Bool.{cond-true, cond-false, eq-eqb, ne_eqb}
use Rattle.std.proofs.lemmas.List.{drop-drop}
use Rattle.std.proofs.lemmas.Nat.{mod_below}
use Rattle.decimal_coords.specs.Fixed.{padded_digits, places_text}
use Rattle.decimal_coords.proofs.Padded.{length_padded}
use Rattle.decimal_coords.proofs.Printing.{ten_some, whole_shorter}

-- what stands between the two places, and behind the second
pub cut_out : (text line rest : List ℕ) (at end : ℕ) → at + length text ≡ end → drop at line ≡ text ++ rest → slice_range line at end ≡ text
cut_out text line rest at end e d =
    let n : end - at ≡ length text = omega arith in
    rw (n, d) (take-append_seam text rest)

pub cut_behind : (text line rest : List ℕ) (at end : ℕ) → at + length text ≡ end → drop at line ≡ text ++ rest → drop end line ≡ rest
cut_behind text line rest at end e d =
    ap (λ n. drop n line) (sym e) ∙ sym (drop-drop (length text) at line) ∙ ap (drop (length text)) d ∙ drop-append_seam text rest

pub whole_text : (p n : ℕ) → p ≡ 0 → places_text p n ≡ decimal n
whole_text p n e = cond-true _ _ _ (eq-eqb p 0 e)

pub parts_text : (p n : ℕ) → (p ≡ 0 → ⊥) → places_text p n ≡ decimal (n / 10 ^ p) ++ 46 ∷ padded_digits p (n % 10 ^ p)
parts_text p n h = cond-false (eqb p 0) _ _ (ne_eqb p 0 h)

pub length_parts : (p n : ℕ) → (p ≡ 0 → ⊥) → p ≤ 9 → length (places_text p n) ≡ length (decimal (n / 10 ^ p)) + 1 + p
length_parts p n h few =
    let u : 10 ^ p ≤ 10 ^ 9 = pow-le-pow_right (omega arith) few in
    let m : n % 10 ^ p < 10 ^ p = mod_below n (10 ^ p) (ten_some p) in
    let l : length (padded_digits p (n % 10 ^ p)) ≡ p = length_padded p (n % 10 ^ p) (omega arith) m (omega arith) in
    ap length (parts_text p n h) ∙ length-append (decimal (n / 10 ^ p)) (46 ∷ padded_digits p (n % 10 ^ p)) ∙ omega arith

pub length_whole : (p n : ℕ) → p ≡ 0 → n / 10 ^ p < 10 ^ 10 → length (decimal n) ≤ 10
length_whole p n e h =
    let q : 10 ^ p ≡ 1 = ap (λ k. 10 ^ k) e in
    let f : n / 10 ^ p ≡ n = ap (λ x. n / x) q ∙ omega arith in
    whole_shorter n (omega arith)
