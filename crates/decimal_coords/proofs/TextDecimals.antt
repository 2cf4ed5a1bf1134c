-- what is computed of a text is the answer for it
use Rattle.std.proofs.Common.{◌≡◌, ◌≢◌, ℕ, ◌+◌, ◌-◌, ◌*◌, ◌^◌, ◌<◌, ◌≤◌, suc, arith, sym, refl, ap, subst, ◌∙◌, inl, inr, List, [], ◌∷◌, ◌++◌, length, take, get_or, Bool, true, false, eqb, ltb, append_assoc, length-append}
use Rattle.std.specs.Prelude.{Option, Some, None, Result, ℤ}
use Rattle.std.proofs.Math.Seq.{take-append_seam, take-append-add}
use Rattle.std.proofs.lemmas.Bool.{cases_Bool, cases_lt, eq-eqb, ne_eqb, le-leb, lt-leb, true≢false}
use Rattle.decimal_coords.specs.declared.parse.DecFault.{DecFault}
use Rattle.decimal_coords.specs.declared.scan.Scan.{Scan}
use Rattle.decimal_coords.specs.declared.scan.Scan.TheVariants.{Start, Signed, Whole, Point, Places as Placed, Dead}
use Rattle.decimal_coords.specs.Grammar.{IsDecimalText, IsADecimal, CanGoOn, IsBadPlace, number_of, nano_size, with_sign}
use Rattle.decimal_coords.specs.Parsed.{IsParsed}
use Rattle.decimal_coords.specs.Scanning.{run, after, accepts, digits_in, places_in}
use Rattle.decimal_coords.specs.DecimalOfText.{is_dead, bad_place, value_of, bad_or, decimal_of_text}
use Rattle.decimal_coords.proofs.Scanned.{run-append, alive, gone, accepted, decimal_if}
use Rattle.decimal_coords.proofs.Reading.{digits_shown, places_shown, sign_shown}
use Rattle.decimal_coords.proofs.OneAnswer.{one_answer}

dead_true : (s : Scan) → is_dead s ≡ true → s ≡ Dead
dead_true Start e = absurd (true≢false (sym e))
dead_true Signed e = absurd (true≢false (sym e))
dead_true Whole e = absurd (true≢false (sym e))
dead_true Point e = absurd (true≢false (sym e))
dead_true Placed e = absurd (true≢false (sym e))
dead_true Dead e = refl

dead_false : (s : Scan) → is_dead s ≡ false → s ≡ Dead → ⊥
dead_false s e d = true≢false (sym (ap is_dead d) ∙ e)

abbrev IsPlaced : List ℕ → Option ℕ → Type 0
IsPlaced text None = IsADecimal text
IsPlaced text (Some at) = IsBadPlace text at

append_none : (p : List ℕ) → p ++ [] ≡ p
append_none [] = refl
append_none (b ∷ p) = ap (λ z. b ∷ z) (append_none p)

ends : (p : List ℕ) (s : Scan) → run Start p ≡ s → (s ≡ Dead → ⊥) → IsPlaced p (bad_place s (length p) [])
ends p s e live = elim (cases_Bool (accepts s)) [
  | inl t ↦ rw t (decimal_if p (ap accepts e ∙ t))
  | inr t ↦ rw t (record {
    within = omega arith;
    front = subst CanGoOn (sym (take_whole p)) (alive p (λ d. live (sym e ∙ d)));
    stops = λ h. absurd (omega arith);
    early = λ _ d. true≢false (sym (accepted p d) ∙ ap accepts e ∙ t);
  })
]
  where
    take_whole : (p : List ℕ) → take (length p) p ≡ p
    take_whole p = sym (ap (take (length p)) (append_none p)) ∙ take-append_seam p []

dies : (p bs : List ℕ) (b : ℕ) (s : Scan) → run Start p ≡ s → (s ≡ Dead → ⊥) → after s b ≡ Dead → IsBadPlace (p ++ b ∷ bs) (length p)
dies p bs b s e live d =
    let l : length (p ++ b ∷ bs) ≡ length p + length (b ∷ bs) = length-append p (b ∷ bs) in
    record {
      within = omega arith;
      front = subst CanGoOn (sym (take-append_seam p (b ∷ bs))) (alive p (λ x. live (sym e ∙ x)));
      stops = λ _ g. gone (take (length p + 1) (p ++ b ∷ bs))
          (ap (run Start) (take-append-add p (b ∷ bs) 1) ∙ run-append Start p (b ∷ []) ∙ ap (λ x. after x b) e ∙ d) g;
      early = λ h. absurd (omega arith);
    }

placed : (rest p : List ℕ) (s : Scan) → run Start p ≡ s → (s ≡ Dead → ⊥) → IsPlaced (p ++ rest) (bad_place s (length p) rest)
placed [] p s e live = subst (λ x. IsPlaced x (bad_place s (length p) [])) (sym (append_none p)) (ends p s e live)
placed (b ∷ bs) p s e live = elim (cases_Bool (is_dead (after s b))) [
  | inl t ↦ rw t (dies p bs b s e live (dead_true (after s b) t))
  | inr t ↦ rw t (subst (λ x. IsPlaced x (bad_place (after s b) (length p + 1) bs)) (append_assoc p (b ∷ []) bs)
      (subst (λ n. IsPlaced ((p ++ b ∷ []) ++ bs) (bad_place (after s b) n bs)) (length-append p (b ∷ []))
      (placed bs (p ++ b ∷ []) (after s b) (run-append Start p (b ∷ []) ∙ ap (λ x. after x b) e) (dead_false (after s b) t))))
]

less : (a b : ℕ) → a < b → ltb a b ≡ true
less a b h = le-leb (suc a) b h

not_less : (a b : ℕ) → b ≤ a → ltb a b ≡ false
not_less a b h = lt-leb (suc a) b (omega arith)

module _ (text whole part : List ℕ) (negative : Bool) (shown : IsDecimalText text negative whole part) where
  size : ℕ
  size = digits_in text * 10 ^ (9 - places_in text)

  size_is : size ≡ nano_size whole part
  unfolding size
  size_is = ap (λ n. n * 10 ^ (9 - places_in text)) (digits_shown text whole part negative shown)
      ∙ ap (λ k. number_of (whole ++ part) * 10 ^ (9 - k)) (places_shown text whole part negative shown)

  sign_is : eqb (get_or text 0 0) 45 ≡ negative
  sign_is = elim (sign_shown text whole part negative shown) [
    | inl x ↦ eq-eqb (get_or text 0 0) 45 x.0 ∙ sym x.1
    | inr x ↦ ne_eqb (get_or text 0 0) 45 x.0 ∙ sym x.1
  ]

  value_is : IsParsed text (value_of text)
  unfolding size
  value_is = elim (cases_lt 9 (places_in text)) [
    | inl h ↦ rw (less 9 (places_in text) h) (record {
      negative = negative;
      whole = whole;
      part = part;
      shown = shown;
      places = omega (arith, places_shown text whole part negative shown);
    })
    | inr h ↦ rw (not_less 9 (places_in text) h) (elim (cases_lt (4 * 10 ^ 18) (digits_in text * 10 ^ (9 - places_in text))) [
      | inl l ↦ rw (less (4 * 10 ^ 18) (digits_in text * 10 ^ (9 - places_in text)) l) (record {
        negative = negative;
        whole = whole;
        part = part;
        shown = shown;
        places = omega (arith, places_shown text whole part negative shown);
        large = rw (← size_is) l;
      })
      | inr l ↦ rw (not_less (4 * 10 ^ 18) (digits_in text * 10 ^ (9 - places_in text)) l) (record {
        negative = negative;
        whole = whole;
        part = part;
        shown = shown;
        places = omega (arith, places_shown text whole part negative shown);
        held = rw (← size_is) l;
        value = ap (λ (b : Bool). with_sign b (digits_in text * 10 ^ (9 - places_in text))) sign_is ∙ ap (with_sign negative) size_is;
      })
    ])
  ]

pub decimal_of_text_is : (text : List ℕ) → IsParsed text (decimal_of_text text)
unfolding decimal_of_text
decimal_of_text_is [] = refl
decimal_of_text_is (b ∷ bs) = go (bad_place Start 0 (b ∷ bs)) (placed (b ∷ bs) [] Start refl (λ e. not_dead e))
  where
    not_dead : Start ≡ Dead → ⊥
    not_dead e = cc

    some : b ∷ bs ≢ []
    some e = let l = ap length e in omega arith

    go : (o : Option ℕ) → IsPlaced (b ∷ bs) o → IsParsed (b ∷ bs) (bad_or o (value_of (b ∷ bs)))
    go None d = value_is (b ∷ bs) d.1 d.2 d.0 d.3
    go (Some at) p = (some, p)

pub is_decimal_of_text : (text : List ℕ) (r : Result ℤ DecFault) → IsParsed text r → r ≡ decimal_of_text text
is_decimal_of_text text r p = one_answer text r (decimal_of_text text) p (decimal_of_text_is text)
