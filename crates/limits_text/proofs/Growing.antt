-- fronts, a byte at a time
use Rattle.std.proofs.Common.{◌≡◌, ℕ, suc, ◌+◌, ◌-◌, ◌<◌, ◌≤◌, arith, subst, sym, refl, ap, ◌∙◌, inl, inr, List, [], ◌∷◌, ◌++◌, length, take, drop, get_or, true, false, drop-cons, length-drop}
use Rattle.std.specs.Prelude.{slice_index, slice_range}
use Rattle.std.proofs.lemmas.List.{take_more, take_all, get_or-drop, length-take-le}
use Rattle.std.proofs.lemmas.Bool.{true≢false, cases_Bool, cases_lt}
use Rattle.std.specs.Prelude.{◌||◌, ◌==◌, not}
use Rattle.decimal_coords.specs.Scanning.{after, run, is_digit}
use Rattle.decimal_coords.specs.DecimalOfText.{is_dead}
use Rattle.decimal_coords.specs.declared.scan.Scan.{Scan}
use Rattle.decimal_coords.specs.declared.scan.Scan.TheVariants as scan
use Rattle.limits_text.specs.declared.control.WordKind.TheVariants.{Name, Number, Sign}
use Rattle.limits_text.specs.declared.scan.Digits.{Digits}
use Rattle.limits_text.specs.declared.scan.Digits.TheVariants.{Start, Signed, Whole, Point, Places}
use Rattle.limits_text.specs.Digits.{scan_of}
use Rattle.limits_text.specs.Words.{Front, gap, inside, grown, grown_by, front_of, words_in, is_gap, goes_on, joins, kind_of, kind_from, word, IsCut}
use Rattle.text_bytes.specs.Bytes.{is_letter, is_space}
use Rattle.limits_text.specs.Behind.{IsWordTo}
use Rattle.limits_text.proofs.Alive.{grown-append}
use Rattle.decimal_coords.proofs.Scanned.{run-append}

pub front_more : (text : List ℕ) (i : ℕ) → i < length text → front_of (take (i + 1) text) ≡ grown (front_of (take i text)) (slice_index text i)
front_more text i h = rw (take_more text i 0 h, grown-append (gap 0 []) (take i text) (get_or text i 0 ∷ [])) refl

pub front_all : (text : List ℕ) (i : ℕ) → length text ≤ i → front_of (take i text) ≡ front_of text
front_all text i h = ap front_of (take_all i text h)

abbrev pub size : Front → ℕ
size (gap n ws) = n
size (inside n ws w) = n

size_more : (r : Front) (b : ℕ) → size (grown r b) ≡ size r + 1
size_more (gap n ws) b = elim (cases_Bool (is_space b)) [
  | inl s ↦ rw s refl
  | inr s ↦ rw s refl
]
size_more (inside n ws w) b = elim (cases_Bool (joins w.bytes b)) [
  | inl j ↦ rw j refl
  | inr j ↦ elim (cases_Bool (is_space b)) [
    | inl s ↦ rw (j, s) refl
    | inr s ↦ rw (j, s) refl
  ]
]

size_by : (r : Front) (bs : List ℕ) → size (grown_by r bs) ≡ size r + length bs
size_by r [] = omega arith
size_by r (b ∷ bs) = omega (arith, size_by (grown r b) bs, size_more r b)

pub space_words : (r : Front) (b : ℕ) → goes_on r b ≡ false → is_space b ≡ true → words_in (grown r b) ≡ words_in r
space_words (gap n ws) b j s = rw s refl
space_words (inside n ws w) b j s = rw (j, s) refl

pub space_gap : (r : Front) (b : ℕ) → goes_on r b ≡ false → is_space b ≡ true → is_gap (grown r b) ≡ true
space_gap (gap n ws) b j s = rw s refl
space_gap (inside n ws w) b j s = rw (j, s) refl

pub gap_cut : (r : Front) (b : ℕ) → is_gap r ≡ true → goes_on r b ≡ false
gap_cut (gap n ws) b e = refl
gap_cut (inside n ws w) b e = absurd (true≢false (sym e))

pub begun : (r : Front) (b : ℕ) → goes_on r b ≡ false → is_space b ≡ false → grown r b ≡ inside (size r + 1) (words_in r) (word (size r) (is_gap r) (b ∷ []))
begun (gap n ws) b j s = rw s refl
begun (inside n ws w) b j s = rw (j, s) refl

pub size_front : (text : List ℕ) (i : ℕ) → i ≤ length text → size (front_of (take i text)) ≡ i
size_front text i h = omega (arith, size_by (gap 0 []) (take i text), length-take-le i text h)

pub slice_more : (text : List ℕ) (start k : ℕ) → start ≤ k → k < length text → slice_range text start (k + 1) ≡ slice_range text start k ++ slice_index text k ∷ []
slice_more text start k a b = go (k - start) (omega arith)
  where
    go : (n : ℕ) → k ≡ start + n → take (k + 1 - start) (drop start text) ≡ take (k - start) (drop start text) ++ slice_index text k ∷ []
    go n e =
        let l : k + 1 - start ≡ n + 1 = omega arith in
        let m : k - start ≡ n = omega arith in
        rw (l, m) (take_more (drop start text) n 0 (omega (arith, length-drop start text)) ∙ ap (λ x. take n (drop start text) ++ x ∷ []) (get_or-drop start text n 0 ∙ ap (λ i. get_or text i 0) (sym e)))

slice_none : (text : List ℕ) (start : ℕ) → slice_range text start start ≡ []
slice_none text start = let e : start - start ≡ 0 = omega arith in rw e refl

slice_first : (text : List ℕ) (start : ℕ) → start < length text → slice_range text start (start + 1) ≡ slice_index text start ∷ []
slice_first text start h = slice_more text start start (omega arith) h ∙ ap (λ x. x ++ slice_index text start ∷ []) (slice_none text start)

pub begin_word : (text : List ℕ) (start : ℕ) → start < length text → IsCut text start → is_space (slice_index text start) ≡ false → IsWordTo text start (start + 1)
begin_word text start h c s =
    front_more text start h ∙ begun (front_of (take start text)) (slice_index text start) (c h) s
    ∙ rw (size_front text start (omega arith), slice_first text start h) refl

pub grow_word : (text : List ℕ) (start k : ℕ) → start ≤ k → k < length text → IsWordTo text start k → joins (slice_range text start k) (slice_index text k) ≡ true → IsWordTo text start (k + 1)
grow_word text start k a h w j = front_more text k h ∙ rw (w, j) (ap (λ x. inside (k + 1) (words_in (front_of (take start text))) (word start (is_gap (front_of (take start text))) x)) (sym (slice_more text start k a h)))

pub cut_word : (text : List ℕ) (start k : ℕ) → IsWordTo text start k → (k < length text → joins (slice_range text start k) (slice_index text k) ≡ false) → IsCut text k
cut_word text start k w j h = ap (λ r. goes_on r (slice_index text k)) w ∙ j h

pub kind_slice : (text : List ℕ) (start k : ℕ) → start < k → k ≤ length text → kind_of (slice_range text start k) ≡ kind_from (slice_index text start)
kind_slice text start k a h = go (k - start - 1) (omega arith)
  where
    go : (n : ℕ) → k ≡ start + suc n → kind_of (take (k - start) (drop start text)) ≡ kind_from (slice_index text start)
    go n e =
        let m : k - start ≡ suc n = omega arith in
        rw (m, drop-cons text start 0 (omega arith)) refl

pub word_upto : (text : List ℕ) (start e : ℕ) → ((k : ℕ) → start < k → k ≤ e → IsWordTo text start k) → IsWordTo text start (e + 1) → (k : ℕ) → start < k → k ≤ e + 1 → IsWordTo text start k
word_upto text start e old new k a b = elim (cases_lt e k) [
  | inl l ↦ let z : e + 1 ≡ k = omega arith in rw z at new
  | inr l ↦ old k a l
]

pub word_only : (text : List ℕ) (start : ℕ) → IsWordTo text start (start + 1) → (k : ℕ) → start < k → k ≤ start + 1 → IsWordTo text start k
word_only text start new k a b = let z : start + 1 ≡ k = omega arith in rw z at new

-- a space more
pub skip_words : (text : List ℕ) (i : ℕ) → i < length text → IsCut text i → is_space (slice_index text i) ≡ true → words_in (front_of (take (i + 1) text)) ≡ words_in (front_of (take i text))
skip_words text i h c s = ap words_in (front_more text i h) ∙ space_words (front_of (take i text)) (slice_index text i) (c h) s

pub skip_gap : (text : List ℕ) (i : ℕ) → i < length text → IsCut text i → is_space (slice_index text i) ≡ true → is_gap (front_of (take (i + 1) text)) ≡ true
skip_gap text i h c s = ap is_gap (front_more text i h) ∙ space_gap (front_of (take i text)) (slice_index text i) (c h) s

-- a name
pub name_goes : (text : List ℕ) (start k : ℕ) → start < k → k ≤ length text → kind_from (slice_index text start) ≡ Name → (b : ℕ) → joins (slice_range text start k) b ≡ (is_letter b || is_digit b)
name_goes text start k a h n b = rw (kind_slice text start k a h, n) refl

pub sign_goes : (text : List ℕ) (start k s : ℕ) → start < k → k ≤ length text → kind_from (slice_index text start) ≡ Sign s → (b : ℕ) → joins (slice_range text start k) b ≡ false
sign_goes text start k s a h n b = rw (kind_slice text start k a h, n) refl

pub number_goes : (text : List ℕ) (start k : ℕ) → start < k → k ≤ length text → kind_from (slice_index text start) ≡ Number → (b : ℕ) → joins (slice_range text start k) b ≡ not (is_dead (after (run scan.Start (slice_range text start k)) b))
number_goes text start k a h n b = rw (kind_slice text start k a h, n) refl

pub scan_lives : (d : Digits) (s : Scan) → scan_of d ≡ s → not (is_dead s) ≡ true
scan_lives Signed s e = rw (← e) refl
scan_lives Start s e = rw (← e) refl
scan_lives Whole s e = rw (← e) refl
scan_lives Point s e = rw (← e) refl
scan_lives Places s e = rw (← e) refl

pub number_begins : (b : ℕ) → kind_from b ≡ Number → after scan.Start b ≡ scan.Dead → ⊥
number_begins b k e = elim (cases_Bool (b == 43)) [
  | inl p ↦ let z : scan.Signed ≡ scan.Dead = rw p at e in cc
  | inr p ↦ elim (cases_Bool (b == 45)) [
    | inl q ↦ let z : scan.Signed ≡ scan.Dead = rw (p, q) at e in cc
    | inr q ↦ elim (cases_Bool (is_digit b)) [
      | inl d ↦ let z : scan.Whole ≡ scan.Dead = rw (p, q, d) at e in cc
      | inr d ↦ elim (cases_Bool (b == 46)) [
        | inl r ↦ let z : scan.Point ≡ scan.Dead = rw (p, q, d, r) at e in cc
        | inr r ↦ elim (cases_Bool (is_letter b)) [
          | inl l ↦ let z : Name ≡ Number = rw l at k in cc
          | inr l ↦ let z : Sign b ≡ Number = rw (l, d, p, q, r) at k in cc
        ]
      ]
    ]
  ]
]

-- the number's first byte, or a later one
pub number_first : (text : List ℕ) (start e : ℕ) → start ≤ e → e < length text → kind_from (slice_index text start) ≡ Number
    → after (run scan.Start (slice_range text start e)) (slice_index text e) ≡ scan.Dead → start < e
number_first text start e a h k d = elim (cases_lt start e) [
  | inl l ↦ l
  | inr l ↦ absurd (number_begins (slice_index text start) k (go e (omega arith) d))
]
  where
    go : (i : ℕ) → start ≡ i → after (run scan.Start (slice_range text start i)) (slice_index text i) ≡ scan.Dead → after scan.Start (slice_index text start) ≡ scan.Dead
    go i z f =
        let g : after (run scan.Start (slice_range text start start)) (slice_index text start) ≡ scan.Dead = rw (← z) at f in
        rw (slice_none text start) at g

pub number_cut : (text : List ℕ) (start e : ℕ) → start < e → e < length text → kind_from (slice_index text start) ≡ Number
    → after (run scan.Start (slice_range text start e)) (slice_index text e) ≡ scan.Dead → joins (slice_range text start e) (slice_index text e) ≡ false
number_cut text start e a h k d = number_goes text start e a (omega arith) k (slice_index text e) ∙ ap (λ s. not (is_dead s)) d

pub run_more : (text : List ℕ) (start e : ℕ) (s t : Scan) → start ≤ e → e < length text → s ≡ run scan.Start (slice_range text start e) → t ≡ after s (slice_index text e)
    → t ≡ run scan.Start (slice_range text start (e + 1))
run_more text start e s t a h o n = n ∙ rw (o, slice_more text start e a h, run-append scan.Start (slice_range text start e)) refl

pub number_more : (text : List ℕ) (start e : ℕ) (d : Digits) (s : Scan) → start ≤ e → e < length text → IsCut text start → is_space (slice_index text start) ≡ false
    → kind_from (slice_index text start) ≡ Number → s ≡ run scan.Start (slice_range text start e) → scan_of d ≡ after s (slice_index text e)
    → ((k : ℕ) → start < k → k ≤ e → IsWordTo text start k) → IsWordTo text start (e + 1)
number_more text start e d s a h c z k o n old = elim (cases_lt start e) [
  | inl l ↦ grow_word text start e a h (old e l (omega arith))
      (number_goes text start e l (omega arith) k (slice_index text e) ∙ scan_lives d _ (n ∙ ap (λ x. after x (slice_index text e)) o))
  | inr l ↦ let y : start ≡ e = omega arith in subst (λ i. IsWordTo text start (i + 1)) y (begin_word text start (omega arith) c z)
]
