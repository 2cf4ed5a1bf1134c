-- a text has one fault at most, and says nothing where it has one
use Rattle.std.proofs.Common.{◌≡◌, ◌⊎◌, ℕ, zero, suc, ◌+◌, ◌-◌, ◌<◌, ◌≤◌, arith, subst, sym, refl, ap, ◌∙◌, inl, inr, List, ◌++◌, length, take, drop, append_assoc, true, false}
use Rattle.std.specs.Prelude.{Option, Some, None, slice_index}
use Rattle.std.proofs.lemmas.Bool.{cases_Bool, cases_lt}
use Rattle.std.proofs.lemmas.List.{take_all, take-append-drop, take-take}
use Rattle.limits_text.specs.declared.control.Control.{Control}
use Rattle.limits_text.specs.Words.{Front, gap, inside, grown, front_of, words_in, goes_on, joins}
use Rattle.text_bytes.specs.Bytes.{is_space}
use Rattle.limits_text.specs.Wrong.{first_wrong, is_past}
use Rattle.limits_text.specs.Fronts.{IsText, CanGoOn, StopsAt, IsStop, IsWrong, IsPast, IsFault}
use Rattle.limits_text.proofs.Growing.{front_more, begun, size_front}

-- what is told at a front stays told however the text goes on
abbrev Told : Control → ℕ → Front → Type 0
Told start at (gap n ws) = first_wrong start ws ≡ Some at
Told start at (inside n ws w) = (first_wrong start ws ≡ Some at) ⊎ ((first_wrong start ws ≡ None) × (is_past start ws ≡ true) × (w.at ≡ at))

told_wrong : (start : Control) (at : ℕ) (r : Front) → Told start at r → first_wrong start (words_in r) ≡ Some at
told_wrong start at (gap n ws) t = t
told_wrong start at (inside n ws w) (inl t) = rw t refl
told_wrong start at (inside n ws w) (inr t) = rw (t.0, t.1, t.2) refl

told_more : (start : Control) (at b : ℕ) (r : Front) → Told start at r → Told start at (grown r b)
told_more start at b (gap n ws) t = elim (cases_Bool (is_space b)) [
  | inl s ↦ rw s t
  | inr s ↦ rw s (inl t)
]
told_more start at b (inside n ws w) t = elim (cases_Bool (joins w.bytes b)) [
  | inl j ↦ rw j t
  | inr j ↦ elim (cases_Bool (is_space b)) [
    | inl s ↦ rw (j, s) (told_wrong start at (inside n ws w) t)
    | inr s ↦ rw (j, s) (inl (told_wrong start at (inside n ws w) t))
  ]
]

-- a wrong value is told behind the end of its word
cut_told : (start : Control) (at b : ℕ) (r : Front) → first_wrong start (words_in r) ≡ Some at → goes_on r b ≡ false → Told start at (grown r b)
cut_told start at b (gap n ws) t j = told_more start at b (gap n ws) t
cut_told start at b (inside n ws w) t j = elim (cases_Bool (is_space b)) [
  | inl s ↦ rw (j, s) t
  | inr s ↦ rw (j, s) (inl t)
]

told_later : (start : Control) (at : ℕ) (text : List ℕ) (k m : ℕ) → k + m ≤ length text → Told start at (front_of (take k text)) → Told start at (front_of (take (k + m) text))
told_later start at text k zero h t = let z : k + zero ≡ k = omega arith in rw z t
told_later start at text k (suc m) h t =
    let z : k + suc m ≡ k + m + 1 = omega arith in
    rw (z, front_more text (k + m) (omega arith)) (told_more start at (slice_index text (k + m)) (front_of (take (k + m) text)) (told_later start at text k m (omega arith) t))

-- from a place on that the text may reach, the fault is told
record IsMarked (start : Control) (text : List ℕ) (at : ℕ) : Type 0 where
  from : ℕ
  within : from ≤ length text
  front : CanGoOn start (take from text)
  later : (k : ℕ) → from ≤ k → k ≤ length text → first_wrong start (words_in (front_of (take k text))) ≡ Some at

told_from : (start : Control) (at : ℕ) (text : List ℕ) (from k : ℕ) → from ≤ k → k ≤ length text → Told start at (front_of (take from text))
    → first_wrong start (words_in (front_of (take k text))) ≡ Some at
told_from start at text from k a h t =
    let z : from + (k - from) ≡ k = omega arith in
    told_wrong start at (front_of (take k text)) (rw z at (told_later start at text from (k - from) (omega arith) t))

wrong_marks : (start : Control) (text : List ℕ) (at : ℕ) → IsWrong start text at → IsMarked start text at
wrong_marks start text at f = record { from = f.found; within = f.within; front = f.front; later = later }
  where
    later : (k : ℕ) → f.found ≤ k → k ≤ length text → first_wrong start (words_in (front_of (take k text))) ≡ Some at
    later k a h = elim (cases_lt f.found k) [
      | inl l ↦ let n : f.found < length text = omega arith in
          told_from start at text (f.found + 1) k (omega arith) h
          (rw (front_more text f.found n) (cut_told start at (slice_index text f.found) (front_of (take f.found text)) f.wrong (f.cut n)))
      | inr l ↦ let z : f.found ≡ k = omega arith in ap (λ i. first_wrong start (words_in (front_of (take i text)))) (sym z) ∙ f.wrong
    ]

past_marks : (start : Control) (text : List ℕ) (at : ℕ) → IsPast start text at → IsMarked start text at
past_marks start text at f = record {
  from = at + 1;
  within = let l = f.within in omega arith;
  front = f.front;
  later = λ k a h. told_from start at text (at + 1) k a h (rw (front_more text at f.within, begun (front_of (take at text)) (slice_index text at) (f.cut f.within) f.begins)
      (inr (f.right, f.past, size_front text at (let l = f.within in omega arith))));
}

some_one : (a b : ℕ) (o : Option ℕ) → o ≡ Some a → o ≡ Some b → a ≡ b
some_one a b o e f = let z : Some a ≡ Some b = sym e ∙ f in cc

some_none : (a : ℕ) (o : Option ℕ) → o ≡ Some a → o ≡ None → ⊥
some_none a o e f = let z : Some a ≡ None = sym e ∙ f in cc

-- a front of a front
goes_before : (start : Control) (text : List ℕ) (j k : ℕ) → j ≤ k → CanGoOn start (take k text) → CanGoOn start (take j text)
goes_before start text j k l g =
    let e = sym (take-append-drop j (take k text)) ∙ ap (λ z. z ++ drop j (take k text)) (take-take j k text l) in
    (drop j (take k text) ++ g.0, subst (IsText start) (ap (λ z. z ++ g.0) e ∙ append_assoc (take j text) (drop j (take k text)) g.0) g.1)

stops_at : (start : Control) (text : List ℕ) (at k : ℕ) → StopsAt start text at → at < length text → at < k → CanGoOn start (take k text) → ⊥
stops_at start text at k s h l g = s.stops h (goes_before start text (at + 1) k (omega arith) g)

marks : (start : Control) (text : List ℕ) (at : ℕ) → IsFault start text at → IsStop start text at ⊎ IsMarked start text at
marks start text at (inl s) = inl s
marks start text at (inr (inl f)) = inr (wrong_marks start text at f)
marks start text at (inr (inr f)) = inr (past_marks start text at f)

-- a text that ends as its grammar says, with no wrong value, has no fault
pub right_text : (start : Control) (text : List ℕ) (at : ℕ) → IsText start text → first_wrong start (words_in (front_of text)) ≡ None → IsFault start text at → ⊥
right_text start text at t r f = go (marks start text at f)
  where
    go : IsStop start text at ⊎ IsMarked start text at → ⊥
    go (inl s) = elim (cases_lt at (length text)) [
      | inl l ↦ s.stops.stops l (drop (at + 1) text, subst (IsText start) (sym (take-append-drop (at + 1) text)) t)
      | inr l ↦ let w = s.stops.within in s.stops.early (omega arith) t
    ]
    go (inr m) = some_none at (first_wrong start (words_in (front_of (take (length text) text)))) (m.later (length text) m.within (omega arith))
        (ap (λ x. first_wrong start (words_in (front_of x))) (take_all (length text) text (omega arith)) ∙ r)

one_stop : (start : Control) (text : List ℕ) (a b : ℕ) → StopsAt start text a → StopsAt start text b → a < b → ⊥
one_stop start text a b s t l = let w = t.within in stops_at start text a b s (omega arith) l t.front

stop_or_mark : (start : Control) (text : List ℕ) (a b : ℕ) → IsStop start text a → IsMarked start text b → ⊥
stop_or_mark start text a b s m = elim (cases_lt a m.from) [
  | inl l ↦ let w = m.within in stops_at start text a m.from s.stops (omega arith) l m.front
  | inr l ↦ some_none b (first_wrong start (words_in (front_of (take a text)))) (m.later a l s.stops.within) s.right
]

one_mark : (start : Control) (text : List ℕ) (a b : ℕ) → IsMarked start text a → IsMarked start text b → a ≡ b
one_mark start text a b m n =
    some_one a b (first_wrong start (words_in (front_of (take (length text) text))))
    (m.later (length text) m.within (omega arith)) (n.later (length text) n.within (omega arith))

pub one_fault : (start : Control) (text : List ℕ) (a b : ℕ) → IsFault start text a → IsFault start text b → a ≡ b
one_fault start text a b f g = go (marks start text a f) (marks start text b g)
  where
    go : IsStop start text a ⊎ IsMarked start text a → IsStop start text b ⊎ IsMarked start text b → a ≡ b
    go (inl s) (inl t) = elim (cases_lt a b) [
      | inl l ↦ absurd (one_stop start text a b s.stops t.stops l)
      | inr l ↦ elim (cases_lt b a) [
        | inl k ↦ absurd (one_stop start text b a t.stops s.stops k)
        | inr k ↦ omega arith
      ]
    ]
    go (inl s) (inr m) = absurd (stop_or_mark start text a b s m)
    go (inr m) (inl s) = absurd (stop_or_mark start text b a s m)
    go (inr m) (inr n) = one_mark start text a b m n
