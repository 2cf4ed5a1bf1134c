-- what is known where a word can't be taken, and where one is
use Rattle.std.proofs.Common.{◌⊎◌, zero, suc, ◌≡◌, ℕ, ◌+◌, ◌-◌, ◌<◌, ◌≤◌, arith, subst, sym, refl, ap, ◌∙◌, inl, inr, List, [], ◌∷◌, length, take, Bool, true, false}
use Rattle.std.specs.Prelude.{IsTrue, Ok, Result, ℤ, ◌&&◌, ◌||◌, ◌==◌, not, Some, None, is_some, slice_index, slice_range}
use Rattle.std.proofs.lemmas.Bool.{true≢false, cases_Bool, cases_lt, ne_eqb, eq-eqb, and_from}
use Rattle.std.proofs.lemmas.List.{take_all}
use Rattle.limits_text.specs.declared.control.WordKind.{WordKind}
use Rattle.limits_text.specs.declared.control.WordKind.TheVariants.{Name, Number, Sign}
use Rattle.limits_text.specs.declared.control.Control.{Control}
use Rattle.limits_text.specs.Words.{Word, Front, gap, inside, grown, front_of, words_in, is_gap, goes_on, joins, kind_of, kind_from, IsCut}
use Rattle.text_bytes.specs.Bytes.{is_space}
use Rattle.decimal_coords.specs.Scanning.{accepts, run}
use Rattle.decimal_coords.specs.DecimalOfText.{is_dead, decimal_of_text}
use Rattle.decimal_coords.specs.declared.scan.Scan.TheVariants.{Start}
use Rattle.limits_text.specs.Follows.{keyword, is_name, begins, wants_space, control, is_alive, is_whole, is_end, may_be_end, next_behind, behind, behind_word, fits, stands}
use Rattle.limits_text.specs.Wrong.{is_unheld, first_wrong, wrong_word, is_past}
use Rattle.limits_text.specs.Fronts.{IsText, CanGoOn, IsStop, IsWrong, IsReached, IsBefore, IsFault}
use Rattle.limits_text.specs.Taken.{IsTaken}
use Rattle.limits_text.specs.Behind.{IsWordTo, word_to}
use Rattle.limits_text.proofs.Alive.{alive, gone, settled_alive}
use Rattle.decimal_coords.proofs.TextDecimals.{decimal_of_text_is}
use Rattle.decimal_coords.proofs.Scanned.{accepted}
use Rattle.limits_text.proofs.Keywords.{take_slice}
use Rattle.decimal_coords.specs.declared.parse.DecFault.{DecFault}
use Rattle.limits_text.proofs.Growing.{front_more, begin_word, kind_slice}

pub whole_is : (start : Control) (r : Front) → is_whole start r ≡ may_be_end (control start (words_in r))
whole_is start (gap n ws) = refl
whole_is start (inside n ws w) = refl

goes : (start c : Control) (text : List ℕ) (place : ℕ) → IsBefore start c text place → CanGoOn start (take place text)
goes start c text place b = alive start (take place text) (settled_alive start (front_of (take place text)) (rw b.next refl))

-- the end of the text, where it may be
pub ends_whole : (start c : Control) (text : List ℕ) (place : ℕ) → IsBefore start c text place → place ≡ length text → is_end c ≡ true → IsText start text
ends_whole start c text place b e t =
    whole_is start (front_of text) ∙ ap (λ r. may_be_end (control start (words_in r))) (sym (ap front_of (take_all place text (omega arith)))) ∙ ap may_be_end b.next ∙ t

-- the end of the text, too early
pub ends_early : (start c : Control) (text : List ℕ) (place : ℕ) → IsBefore start c text place → place ≡ length text → is_end c ≡ false → IsStop start text place
ends_early start c text place b e t = record {
  stops = record {
    within = b.within;
    front = goes start c text place b;
    stops = λ h. absurd (omega arith);
    early = λ h w. true≢false (sym w ∙ whole_is start (front_of text) ∙ ap (λ r. may_be_end (control start (words_in r))) (sym (ap front_of (take_all place text (omega arith)))) ∙ ap may_be_end b.next ∙ t);
  };
  right = b.right;
}

-- no word may begin so
pub begins_none : (start c : Control) (text : List ℕ) (place : ℕ) → IsBefore start c text place → place < length text
    → fits c (word_to text place (place + 1)) ≡ false → IsStop start text place
begins_none start c text place b h f = record {
  stops = record {
    within = b.within;
    front = goes start c text place b;
    stops = λ l. gone start (take (place + 1) text) (ap (is_alive start) (begin_word text place h b.cut (b.stops h)) ∙ rw b.next f);
    early = λ e. absurd (omega arith);
  };
  right = b.right;
}

last_right : (start c : Control) (text : List ℕ) (place : ℕ) (w : Word) → IsBefore start c text place → wrong_word start (kind_of w.bytes) w (words_in (front_of (take place text))) ≡ None
    → first_wrong start (w ∷ words_in (front_of (take place text))) ≡ None
last_right start c text place w b n = rw (b.right, b.room) n

-- a word that began well stops within
pub stops_within : (start c : Control) (text : List ℕ) (place q : ℕ) → IsBefore start c text place → place < q → q < length text
    → IsWordTo text place q → IsWordTo text place (q + 1)
    → fits c (word_to text place q) ≡ true
    → fits c (word_to text place (q + 1)) ≡ false
    → wrong_word start (kind_of (slice_range text place q)) (word_to text place q) (words_in (front_of (take place text))) ≡ None
    → IsStop start text q
stops_within start c text place q b a h w v f g n = record {
  stops = record {
    within = omega arith;
    front = alive start (take q text) (ap (is_alive start) w ∙ rw b.next f);
    stops = λ l. gone start (take (q + 1) text) (ap (is_alive start) v ∙ rw b.next g);
    early = λ e. absurd (omega arith);
  };
  right = ap (λ r. first_wrong start (words_in r)) w ∙ last_right start c text place (word_to text place q) b n;
}

dead_behind : (start : Control) (n b : ℕ) (ws : List Word) (w : Word) → joins w.bytes b ≡ false → next_behind (control start ws) w ≡ None
    → is_alive start (grown (inside n ws w) b) ≡ false
dead_behind start n b ws w j e = elim (cases_Bool (is_space b)) [
  | inl s ↦ rw (j, s, e) refl
  | inr s ↦ rw (j, s, e) refl
]

-- a word ends before it is whole
pub stops_behind : (start c : Control) (text : List ℕ) (place q : ℕ) → IsBefore start c text place → place < q → q ≤ length text
    → IsWordTo text place q → IsCut text q
    → fits c (word_to text place q) ≡ true
    → behind_word c (word_to text place q) ≡ None
    → wrong_word start (kind_of (slice_range text place q)) (word_to text place q) (words_in (front_of (take place text))) ≡ None
    → IsStop start text q
stops_behind start c text place q b a h w k f g n = record {
  stops = record {
    within = h;
    front = alive start (take q text) (ap (is_alive start) w ∙ rw b.next f);
    stops = λ l. gone start (take (q + 1) text)
        (ap (is_alive start) (front_more text q l ∙ ap (λ r. grown r (slice_index text q)) w)
        ∙ dead_behind start q (slice_index text q) (words_in (front_of (take place text))) (word_to text place q)
        (ap (λ r. goes_on r (slice_index text q)) (sym w) ∙ k l) (rw b.next g));
    early = λ e t. true≢false (sym t ∙ ap (is_whole start) (sym (ap front_of (take_all q text (omega arith))) ∙ w) ∙ ap may_be_end (ap (λ o. next_behind o (word_to text place q)) b.next ∙ g));
  };
  right = ap (λ r. first_wrong start (words_in r)) w ∙ last_right start c text place (word_to text place q) b n;
}

-- a word whose value is wrong
pub wrong_in : (start c : Control) (text : List ℕ) (place q at : ℕ) → IsBefore start c text place → place < q → q ≤ length text
    → IsWordTo text place q → IsCut text q
    → fits c (word_to text place q) ≡ true
    → wrong_word start (kind_of (slice_range text place q)) (word_to text place q) (words_in (front_of (take place text))) ≡ Some at
    → IsWrong start text at
wrong_in start c text place q at b a h w k f n = record {
  found = q;
  within = h;
  cut = k;
  front = alive start (take q text) (ap (is_alive start) w ∙ rw b.next f);
  wrong = ap (λ r. first_wrong start (words_in r)) w ∙ rw (b.right, b.room) n;
}

-- a word is taken
pub taken : (start c d : Control) (text : List ℕ) (place q : ℕ) → IsBefore start c text place → place < q → q ≤ length text
    → IsWordTo text place q → IsCut text q
    → behind_word c (word_to text place q) ≡ Some d
    → IsReached start d text q
taken start c d text place q b a h w k g = record {
  within = h;
  cut = k;
  next = ap (λ r. control start (words_in r)) w ∙ rw b.next g;
  behind = λ z. ap is_gap w;
}

-- when a word fits
pub and_false : (a : Bool) → (a && false) ≡ false
and_false true = refl
and_false false = refl

pub unfit_kind : (c : Control) (text : List ℕ) (place : ℕ) (k : WordKind) → place < length text → k ≡ kind_from (slice_index text place) → behind c k ≡ None → fits c (word_to text place (place + 1)) ≡ false
unfit_kind c text place k h e n = rw (kind_slice text place (place + 1) (omega arith) (omega arith), ← e, n) refl

pub unfit_name : (c : Control) (text : List ℕ) (place q : ℕ) (ks : List ℕ) → place < q → q ≤ length text → kind_from (slice_index text place) ≡ Name → keyword c ≡ Some ks
    → begins (slice_range text place q) ks ≡ false → fits c (word_to text place q) ≡ false
unfit_name c text place q ks a h k e n = rw (kind_slice text place q a h, k, e, n) (and_false (is_some (behind c Name)))

pub fit_name : (c : Control) (text : List ℕ) (place q : ℕ) (ks : List ℕ) → place < q → q ≤ length text → kind_from (slice_index text place) ≡ Name → keyword c ≡ Some ks → is_some (behind c Name) ≡ true
    → begins (slice_range text place q) ks ≡ true → fits c (word_to text place q) ≡ true
fit_name c text place q ks a h k e s n = rw (kind_slice text place q a h, k, e, s) n

pub short_name : (c : Control) (text : List ℕ) (place q : ℕ) (ks : List ℕ) → place < q → q ≤ length text → kind_from (slice_index text place) ≡ Name → keyword c ≡ Some ks
    → (begins (slice_range text place q) ks && length (slice_range text place q) == length ks) ≡ false → behind_word c (word_to text place q) ≡ None
short_name c text place q ks a h k e n = rw (kind_slice text place q a h, k, e, n) refl

pub unfit_glued : (c : Control) (text : List ℕ) (place q : ℕ) → place < q → q ≤ length text → kind_from (slice_index text place) ≡ Number
    → (is_gap (front_of (take place text)) || not (wants_space c)) ≡ false → fits c (word_to text place q) ≡ false
unfit_glued c text place q a h k e = rw (kind_slice text place q a h, k, e) (and_false (is_some (behind c Number)))

pub fit_number : (c : Control) (text : List ℕ) (place q : ℕ) → place < q → q ≤ length text → kind_from (slice_index text place) ≡ Number → is_some (behind c Number) ≡ true
    → (is_gap (front_of (take place text)) || not (wants_space c)) ≡ true → not (is_dead (run Start (slice_range text place q))) ≡ true → fits c (word_to text place q) ≡ true
fit_number c text place q a h k s e n = rw (kind_slice text place q a h, k, s, e) n

pub short_number : (c : Control) (text : List ℕ) (place q : ℕ) → place < q → q ≤ length text → kind_from (slice_index text place) ≡ Number
    → accepts (run Start (slice_range text place q)) ≡ false → behind_word c (word_to text place q) ≡ None
short_number c text place q a h k n = rw (kind_slice text place q a h, k, n, and_false (is_gap (front_of (take place text)) || not (wants_space c))) refl

pub name_right : (start : Control) (text : List ℕ) (place q : ℕ) (ws : List Word) → place < q → q ≤ length text → kind_from (slice_index text place) ≡ Name
    → wrong_word start (kind_of (slice_range text place q)) (word_to text place q) ws ≡ None
name_right start text place q ws a h k = rw (kind_slice text place q a h, k) refl

pub number_right : (start : Control) (text : List ℕ) (place q : ℕ) (ws : List Word) → place < q → q ≤ length text → kind_from (slice_index text place) ≡ Number
    → is_unheld (decimal_of_text (slice_range text place q)) ≡ false → wrong_word start (kind_of (slice_range text place q)) (word_to text place q) ws ≡ None
number_right start text place q ws a h k u = rw (kind_slice text place q a h, k, u) refl

pub number_wrong : (start : Control) (text : List ℕ) (place q : ℕ) (ws : List Word) → place < q → q ≤ length text → kind_from (slice_index text place) ≡ Number
    → is_unheld (decimal_of_text (slice_range text place q)) ≡ true → wrong_word start (kind_of (slice_range text place q)) (word_to text place q) ws ≡ Some place
number_wrong start text place q ws a h k u = rw (kind_slice text place q a h, k, u) refl

-- ---- numbers and names

pub number_unheld : (start c : Control) (text : List ℕ) (place q : ℕ) (r : Result ℤ DecFault) → IsBefore start c text place → place < q → q ≤ length text → IsWordTo text place q → IsCut text q
    → kind_from (slice_index text place) ≡ Number → is_some (behind c Number) ≡ true → (is_gap (front_of (take place text)) || not (wants_space c)) ≡ true
    → not (is_dead (run Start (slice_range text place q))) ≡ true → decimal_of_text (slice_range text place q) ≡ r → is_unheld r ≡ true → IsWrong start text place
number_unheld start c text place q r b a h w t k s g l e u =
    wrong_in start c text place q place b a h w t (fit_number c text place q a h k s g l) (number_wrong start text place q (words_in (front_of (take place text))) a h k (ap is_unheld e ∙ u))

pub number_stops : (start c : Control) (text : List ℕ) (place q : ℕ) (r : Result ℤ DecFault) → IsBefore start c text place → place < q → q ≤ length text → IsWordTo text place q → IsCut text q
    → kind_from (slice_index text place) ≡ Number → is_some (behind c Number) ≡ true → (is_gap (front_of (take place text)) || not (wants_space c)) ≡ true
    → not (is_dead (run Start (slice_range text place q))) ≡ true → decimal_of_text (slice_range text place q) ≡ r → is_unheld r ≡ false
    → accepts (run Start (slice_range text place q)) ≡ false → IsStop start text q
number_stops start c text place q r b a h w t k s g l e u n =
    stops_behind start c text place q b a h w t (fit_number c text place q a h k s g l) (short_number c text place q a h k n)
    (number_right start text place q (words_in (front_of (take place text))) a h k (ap is_unheld e ∙ u))

pub name_within : (start c : Control) (text : List ℕ) (place q : ℕ) (ks : List ℕ) (same : ℕ) → IsBefore start c text place → place < q → q ≤ length text
    → ((k : ℕ) → place < k → k ≤ q → IsWordTo text place k) → kind_from (slice_index text place) ≡ Name → keyword c ≡ Some ks → is_some (behind c Name) ≡ true
    → place + same < q → begins (take same (slice_range text place q)) ks ≡ true → begins (take (same + 1) (slice_range text place q)) ks ≡ false → IsStop start text (place + same)
name_within start c text place q ks same b a h w k e s l t f = elim (cases_lt 0 same) [
  | inl z ↦ stops_within start c text place (place + same) b (omega arith) (omega arith) (w (place + same) (omega arith) (omega arith)) (w (place + same + 1) (omega arith) (omega arith))
      (fit_name c text place (place + same) ks (omega arith) (omega arith) k e s (ap (λ x. begins x ks) (sym (take_slice same text place q (omega arith))) ∙ t))
      (unfit_name c text place (place + same + 1) ks (omega arith) (omega arith) k e g)
      (name_right start text place (place + same) (words_in (front_of (take place text))) (omega arith) (omega arith) k)
  | inr z ↦ let y : place ≡ place + same = omega arith in
      subst (IsStop start text) y (begins_none start c text place b (omega arith)
      (unfit_name c text place (place + 1) ks (omega arith) (omega arith) k e (subst (λ i. begins (slice_range text place (i + 1)) ks ≡ false) (sym y) g)))
]
  where
    g : begins (slice_range text place (place + same + 1)) ks ≡ false
    g = let y : place + (same + 1) ≡ place + same + 1 = omega arith in
        ap (λ i. begins (slice_range text place i) ks) (sym y) ∙ ap (λ x. begins x ks) (sym (take_slice (same + 1) text place q (omega arith))) ∙ f

pub name_behind : (start c : Control) (text : List ℕ) (place q : ℕ) (ks : List ℕ) → IsBefore start c text place → place < q → q ≤ length text → IsCut text q
    → IsWordTo text place q → kind_from (slice_index text place) ≡ Name → keyword c ≡ Some ks → is_some (behind c Name) ≡ true
    → begins (slice_range text place q) ks ≡ true → length (slice_range text place q) < length ks → IsStop start text q
name_behind start c text place q ks b a h t w k e s g l =
    stops_behind start c text place q b a h w t (fit_name c text place q ks a h k e s g)
    (short_name c text place q ks a h k e (rw (g, ne_eqb (length (slice_range text place q)) (length ks) (λ z. omega arith)) refl))
    (name_right start text place q (words_in (front_of (take place text))) a h k)

pub name_is : (c : Control) (bs ks : List ℕ) → keyword c ≡ Some ks → begins bs ks ≡ true → length bs ≡ length ks → is_name (keyword c) bs ≡ true
name_is c bs ks e g l = rw e (and_from (begins bs ks) (length bs == length ks) g (eq-eqb _ _ l))

pub stands_name : (c : Control) (text : List ℕ) (place q : ℕ) → kind_of (slice_range text place q) ≡ Name → is_name (keyword c) (slice_range text place q) ≡ true → stands c (kind_of (slice_range text place q)) (word_to text place q) ≡ true
stands_name c text place q k n = rw k n

pub stands_number : (c : Control) (text : List ℕ) (place q : ℕ) → kind_of (slice_range text place q) ≡ Number → (is_gap (front_of (take place text)) || not (wants_space c)) ≡ true
    → accepts (run Start (slice_range text place q)) ≡ true → stands c (kind_of (slice_range text place q)) (word_to text place q) ≡ true
stands_number c text place q k s a = rw (k, s) a

pub stands_sign : (c : Control) (text : List ℕ) (place q b : ℕ) → kind_of (slice_range text place q) ≡ Sign b → stands c (kind_of (slice_range text place q)) (word_to text place q) ≡ true
stands_sign c text place q b k = rw k refl

pub standing : (c d : Control) (text : List ℕ) (place q : ℕ) (k : WordKind) → kind_of (slice_range text place q) ≡ k → behind c k ≡ Some d
    → stands c (kind_of (slice_range text place q)) (word_to text place q) ≡ true → behind_word c (word_to text place q) ≡ Some d
standing c d text place q k e n s = rw (s, e) n

pub value_accepts : (bs : List ℕ) (n : ℤ) → decimal_of_text bs ≡ Ok n → accepts (run Start bs) ≡ true
value_accepts bs n e = let h = rw e at (decimal_of_text_is bs) in accepted bs (h.negative, h.whole, h.part, h.shown)

pub skipped : (start c : Control) (text : List ℕ) (at place : ℕ) → IsReached start c text at → first_wrong start (words_in (front_of (take at text))) ≡ None → is_past start (words_in (front_of (take at text))) ≡ false
    → place ≤ length text → IsCut text place → words_in (front_of (take place text)) ≡ words_in (front_of (take at text)) → (place < length text → is_space (slice_index text place) ≡ false) → IsBefore start c text place
skipped start c text at place r f p h k w s = record { within = h; cut = k; next = rw w r.next; right = rw w f; room = rw w p; stops = s }

pub spaced_is : (text : List ℕ) (at place : ℕ) (t : Bool) → at ≤ place → (at < place → is_gap (front_of (take place text)) ≡ true) → (0 < at → is_gap (front_of (take at text)) ≡ false)
    → (IsTrue t → (at < place) ⊎ (at ≡ 0)) → ((at < place) ⊎ (at ≡ 0) → IsTrue t) → t ≡ is_gap (front_of (take place text))
spaced_is text at place t l g b f h = elim (cases_lt at place) [
  | inl z ↦ is_true t (h (inl z)) ∙ sym (g z)
  | inr z ↦ let e : at ≡ place = omega arith in subst (λ i. t ≡ is_gap (front_of (take i text))) e (go at refl z)
]
  where
    is_true : (x : Bool) → IsTrue x → x ≡ true
    is_true true y = refl
    is_true false y = y

    is_false : (x : Bool) → (IsTrue x → ⊥) → x ≡ false
    is_false true y = absurd (y refl)
    is_false false y = refl

    go : (i : ℕ) → i ≡ at → place ≤ at → t ≡ is_gap (front_of (take at text))
    go zero e z = rw (← e) (is_true t (h (inr (sym e))))
    go (suc i) e z = is_false t (λ y. elim (f y) [
      | inl q ↦ omega arith
      | inr q ↦ omega arith
    ]) ∙ sym (b (omega arith))

pub taken_whole : (start c d : Control) (text : List ℕ) (place q : ℕ) (k : WordKind) (v : ℤ) → IsBefore start c text place → place < q → q ≤ length text
    → IsWordTo text place q → IsCut text q → k ≡ kind_from (slice_index text place) → behind c k ≡ Some d
    → (k ≡ Name → is_name (keyword c) (slice_range text place q) ≡ true)
    → (k ≡ Number → (is_gap (front_of (take place text)) || not (wants_space c)) ≡ true)
    → (k ≡ Number → decimal_of_text (slice_range text place q) ≡ Ok v)
    → ((b : ℕ) → k ≡ Sign b → slice_range text place q ≡ b ∷ [])
    → (k ≡ Name → slice_index text place < 128) → (k ≡ Name → slice_index text (q - 1) < 128)
    → IsTaken start c text place (record { start = place; end = q; kind = k; value = v; control = d })
taken_whole start c d text place q k v b a h w t e n name apart value sign first last = record {
  from = omega arith;
  low = a;
  within = h;
  reached = taken start c d text place q b a h w t (standing c d text place q k z n (go k refl));
  words = ap words_in w;
  kind = z;
  behind = n;
  name = name;
  spaced = apart;
  value = value;
  sign = sign;
  first = first;
  last = last;
}
  where
    z : kind_of (slice_range text place q) ≡ k
    z = kind_slice text place q a h ∙ sym e

    go : (l : WordKind) → k ≡ l → stands c (kind_of (slice_range text place q)) (word_to text place q) ≡ true
    go Name y = stands_name c text place q (z ∙ y) (name y)
    go Number y = stands_number c text place q (z ∙ y) (apart y) (value_accepts (slice_range text place q) v (value y))
    go (Sign s) y = stands_sign c text place q s (z ∙ y)

-- a part that is one too many
pub past_fault : (start c : Control) (text : List ℕ) (at place : ℕ) → IsReached start c text at → first_wrong start (words_in (front_of (take at text))) ≡ None → is_past start (words_in (front_of (take at text))) ≡ true
    → is_end c ≡ false → place ≤ length text → IsCut text place → words_in (front_of (take place text)) ≡ words_in (front_of (take at text)) → (place < length text → is_space (slice_index text place) ≡ false) → IsFault start text place
past_fault start c text at place r f p e h k w s = elim (cases_lt place (length text)) [
  | inr l ↦ inl (record {
    stops = record {
      within = h;
      front = front;
      stops = λ y. absurd (omega arith);
      early = λ y t. true≢false (sym t ∙ whole_is start (front_of text) ∙ ap (λ r. may_be_end (control start (words_in r))) (sym (ap front_of (take_all place text (omega arith)))) ∙ ap may_be_end next ∙ e);
    };
    right = ap (first_wrong start) w ∙ f;
  })
  | inl l ↦ go l (fits c (word_to text place (place + 1))) refl
]
  where
    next : control start (words_in (front_of (take place text))) ≡ Some c
    next = ap (control start) w ∙ r.next

    front : CanGoOn start (take place text)
    front = alive start (take place text) (settled_alive start (front_of (take place text)) (rw next refl))

    go : place < length text → (t : Bool) → fits c (word_to text place (place + 1)) ≡ t → IsFault start text place
    go l true y = inr (inr (record {
      within = l;
      cut = k;
      begins = s l;
      front = alive start (take (place + 1) text) (ap (is_alive start) (begin_word text place l k (s l)) ∙ rw next y);
      right = ap (first_wrong start) w ∙ f;
      past = ap (is_past start) w ∙ p;
    }))
    go l false y = inl (record {
      stops = record {
        within = h;
        front = front;
        stops = λ z. gone start (take (place + 1) text) (ap (is_alive start) (begin_word text place l k (s l)) ∙ rw next y);
        early = λ z. absurd (omega arith);
      };
      right = ap (first_wrong start) w ∙ f;
    })
