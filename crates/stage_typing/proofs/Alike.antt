-- When two names of writers may come to name one file.
use Rattle.std.proofs.Common.{◌≡◌, ◌<◌, ◌-◌, ◌+◌, ◌∙◌, ◌++◌, ◌||◌, ◌==◌, ℕ, List, [], ◌∷◌, length, take, drop, Bool, true, false, not, nat_eq, Option, Some, None, option_map, if◌then◌else◌, Bor, Decides, refl, ap, sym, subst, arith, length-append}
use Rattle.std.specs.Bool.{IsTrue}
use Rattle.std.specs.Char.{is_ascii_digit}
use Rattle.std.specs.List.{list_all, starts_with, ends_with, position_or_len, before_first, after_first}
use Rattle.std.specs.Option.{MatchOption}
use Rattle.std.proofs.Math.Seq.{drop-append_seam, take-append_seam}
use Rattle.std.proofs.lemmas.Bool.Decides.{Decides-and, Decides-or, Decides-not, Decides-like, Decides-eqb}
use Rattle.std.proofs.lemmas.Slice.Eq.{starts_is, ends_is, bytes_eq-Decides}
use Rattle.stage_options.specs.Values.{is_mark, is_numbered}
use Rattle.stage_typing.specs.Meeting.{parts_of, Begins, Ends, HasDigits, MeetBy, MayMeet, is_number, is_number_before, has_digits, meet_by, may_meet}

-- ---- the parts of a name

marked : (name : List ℕ) → position_or_len is_mark name < length name → is_numbered name ≡ true
marked [] h = absurd (omega (arith, h))
marked (b ∷ bs) h = go (is_mark b) h (marked bs)
  where
    go : (test : Bool) → (if not test then 1 + position_or_len is_mark bs else 0) < length (b ∷ bs) → (position_or_len is_mark bs < length bs → is_numbered bs ≡ true)
        → (test || is_numbered bs) ≡ true
    go true h more = refl
    go false h more = more (omega (arith, h))

unmarked : (name : List ℕ) → position_or_len is_mark name ≡ length name → is_numbered name ≡ false
unmarked [] h = refl
unmarked (b ∷ bs) h = go (is_mark b) h (unmarked bs)
  where
    go : (test : Bool) → (if not test then 1 + position_or_len is_mark bs else 0) ≡ length (b ∷ bs) → (position_or_len is_mark bs ≡ length bs → is_numbered bs ≡ false)
        → (test || is_numbered bs) ≡ false
    go true h more = absurd (omega (arith, h))
    go false h more = more (omega (arith, h))

pub parts_are : (name : List ℕ) (r : Option (Bor (List ℕ) × Bor (List ℕ)))
    → MatchOption r (position_or_len is_mark name ≡ length name) (λ x. (position_or_len is_mark name < length name) × (x.0.now ≡ before_first is_mark name) × (x.1.now ≡ after_first is_mark name))
    → option_map (λ p. (p.0.now, p.1.now)) r ≡ parts_of name
parts_are name None h = ap (λ test. if test then Some (before_first is_mark name, after_first is_mark name) else None) (sym (unmarked name h))
parts_are name (Some x) h =
    ap (λ front. Some (front, x.1.now)) h.1
    ∙ (ap (λ back. Some (before_first is_mark name, back)) h.2
    ∙ ap (λ test. if test then Some (before_first is_mark name, after_first is_mark name) else None) (sym (marked name h.0)))

-- ---- each test tells its fact

begins_tells : (text part : List ℕ) → Decides (starts_with nat_eq text part) (Begins text part)
begins_tells text part =
    let is = starts_is Decides-eqb text part (starts_with nat_eq text part) refl in
    ((λ t. (drop (length part) text, is.0 t)), (λ b. is.1 b.0 b.1))

ends_tells : (text part : List ℕ) → Decides (ends_with nat_eq text part) (Ends text part)
ends_tells text part =
    let is = ends_is Decides-eqb text part (ends_with nat_eq text part) refl in
    ((λ t. (take (length text - length part) text, is.0 t)), (λ e. is.1 e.0 e.1))

some : (n : ℕ) → Decides (not (n == 0)) (0 < n)
some n = Decides-like _ (λ h. omega (arith, h)) (λ h. omega (arith, h)) (Decides-not _ (Decides-eqb n 0))

number_tells : (text : List ℕ) → Decides (is_number text) ((0 < length text) × IsTrue (list_all is_ascii_digit text))
number_tells text = Decides-and _ _ (some (length text)) ((λ t. t), (λ t. t))

-- a text is one digit or more before a part
abbrev NumberBefore : List ℕ → List ℕ → Type 0
NumberBefore part text = (digits : List ℕ) × (text ≡ digits ++ part) × (0 < length digits) × IsTrue (list_all is_ascii_digit digits)

before_tells : (part text : List ℕ) → Decides (is_number_before part text) (NumberBefore part text)
before_tells part text = Decides-like _ to from (Decides-and _ _ cut (number_tells front))
  where
    front : List ℕ
    front = take (length text - length part) text

    cut : Decides (ends_with nat_eq text part) (text ≡ front ++ part)
    cut = let is = ends_is Decides-eqb text part (ends_with nat_eq text part) refl in (is.0, is.1 front)

    to : (text ≡ front ++ part) × ((0 < length front) × IsTrue (list_all is_ascii_digit front)) → NumberBefore part text
    to h = (front, h.0, h.1.0, h.1.1)

    same : (digits : List ℕ) → text ≡ digits ++ part → front ≡ digits
    same digits e =
        let size : length (digits ++ part) - length part ≡ length digits = omega (arith, length-append digits part) in
        ap (λ t. take (length t - length part) t) e ∙ (ap (λ n. take n (digits ++ part)) size ∙ take-append_seam digits part)

    from : NumberBefore part text → (text ≡ front ++ part) × ((0 < length front) × IsTrue (list_all is_ascii_digit front))
    from w = subst (λ f. (text ≡ f ++ part) × ((0 < length f) × IsTrue (list_all is_ascii_digit f))) (sym (same w.0 w.1)) (w.1, (w.2, w.3))

digits_tell : (parts : List ℕ × List ℕ) (text : List ℕ) → Decides (has_digits parts text) (HasDigits parts text)
digits_tell parts text = Decides-like _ to from (Decides-and _ _ cut (before_tells parts.1 rest))
  where
    rest : List ℕ
    rest = drop (length parts.0) text

    cut : Decides (starts_with nat_eq text parts.0) (text ≡ parts.0 ++ rest)
    cut = let is = starts_is Decides-eqb text parts.0 (starts_with nat_eq text parts.0) refl in (is.0, is.1 rest)

    to : (text ≡ parts.0 ++ rest) × NumberBefore parts.1 rest → HasDigits parts text
    to h = (h.1.0, h.0 ∙ ap (λ r. parts.0 ++ r) h.1.1, h.1.2, h.1.3)

    from : HasDigits parts text → (text ≡ parts.0 ++ rest) × NumberBefore parts.1 rest
    from w =
        let is : rest ≡ w.0 ++ parts.1 = ap (drop (length parts.0)) w.1 ∙ drop-append_seam parts.0 (w.0 ++ parts.1) in
        (w.1 ∙ ap (λ r. parts.0 ++ r) (sym is), (w.0, is, w.2, w.3))

meet_tells : (parts others : Option (List ℕ × List ℕ)) (one other : List ℕ) → Decides (meet_by parts others one other) (MeetBy parts others one other)
meet_tells None None one other = bytes_eq-Decides one other
meet_tells (Some parts) None one other = digits_tell parts other
meet_tells None (Some parts) one other = digits_tell parts one
meet_tells (Some parts) (Some others) one other =
    Decides-and _ _ (Decides-or _ _ (begins_tells parts.0 others.0) (begins_tells others.0 parts.0)) (Decides-or _ _ (ends_tells parts.1 others.1) (ends_tells others.1 parts.1))

pub may_meet_tells : (one other : List ℕ) → Decides (may_meet one other) (MayMeet one other)
may_meet_tells one other = meet_tells (parts_of one) (parts_of other) one other
