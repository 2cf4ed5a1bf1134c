-- one byte at a time: what can still become a decimal
use Rattle.std.proofs.Common.{◌≡◌, ℕ, ◌+◌, ◌<◌, ◌≤◌, arith, sym, refl, ap, ◌∙◌, inl, inr, ◌⊎◌, List, [], ◌∷◌, ◌++◌, length, Bool, true, false, leb, eqb}
use Rattle.std.specs.Prelude.{◌||◌}
use Rattle.std.proofs.lemmas.Bool.{true≢false, le-leb, leb-true, eqb-true, and_from, and_parts, cases_Bool, ne_eqb}
use Rattle.decimal_coords.specs.Grammar.{IsDigit, AreDigits, IsSign, IsADecimal, CanGoOn}
use Rattle.decimal_coords.specs.declared.scan.Scan.{Scan}
use Rattle.decimal_coords.specs.declared.scan.Scan.TheVariants.{Start, Signed, Whole, Point, Places, Dead}
use Rattle.decimal_coords.specs.Scanning.{is_digit, after, run, accepts}

pub run-append : (s : Scan) (p t : List ℕ) → run s (p ++ t) ≡ run (run s p) t
run-append s [] t = refl
run-append s (b ∷ p) t = run-append (after s b) p t

pub run-dead : (t : List ℕ) → run Dead t ≡ Dead
run-dead [] = refl
run-dead (b ∷ t) = run-dead t

pub digit_true : (b : ℕ) → IsDigit b → is_digit b ≡ true
digit_true b d = and_from (leb 48 b) (leb b 57) (le-leb 48 b d.0) (le-leb b 57 d.1)

digit_back : (b : ℕ) → is_digit b ≡ true → IsDigit b
digit_back b e = let t = and_parts (leb 48 b) (leb b 57) e in (leb-true 48 b t.0, leb-true b 57 t.1)

-- from the Point on
run_places : (ds : List ℕ) → AreDigits ds → run Places ds ≡ Places
run_places [] d = refl
run_places (b ∷ ds) d = rw (digit_true b d.0) (run_places ds d.1)

run_point : (ds : List ℕ) → AreDigits ds → 0 < length ds → run Point ds ≡ Places
run_point [] d h = absurd (omega arith)
run_point (b ∷ ds) d h = rw (digit_true b d.0) (run_places ds d.1)

run_whole : (ds : List ℕ) → AreDigits ds → run Whole ds ≡ Whole
run_whole [] d = refl
run_whole (b ∷ ds) d = rw (digit_true b d.0) (run_whole ds d.1)

run_signed_digit : (x : ℕ) (rest : List ℕ) → IsDigit x → run Signed (x ∷ rest) ≡ run Whole rest
run_signed_digit x rest d = rw (digit_true x d) refl

places_back : (bs : List ℕ) → accepts (run Places bs) ≡ true → AreDigits bs
places_back [] e = tt
places_back (b ∷ bs) e = elim (cases_Bool (is_digit b)) [
  | inl d ↦ (digit_back b d, places_back bs (rw d at e))
  | inr d ↦ absurd (true≢false (sym (rw (d, run-dead bs) at e)))
]

-- digits, and perhaps a Point and digits
record Body (text Whole part : List ℕ) : Type 0 where
  tail : List ℕ
  shown : text ≡ Whole ++ tail
  tail_is : ((tail ≡ []) × (part ≡ [])) ⊎ (tail ≡ 46 ∷ part)
  whole_digits : AreDigits Whole
  part_digits : AreDigits part

tail_accepts : (tail part : List ℕ) → ((tail ≡ []) × (part ≡ [])) ⊎ (tail ≡ 46 ∷ part) → AreDigits part → accepts (run Whole tail) ≡ true
tail_accepts tail part t d = elim t [
  | inl e ↦ rw e.0 refl
  | inr e ↦ rw e (rw (run_places part d) refl)
]

body_accepts : (text w part : List ℕ) → Body text w part → 0 < length w + length part → accepts (run Signed text) ≡ true
body_accepts text [] part b some = elim b.tail_is [
  | inl e ↦ let z = ap length e.1 in absurd (omega arith)
  | inr e ↦ rw (b.shown, e) (rw (run_point part b.part_digits (omega arith)) refl)
]
body_accepts text (x ∷ w) part b some =
    rw (b.shown, run_signed_digit x (w ++ b.tail) b.whole_digits.0, run-append Whole w b.tail, run_whole w b.whole_digits.1) (tail_accepts b.tail part b.tail_is b.part_digits)

not_sign : (b : ℕ) → (46 ≤ b) → (eqb b 43 || eqb b 45) ≡ false
not_sign b h = or_false (eqb b 43) (eqb b 45) (ne_eqb b 43 (λ e. omega arith)) (ne_eqb b 45 (λ e. omega arith))
  where
    or_false : (x y : Bool) → x ≡ false → y ≡ false → (x || y) ≡ false
    or_false x y p q = rw (p, q) refl

start_as_signed : (text : List ℕ) (w part : List ℕ) → Body text w part → accepts (run Signed text) ≡ true → accepts (run Start text) ≡ true
start_as_signed [] w part b e = e
start_as_signed (x ∷ xs) [] part b e = elim b.tail_is [
  | inl t ↦ let z : x ∷ xs ≡ [] = b.shown ∙ t.0 in absurd (cons_not z)
  | inr t ↦ let z : x ≡ 46 = first (b.shown ∙ t) in rw (not_sign x (omega arith)) e
]
  where
    cons_not : x ∷ xs ≡ [] → ⊥
    cons_not z = let l = ap length z in omega arith

    first : {ys : List ℕ} → x ∷ xs ≡ 46 ∷ ys → x ≡ 46
    first z = cc
start_as_signed (x ∷ xs) (y ∷ w) part b e =
    let z : x ≡ y = first b.shown in
    let d : 48 ≤ y = b.whole_digits.0.0 in
    rw (not_sign x (omega arith)) e
  where
    first : x ∷ xs ≡ y ∷ (w ++ b.tail) → x ≡ y
    first z = cc

-- a decimal is accepted
pub accepted : (text : List ℕ) → IsADecimal text → accepts (run Start text) ≡ true
accepted text (negative, w, part, d) = go negative d.sign_is
  where
    body : (rest : List ℕ) → rest ≡ w ++ d.tail → Body rest w part
    body rest e = record { tail = d.tail; shown = e; tail_is = d.tail_is; whole_digits = d.whole_digits; part_digits = d.part_digits }

    signed_part : accepts (run Signed (w ++ d.tail)) ≡ true
    signed_part = body_accepts (w ++ d.tail) w part (body (w ++ d.tail) refl) d.some

    go : (n : Bool) → IsSign n d.sign → accepts (run Start text) ≡ true
    go true e = rw (d.shown, e) signed_part
    go false (inl e) = rw (d.shown, e) (start_as_signed (w ++ d.tail) w part (body (w ++ d.tail) refl) signed_part)
    go false (inr e) = rw (d.shown, e) signed_part

-- what is accepted is a decimal
record Rest (text : List ℕ) : Type 0 where
  w : List ℕ
  part : List ℕ
  body : Body text w part

whole_back : (bs : List ℕ) → accepts (run Whole bs) ≡ true → Rest bs
whole_back [] e = record { w = []; part = []; body = record { tail = []; shown = refl; tail_is = inl (refl, refl); whole_digits = tt; part_digits = tt } }
whole_back (b ∷ bs) e = elim (cases_Bool (is_digit b)) [
  | inl d ↦ let r = whole_back bs (rw d at e) in record {
    w = b ∷ r.w;
    part = r.part;
    body = record {
      tail = r.body.tail;
      shown = ap (λ z. b ∷ z) r.body.shown;
      tail_is = r.body.tail_is;
      whole_digits = (digit_back b d, r.body.whole_digits);
      part_digits = r.body.part_digits;
    };
  }
  | inr d ↦ elim (cases_Bool (eqb b 46)) [
    | inl p ↦ let f : accepts (run Places bs) ≡ true = rw (d, p) at e in
        record { w = []; part = bs; body = record { tail = b ∷ bs; shown = refl; tail_is = inr (ap (λ z. z ∷ bs) (eqb-true b 46 p)); whole_digits = tt; part_digits = places_back bs f } }
    | inr p ↦ absurd (true≢false (sym (rw (d, p, run-dead bs) at e)))
  ]
]

record Some (text : List ℕ) : Type 0 where
  rest : Rest text
  some : 0 < length rest.w + length rest.part

signed_back : (bs : List ℕ) → accepts (run Signed bs) ≡ true → Some bs
signed_back [] e = absurd (true≢false (sym e))
signed_back (b ∷ bs) e = elim (cases_Bool (is_digit b)) [
  | inl d ↦ let r = whole_back bs (rw d at e) in record {
    rest = record {
      w = b ∷ r.w;
      part = r.part;
      body = record {
        tail = r.body.tail;
        shown = ap (λ z. b ∷ z) r.body.shown;
        tail_is = r.body.tail_is;
        whole_digits = (digit_back b d, r.body.whole_digits);
        part_digits = r.body.part_digits;
      };
    };
    some = omega arith;
  }
  | inr d ↦ elim (cases_Bool (eqb b 46)) [
    | inl p ↦ let f : accepts (run Point bs) ≡ true = rw (d, p) at e in point_part b bs p f
    | inr p ↦ absurd (true≢false (sym (rw (d, p, run-dead bs) at e)))
  ]
]
  where
    point_part : (b : ℕ) (bs : List ℕ) → eqb b 46 ≡ true → accepts (run Point bs) ≡ true → Some (b ∷ bs)
    point_part b [] p f = absurd (true≢false (sym f))
    point_part b (x ∷ bs) p f = elim (cases_Bool (is_digit x)) [
      | inl d ↦ let g : accepts (run Places bs) ≡ true = rw d at f in
          record {
            rest = record {
              w = [];
              part = x ∷ bs;
              body = record {
                tail = b ∷ x ∷ bs;
                shown = refl;
                tail_is = inr (ap (λ z. z ∷ x ∷ bs) (eqb-true b 46 p));
                whole_digits = tt;
                part_digits = (digit_back x d, places_back bs g);
              };
            };
            some = omega arith;
          }
      | inr d ↦ absurd (true≢false (sym (rw (d, run-dead bs) at f)))
    ]

decimal_from : (text sign bs : List ℕ) (negative : Bool) → IsSign negative sign → text ≡ sign ++ bs → Some bs → IsADecimal text
decimal_from text sign bs negative s e r = (
  negative,
  r.rest.w,
  r.rest.part,
  record {
    sign = sign;
    tail = r.rest.body.tail;
    shown = e ∙ ap (λ z. sign ++ z) r.rest.body.shown;
    sign_is = s;
    tail_is = r.rest.body.tail_is;
    whole_digits = r.rest.body.whole_digits;
    part_digits = r.rest.body.part_digits;
    some = r.some;
  },
)

pub decimal_if : (text : List ℕ) → accepts (run Start text) ≡ true → IsADecimal text
decimal_if [] e = absurd (true≢false (sym e))
decimal_if (b ∷ bs) e = elim (cases_Bool (eqb b 43)) [
  | inl p ↦ decimal_from (b ∷ bs) (43 ∷ []) bs false (inr refl) (ap (λ z. z ∷ bs) (eqb-true b 43 p)) (signed_back bs (rw p at e))
  | inr p ↦ elim (cases_Bool (eqb b 45)) [
    | inl m ↦ decimal_from (b ∷ bs) (45 ∷ []) bs true refl (ap (λ z. z ∷ bs) (eqb-true b 45 m)) (signed_back bs (rw (p, m) at e))
    | inr m ↦ decimal_from (b ∷ bs) [] (b ∷ bs) false (inl refl) refl (signed_back (b ∷ bs) (rw (p, m) at e))
  ]
]

-- each state but the Dead one goes on by a zero
zero_accepts : (s : Scan) → (s ≡ Dead → ⊥) → accepts (after s 48) ≡ true
zero_accepts Start h = refl
zero_accepts Signed h = refl
zero_accepts Whole h = refl
zero_accepts Point h = refl
zero_accepts Places h = refl
zero_accepts Dead h = absurd (h refl)

pub alive : (text : List ℕ) → (run Start text ≡ Dead → ⊥) → CanGoOn text
alive text h = (48 ∷ [], decimal_if (text ++ 48 ∷ []) (rw (run-append Start text (48 ∷ [])) (zero_accepts (run Start text) h)))

pub gone : (text : List ℕ) → run Start text ≡ Dead → CanGoOn text → ⊥
gone text e (more, d) = true≢false (sym (rw (run-append Start text more, e, run-dead more) at (accepted (text ++ more) d)))
