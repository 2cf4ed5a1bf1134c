-- what is read from left to right, against pieces
use Rattle.std.proofs.Common.{◌≡◌, ℕ, sym, refl, ap, ◌∙◌, inl, inr, List, [], ◌∷◌, Bool, true, false}
use Rattle.std.specs.Prelude.{ℤ, Option, Some, None, Result, Ok, Err, bytes_eq, ◌==◌, if◌then◌else◌}
use Rattle.std.specs.Option.{option_or}
use Rattle.std.proofs.lemmas.Bool.{true≢false, cases_Bool}
use Rattle.std.proofs.lemmas.Slice.Eq.{bytes_eq-Decides}
use Rattle.decimal_coords.specs.declared.parse.DecFault.{DecFault}
use Rattle.decimal_coords.specs.DecimalOfText.{decimal_of_text}
use Rattle.decimal_coords.specs.Scanning.{accepts, run}
use Rattle.decimal_coords.specs.declared.scan.Scan.TheVariants.{Start}
use Rattle.limits_text.specs.declared.control.WordKind.TheVariants as kind
use Rattle.limits_text.specs.Words.{Word, begins_number, kind_of}
use Rattle.text_bytes.specs.Bytes.{is_letter}
use Rattle.limits_text.specs.Follows.{is_name}
use Rattle.limits_text.specs.Pieces.{Piece, AreShown, sign, name, keyword, number, second, end_then, negation_then}
use Rattle.limits_text.specs.Texts.{Reading, the_end, either, this_sign, this_word, begins_name, a_name, if_read, a_decimal, a_second, an_optional, one_of, perhaps}
use Rattle.limits_text.proofs.Exits.{value_accepts}

same_bytes : (b : ℕ) → bytes_eq (b ∷ []) (b ∷ []) ≡ true
same_bytes b = (bytes_eq-Decides (b ∷ []) (b ∷ [])).1 refl

one_byte : (bs : List ℕ) (b : ℕ) → bytes_eq bs (b ∷ []) ≡ true → bs ≡ b ∷ []
one_byte bs b e = (bytes_eq-Decides bs (b ∷ [])).0 e

names : (bs : List ℕ) → kind_of bs ≡ kind.Name → begins_name bs ≡ true
names [] e = absurd (no_name 0 e)
  where
    no_name : (b : ℕ) → kind.Sign b ≡ kind.Name → ⊥
    no_name b z = cc
names (b ∷ bs) e = elim (cases_Bool (is_letter b)) [
  | inl l ↦ l
  | inr l ↦ elim (cases_Bool (begins_number b)) [
    | inl n ↦ let z : kind.Number ≡ kind.Name = rw (l, n) at e in cc
    | inr n ↦ let z : kind.Sign b ≡ kind.Name = rw (l, n) at e in cc
  ]
]

name_kind : (bs : List ℕ) → begins_name bs ≡ true → kind_of bs ≡ kind.Name
name_kind [] e = absurd (true≢false (sym e))
name_kind (b ∷ bs) e = rw e refl

one_sign_only : (b c : ℕ) → (b == c) ≡ false → bytes_eq (b ∷ []) (c ∷ []) ≡ false
one_sign_only b c e = rw e refl

-- words show pieces
pub record Shows (ps : List Piece) (ws : List Word) : Type 0 where
  pub are : AreShown ps ws

-- ---- from pieces to what is said

pub end_says : {A : Type 0} (x : A) (ws : List Word) → Shows [] ws → the_end x ws ≡ Some x
end_says x [] h = refl
end_says x (w ∷ ws) h = absurd h.are

pub sign_says : {A : Type 0} (b : ℕ) (rest : Reading A) (ps : List Piece) (ws : List Word) (v : A) → Shows (sign b ∷ ps) ws
    → ((us : List Word) → Shows ps us → rest us ≡ Some v) → this_sign b rest ws ≡ Some v
sign_says b rest ps [] v h k = absurd h.are
sign_says b rest ps (w ∷ ws) v h k = rw (h.are.0, same_bytes b) (k ws (record { are = h.are.1 }))

-- another sign stands there
pub sign_not : {A : Type 0} (b c : ℕ) (rest : Reading A) (ps : List Piece) (ws : List Word) → Shows (sign b ∷ ps) ws → (b == c) ≡ false → this_sign c rest ws ≡ None
sign_not b c rest ps [] h e = absurd h.are
sign_not b c rest ps (w ∷ ws) h e = rw (h.are.0, one_sign_only b c e) refl

pub first_says : {A : Type 0} (first other : Reading A) (ws : List Word) (v : A) → first ws ≡ Some v → either first other ws ≡ Some v
first_says first other ws v e = rw e refl

pub other_says : {A : Type 0} (first other : Reading A) (ws : List Word) (v : A) → first ws ≡ None → other ws ≡ Some v → either first other ws ≡ Some v
other_says first other ws v n e = rw n e

pub one_says : {A : Type 0} (b c : ℕ) (rest : Bool → Reading A) (t : Bool) (ps : List Piece) (ws : List Word) (v : A) → (c == b) ≡ false
    → Shows (sign (if t then b else c) ∷ ps) ws → ((us : List Word) → Shows ps us → rest t us ≡ Some v) → one_of b c rest ws ≡ Some v
one_says b c rest true ps ws v n h k = first_says (this_sign b (rest true)) (this_sign c (rest false)) ws v (sign_says b (rest true) ps ws v h k)
one_says b c rest false ps ws v n h k =
    other_says (this_sign b (rest true)) (this_sign c (rest false)) ws v (sign_not c b (rest true) ps ws h n) (sign_says c (rest false) ps ws v h k)

pub perhaps_says : {A : Type 0} (rest : Bool → Reading A) (t : Bool) (b : ℕ) (ps : List Piece) (ws : List Word) (v : A) → (b == 33) ≡ false
    → Shows (negation_then t (sign b ∷ ps)) ws → ((us : List Word) → Shows (sign b ∷ ps) us → rest t us ≡ Some v) → perhaps 33 rest ws ≡ Some v
perhaps_says rest true b ps ws v n h k = first_says (this_sign 33 (rest true)) (rest false) ws v (sign_says 33 (rest true) (sign b ∷ ps) ws v h k)
perhaps_says rest false b ps ws v n h k = other_says (this_sign 33 (rest true)) (rest false) ws v (sign_not b 33 (rest true) ps ws h n) (k ws h)

pub word_says : {A : Type 0} (ks : List ℕ) (rest : Reading A) (ps : List Piece) (ws : List Word) (v : A) → Shows (keyword ks ∷ ps) ws
    → ((us : List Word) → Shows ps us → rest us ≡ Some v) → this_word ks rest ws ≡ Some v
word_says ks rest ps [] v h k = absurd h.are
word_says ks rest ps (w ∷ ws) v h k = rw h.are.0 (k ws (record { are = h.are.1 }))

pub name_says : {A : Type 0} (n : List ℕ) (rest : List ℕ → Reading A) (ps : List Piece) (ws : List Word) (v : A) → Shows (name n ∷ ps) ws
    → ((us : List Word) → Shows ps us → rest n us ≡ Some v) → a_name rest ws ≡ Some v
name_says n rest ps [] v h k = absurd h.are
name_says n rest ps (w ∷ ws) v h k = rw (h.are.0.0, names n h.are.0.1) (k ws (record { are = h.are.1 }))

pub decimal_says : {A : Type 0} (n : ℤ) (rest : ℤ → Reading A) (ps : List Piece) (ws : List Word) (v : A) → Shows (number n ∷ ps) ws
    → ((us : List Word) → Shows ps us → rest n us ≡ Some v) → a_decimal rest ws ≡ Some v
decimal_says n rest ps [] v h k = absurd h.are
decimal_says n rest ps (w ∷ ws) v h k = rw h.are.0 (k ws (record { are = h.are.1 }))

pub second_says : {A : Type 0} (n : ℤ) (rest : ℤ → Reading A) (ps : List Piece) (ws : List Word) (v : A) → Shows (second n ∷ ps) ws
    → ((us : List Word) → Shows ps us → rest n us ≡ Some v) → a_second rest ws ≡ Some v
second_says n rest ps [] v h k = absurd h.are
second_says n rest ps (w ∷ ws) v h k = rw (h.are.0.1, h.are.0.0) (k ws (record { are = h.are.1 }))

-- a sign is no decimal
no_decimal : (b : ℕ) → accepts (run Start (b ∷ [])) ≡ false → {A : Type 0} (says : ℤ → Option A) → if_read (decimal_of_text (b ∷ [])) says ≡ None
no_decimal b e says = go (decimal_of_text (b ∷ [])) refl
  where
    go : (r : Result ℤ DecFault) → decimal_of_text (b ∷ []) ≡ r → if_read r says ≡ None
    go (Ok n) z = absurd (true≢false (sym (value_accepts (b ∷ []) n z) ∙ e))
    go (Err f) z = refl

pub optional_says : {A : Type 0} (rest : Option ℤ → Reading A) (o : Option ℤ) (b : ℕ) (ps : List Piece) (ws : List Word) (v : A) → accepts (run Start (b ∷ [])) ≡ false
    → Shows (end_then o (sign b ∷ ps)) ws → ((us : List Word) → Shows (sign b ∷ ps) us → rest o us ≡ Some v) → an_optional rest ws ≡ Some v
optional_says rest (Some n) b ps ws v d h k =
    first_says (a_decimal (λ m. rest (Some m))) (rest None) ws v (decimal_says n (λ m. rest (Some m)) (sign b ∷ ps) ws v h k)
optional_says rest None b ps [] v d h k = absurd h.are
optional_says rest None b ps (w ∷ ws) v d h k =
    other_says (a_decimal (λ m. rest (Some m))) (rest None) (w ∷ ws) v (rw h.are.0 (no_decimal b d (λ n. rest (Some n) ws))) (k (w ∷ ws) h)

-- ---- from what is said to pieces

pub end_said : {A : Type 0} (x v : A) (ws : List Word) → the_end x ws ≡ Some v → (x ≡ v) × Shows [] ws
end_said x v [] e = (cc, record { are = tt })
end_said x v (w ∷ ws) e = let z : None ≡ Some v = e in cc

pub if_true : {A : Type 0} (t : Bool) (o : Option A) (v : A) → (if t then o else None) ≡ Some v → (t ≡ true) × (o ≡ Some v)
if_true true o v e = (refl, e)
if_true false o v e = let z : None ≡ Some v = e in cc

none_said : {A Q : Type 0} (v : A) → None ≡ Some v → Q
none_said v e = cc

pub sign_said : {A Q : Type 0} (b : ℕ) (rest : Reading A) (ps : List Piece) (ws : List Word) (v : A) → this_sign b rest ws ≡ Some v
    → ((us : List Word) → rest us ≡ Some v → Q × Shows ps us) → Q × Shows (sign b ∷ ps) ws
sign_said b rest ps [] v e k = none_said v e
sign_said b rest ps (w ∷ ws) v e k =
    let t = if_true (bytes_eq w.bytes (b ∷ [])) (rest ws) v e in
    let s = k ws t.1 in
    (s.0, record { are = (one_byte w.bytes b t.0, s.1.are) })

pub either_said : {A Q : Type 0} (first other : Reading A) (ws : List Word) (v : A) → either first other ws ≡ Some v
    → (first ws ≡ Some v → Q) → (other ws ≡ Some v → Q) → Q
either_said {Q} first other ws v e f g = go (first ws) refl e
  where
    go : (o : Option _) → first ws ≡ o → option_or o (other ws) ≡ Some v → Q
    go (Some x) h z = f (h ∙ z)
    go None h z = g z

pub one_said : {A Q : Type 0} (b c : ℕ) (rest : Bool → Reading A) (t : Bool) (ps : List Piece) (ws : List Word) (v : A) → one_of b c rest ws ≡ Some v
    → ((s : Bool) (us : List Word) → rest s us ≡ Some v → (Q × (s ≡ t)) × Shows ps us) → Q × Shows (sign (if t then b else c) ∷ ps) ws
one_said b c rest t ps ws v e k =
    either_said (this_sign b (rest true)) (this_sign c (rest false)) ws v e
    (λ h. let r = sign_said b (rest true) ps ws v h (k true) in (r.0.0, rw (← r.0.1) r.1))
    (λ h. let r = sign_said c (rest false) ps ws v h (k false) in (r.0.0, rw (← r.0.1) r.1))

pub perhaps_said : {A Q : Type 0} (rest : Bool → Reading A) (t : Bool) (ps : List Piece) (ws : List Word) (v : A) → perhaps 33 rest ws ≡ Some v
    → ((s : Bool) (us : List Word) → rest s us ≡ Some v → (Q × (s ≡ t)) × Shows ps us) → Q × Shows (negation_then t ps) ws
perhaps_said rest t ps ws v e k =
    either_said (this_sign 33 (rest true)) (rest false) ws v e
    (λ h. let r = sign_said 33 (rest true) ps ws v h (k true) in (r.0.0, rw (← r.0.1) r.1))
    (λ h. let r = k false ws h in (r.0.0, rw (← r.0.1) r.1))

pub word_said : {A Q : Type 0} (ks : List ℕ) (rest : Reading A) (ps : List Piece) (ws : List Word) (v : A) → this_word ks rest ws ≡ Some v
    → ((us : List Word) → rest us ≡ Some v → Q × Shows ps us) → Q × Shows (keyword ks ∷ ps) ws
word_said ks rest ps [] v e k = none_said v e
word_said ks rest ps (w ∷ ws) v e k =
    let t = if_true (is_name (Some ks) w.bytes) (rest ws) v e in
    let s = k ws t.1 in
    (s.0, record { are = (t.0, s.1.are) })

pub name_said : {A Q : Type 0} (n : List ℕ) (rest : List ℕ → Reading A) (ps : List Piece) (ws : List Word) (v : A) → a_name rest ws ≡ Some v
    → ((m : List ℕ) (us : List Word) → rest m us ≡ Some v → (Q × (m ≡ n)) × Shows ps us) → Q × Shows (name n ∷ ps) ws
name_said n rest ps [] v e k = none_said v e
name_said n rest ps (w ∷ ws) v e k =
    let t = if_true (begins_name w.bytes) (rest w.bytes ws) v e in
    let s = k w.bytes ws t.1 in
    (s.0.0, record { are = ((s.0.1, ap kind_of (sym s.0.1) ∙ name_kind w.bytes t.0), s.1.are) })

record IsRead {A : Type 0} (r : Result ℤ DecFault) (says : ℤ → Option A) (v : A) : Type 0 where
  n : ℤ
  is : r ≡ Ok n
  said : says n ≡ Some v

is_read : {A : Type 0} (r : Result ℤ DecFault) (says : ℤ → Option A) (v : A) → if_read r says ≡ Some v → IsRead r says v
is_read (Ok n) says v e = record { n = n; is = refl; said = e }
is_read (Err f) says v e = none_said v e

pub decimal_said : {A Q : Type 0} (n : ℤ) (rest : ℤ → Reading A) (ps : List Piece) (ws : List Word) (v : A) → a_decimal rest ws ≡ Some v
    → ((m : ℤ) (us : List Word) → rest m us ≡ Some v → (Q × (m ≡ n)) × Shows ps us) → Q × Shows (number n ∷ ps) ws
decimal_said n rest ps [] v e k = none_said v e
decimal_said n rest ps (w ∷ ws) v e k =
    let t = is_read (decimal_of_text w.bytes) (λ m. rest m ws) v e in
    let s = k t.n ws t.said in
    (s.0.0, record { are = (t.is ∙ ap Ok s.0.1, s.1.are) })

pub second_said : {A Q : Type 0} (n : ℤ) (rest : ℤ → Reading A) (ps : List Piece) (ws : List Word) (v : A) → a_second rest ws ≡ Some v
    → ((m : ℤ) (us : List Word) → rest m us ≡ Some v → (Q × (m ≡ n)) × Shows ps us) → Q × Shows (second n ∷ ps) ws
second_said n rest ps [] v e k = none_said v e
second_said n rest ps (w ∷ ws) v e k =
    let t = if_true w.spaced (a_decimal rest (w ∷ ws)) v e in
    let s = decimal_said n rest ps (w ∷ ws) v t.1 k in
    (s.0, record { are = ((s.1.are.0, t.0), s.1.are.1) })

pub optional_said : {A Q : Type 0} (rest : Option ℤ → Reading A) (o : Option ℤ) (ps : List Piece) (ws : List Word) (v : A) → an_optional rest ws ≡ Some v
    → ((p : Option ℤ) (us : List Word) → rest p us ≡ Some v → (Q × (p ≡ o)) × Shows ps us) → Q × Shows (end_then o ps) ws
optional_said {Q} rest o ps ws v e k =
    either_said (a_decimal (λ n. rest (Some n))) (rest None) ws v e (some ws) (λ h. let r = k None ws h in (r.0.0, rw (← r.0.1) r.1))
  where
    some : (ws : List Word) → a_decimal (λ n. rest (Some n)) ws ≡ Some v → Q × Shows (end_then o ps) ws
    some [] h = none_said v h
    some (w ∷ us) h =
        let t = is_read (decimal_of_text w.bytes) (λ m. rest (Some m) us) v h in
        let s = k (Some t.n) us t.said in
        (s.0.0, rw (← s.0.1) (record { are = (t.is, s.1.are) }))
