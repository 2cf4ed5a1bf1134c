-- what a text says, read from left to right; signs are told by their bytes, 33 `!`, 40 `(`, 41 `)`, 44 `,`, 58 `:`,
-- 91 `[` and 93 `]`
use Rattle.std.specs.Prelude.{ℕ, zero, suc, ℤ, List, [], ◌∷◌, codes, Bool, true, false, if◌then◌else◌, Option, Some, None, Result, Ok, Err, int_le, bytes_eq, option_map}
use Rattle.std.specs.Option.{option_or, option_and_then}
use Rattle.decimal_coords.specs.declared.parse.DecFault.{DecFault}
use Rattle.decimal_coords.specs.DecimalOfText.{decimal_of_text}
use Rattle.limits_text.specs.declared.shapes.Box3.{Box3}
use Rattle.limits_text.specs.declared.shapes.NamedRange.{NamedRange}
use Rattle.limits_text.specs.Words.{Word}
use Rattle.text_bytes.specs.Bytes.{is_letter}
use Rattle.limits_text.specs.Follows.{is_name}
use Rattle.limits_text.specs.Wrong.{is_ring}
use Rattle.limits_text.specs.Pieces.{words_of}

-- what words say to their end, if they say anything
abbrev pub Reading : Type 0 → Type 0
Reading A = List Word → Option A

-- ---- words

-- nothing more
abbrev pub the_end : {A : Type 0} → A → Reading A
the_end x [] = Some x
the_end x (w ∷ ws) = None

-- the first of the two that says something
abbrev pub either : {A : Type 0} → Reading A → Reading A → Reading A
either first other ws = option_or (first ws) (other ws)

-- this sign, then the rest
abbrev pub this_sign : {A : Type 0} → ℕ → Reading A → Reading A
this_sign b rest [] = None
this_sign b rest (w ∷ ws) = if bytes_eq w.bytes (b ∷ []) then rest ws else None

-- one of two signs, and whether it is the first
abbrev pub one_of : {A : Type 0} → ℕ → ℕ → (Bool → Reading A) → Reading A
one_of b c rest = either (this_sign b (rest true)) (this_sign c (rest false))

-- this sign or nothing, and whether it is there
abbrev pub perhaps : {A : Type 0} → ℕ → (Bool → Reading A) → Reading A
perhaps b rest = either (this_sign b (rest true)) (rest false)

-- this word without regard to case, then the rest
abbrev pub this_word : {A : Type 0} → List ℕ → Reading A → Reading A
this_word ks rest [] = None
this_word ks rest (w ∷ ws) = if is_name (Some ks) w.bytes then rest ws else None

abbrev pub begins_name : List ℕ → Bool
begins_name [] = false
begins_name (b ∷ bs) = is_letter b

-- a name, then the rest
abbrev pub a_name : {A : Type 0} → (List ℕ → Reading A) → Reading A
a_name rest [] = None
a_name rest (w ∷ ws) = if begins_name w.bytes then rest w.bytes ws else None

abbrev pub if_read : {A : Type 0} → Result ℤ DecFault → (ℤ → Option A) → Option A
if_read (Ok n) says = says n
if_read (Err e) says = None

-- a decimal of at most 9 places and at most 4 * 10 ^ 9 in size, then the rest
abbrev pub a_decimal : {A : Type 0} → (ℤ → Reading A) → Reading A
a_decimal rest [] = None
a_decimal rest (w ∷ ws) = if_read (decimal_of_text w.bytes) (λ n. rest n ws)

-- a decimal behind a space
abbrev pub a_second : {A : Type 0} → (ℤ → Reading A) → Reading A
a_second rest [] = None
a_second rest (w ∷ ws) = if w.spaced then a_decimal rest (w ∷ ws) else None

-- a decimal, or nothing
abbrev pub an_optional : {A : Type 0} → (Option ℤ → Reading A) → Reading A
an_optional rest = either (a_decimal (λ n. rest (Some n))) (rest None)

-- `,` and further parts behind a first one
abbrev pub then_more : {X : Type 0} → X → Reading (List X) → Reading (List X)
then_more x further = this_sign 44 (λ ws. option_map (λ xs. x ∷ xs) (further ws))

-- ---- points

-- the point that a text says: `POINT (x y)`
unfoldable pub point_of : List ℕ → Option (ℤ × ℤ)
point_of text =
    this_word (codes "point") (this_sign 40 (a_decimal (λ x. a_second (λ y. this_sign 41 (the_end (x, y))))))
    (words_of text)

-- ---- boxes

-- the first at most the second
abbrev pub in_order : {A : Type 0} → ℤ × ℤ → Reading A → Reading A
in_order p rest ws = if int_le p.0 p.1 then rest ws else None

-- `[a, b]`
abbrev pub a_pair : {A : Type 0} → (ℤ × ℤ → Reading A) → Reading A
a_pair rest =
    this_sign 91 (a_decimal (λ a. this_sign 44 (a_decimal (λ b. this_sign 93 (in_order (a, b) (rest (a, b)))))))

-- behind two pairs the end, or else `, [e, f]` and the end
abbrev pub flat_end : ℤ × ℤ → ℤ × ℤ → Reading Box3
flat_end x y = this_sign 41 (the_end (record { x = x; y = y; z = None }))

abbrev pub high_end : ℤ × ℤ → ℤ × ℤ → Reading Box3
high_end x y = this_sign 44 (a_pair (λ z. this_sign 41 (the_end (record { x = x; y = y; z = Some z }))))

-- the box that a text says: `([a, b], [c, d])` or `([a, b], [c, d], [e, f])`
unfoldable pub bounds_of : List ℕ → Option Box3
bounds_of text =
    this_sign 40 (a_pair (λ x. this_sign 44 (a_pair (λ y. either (flat_end x y) (high_end x y))))) (words_of text)

-- ---- polygons

-- `x y`
abbrev pub a_corner : {A : Type 0} → (ℤ × ℤ → Reading A) → Reading A
a_corner rest = a_decimal (λ x. a_second (λ y. rest (x, y)))

-- the last corner and the end
abbrev pub last_corner : ℤ × ℤ → Reading (List (ℤ × ℤ))
last_corner p = this_sign 41 (this_sign 41 (the_end (p ∷ [])))

-- `x y, x y, ..))` with at most n corners
unfoldable pub corners_in : ℕ → Reading (List (ℤ × ℤ))
corners_in zero ws = None
corners_in (suc n) ws = a_corner (λ p. either (last_corner p) (then_more p (corners_in n))) ws

-- at least four corners, the last one the first one
abbrev pub if_ring : List (ℤ × ℤ) → Option (List (ℤ × ℤ))
if_ring ps = if is_ring ps then Some ps else None

-- the ring that a text says: `POLYGON ((x y, x y, ..))`
unfoldable pub polygon_of : List ℕ → Option (List (ℤ × ℤ))
polygon_of text =
    option_and_then if_ring
    (this_word (codes "polygon") (this_sign 40 (this_sign 40 (corners_in 1024))) (words_of text))

-- ---- ranges

-- `NAME [a : b]`, `NAME ! (a : b)` and the like
abbrev pub a_range : {A : Type 0} → (NamedRange → Reading A) → Reading A
a_range rest =
    a_name (λ name. perhaps 33 (λ negated. one_of 91 40 (λ low_in. an_optional (λ low. this_sign 58
    (an_optional (λ high. one_of 93 41 (λ high_in. rest (record {
      name = name;
      interval = record { low = low; low_in = low_in; high = high; high_in = high_in; negated = negated };
    }))))))))

-- at most n ranges with `,` between them
unfoldable pub ranges_in : ℕ → Reading (List NamedRange)
ranges_in zero ws = None
ranges_in (suc n) ws = a_range (λ r. either (the_end (r ∷ [])) (then_more r (ranges_in n))) ws

-- the ranges that a text says
unfoldable pub ranges_of : List ℕ → Option (List NamedRange)
ranges_of text = ranges_in 64 (words_of text)
