-- Fields that are asked for are such as descriptors describe.
use Rattle.std.proofs.Common.{◌≡◌, ℕ, zero, suc, ◌+◌, ◌≤◌, ◌<◌, ◌&&◌, ◌||◌, not, Bool, true, false, true≢false, List, [], ◌∷◌, ◌++◌, length, get_or, nat_lt, cond, if◌then◌else◌, slice_index_or, Result, Ok, Err, IfOk, OnOk, Option, Some, None, is_some, inl, inr, refl, ap, subst, sym, ◌∙◌, arith}
use Rattle.std.specs.List.{All, find, position_or_len}
use Rattle.std.specs.Str.{bytes_eq, str_to_ascii_lowercase}
use Rattle.std.specs.Prelude.{⊤, sum_by}
use Rattle.std.proofs.lemmas.Bool.Decides.{leb_tells}
use Rattle.std.proofs.lemmas.List.Folds.{list_any-append}
use Rattle.std.proofs.lemmas.List.Sums.{passes_at_first, sum_by-cons}
use Rattle.std.proofs.lemmas.Slice.Eq.{bytes_eq-Decides}
use Rattle.cloud_points.specs.Dims.{name_of}
use Rattle.cloud_points.specs.ExtraFields.{kind_size}
use Rattle.cloud_points.specs.ExtraNames.{same_name, dim_named, standard_dims}
use Rattle.cloud_points.specs.declared.dims.Dim.{Dim}
use Rattle.cloud_points.specs.declared.extra.ExtraField.{ExtraField}
use Rattle.option_texts.specs.NamedFields.{has_name as has_asked, are_different}
use Rattle.option_texts.specs.declared.extra_dims.NamedField.{NamedField}
use Rattle.stage_names.specs.declared.faults.PipeFault.{PipeFault}
use Rattle.stage_names.specs.declared.faults.PipeFault.TheVariants.{DimUnknown}
use Rattle.stage_names.specs.Faults.{or_else}
use Rattle.text_bytes.specs.Bytes.{is_name}
use Rattle.std.specs.Option.{unwrap_or}
use Rattle.std.proofs.lemmas.List.Elements.{All-cons, All-head, All-nil, All-tail}
use Rattle.cloud_points.specs.ExtraNames.{DifferentNames, place_in}
use Rattle.cloud_points.specs.declared.dims.Dim.TheVariants.{Extra}
use Rattle.cloud_points.specs.declared.extra.ExtraKind.TheVariants.{I64}
use Rattle.extra_bytes.proofs.Sized.{HasPlace, described_laid}
use Rattle.extra_bytes.specs.Asked.{AreShortOwn, AskedAreLaid, all_from, asked_fault, asked_field, asked_fields, field_unknown, held_at, is_extra}
use Rattle.extra_bytes.specs.Descriptors.{has_name}
use Rattle.extra_bytes.specs.Fields.{AreLaid}
use Rattle.extra_bytes.specs.Written.{AreDescribed, unplaced}

-- ---- names that are one

true-lt : (a b : ℕ) → nat_lt a b ≡ true → a < b
true-lt a b e = elim (leb_tells (suc a) b) [ inl p ↦ (let m = p.1 in omega (arith, m)) | inr p ↦ absurd (true≢false (sym e ∙ p.0)) ]

lower_size : (name : List ℕ) → length (str_to_ascii_lowercase name) ≡ length name
lower_size [] = refl
lower_size (b ∷ bs) = ap suc (lower_size bs)

-- a name is one of these in their other spellings
record IsAmong (names : List (List ℕ)) (name : List ℕ) : Type 0 where
  other : List ℕ
  at : ℕ
  inside : at < length names
  is : other ≡ get_or names at other
  same : str_to_ascii_lowercase name ≡ str_to_ascii_lowercase other

among : (held : Dim → Bool) (names : List (List ℕ)) (name : List ℕ) → is_extra held names name ≡ true → IsAmong names name
among held names name extra = by (nat_lt (position_or_len (same_name name) names) (length names)) refl
  where
    by : (b : Bool) → nat_lt (position_or_len (same_name name) names) (length names) ≡ b → IsAmong names name
    by true e =
        let inside = true-lt (position_or_len (same_name name) names) (length names) e in
        record {
          other = get_or names (position_or_len (same_name name) names) [];
          at = position_or_len (same_name name) names;
          inside = inside;
          is = one names (position_or_len (same_name name) names) inside;
          same = (bytes_eq-Decides (str_to_ascii_lowercase name) (str_to_ascii_lowercase (get_or names (position_or_len (same_name name) names) []))).0 (passes_at_first (same_name name) names [] inside);
        }
      where
        one : (xs : List (List ℕ)) (k : ℕ) → k < length xs → get_or xs k [] ≡ get_or xs k (get_or xs k [])
        one [] k l = absurd (omega (arith, l))
        one (x ∷ xs) zero l = refl
        one (x ∷ xs) (suc k) l = one xs k (omega (arith, l))
    by false e = absurd (true≢false (sym extra ∙ ap (held_at held) (ap (λ b. cond b (Some (position_or_len (same_name name) names)) None) e)))

module _ (names : List (List ℕ)) (own : AreShortOwn names) (name : List ℕ) (is : IsAmong names name) where
  name_short : length name ≤ 32
  name_short =
      let short : length is.other ≤ 32 = subst (λ n. length n ≤ 32) (sym is.is) (own.1 is.at is.other is.inside) in
      omega (arith, short, sym (lower_size name) ∙ ap (λ xs. length xs) is.same ∙ lower_size is.other)

  no_standard : is_some (dim_named name) ≡ false
  no_standard = ap is_some (ap (λ low. find (λ dim. bytes_eq low (str_to_ascii_lowercase (name_of dim))) standard_dims) is.same ∙ subst (λ n. dim_named n ≡ None) (sym is.is) (own.0 is.at is.other is.inside))

-- ---- names that aren't

-- none of these fields is asked for by the name of one before
abbrev Apart : List ExtraField → List NamedField → Type 0
Apart before [] = ⊤
Apart before (f ∷ fs) = (has_name f.name before ≡ false) × Apart before fs

or-none : (a b : Bool) → (a || b) ≡ false → (a ≡ false) × (b ≡ false)
or-none true b e = absurd (true≢false e)
or-none false b e = (refl, e)

and-both : (a b : Bool) → (a && b) ≡ true → (a ≡ true) × (b ≡ true)
and-both true b e = (refl, e)
and-both false b e = absurd (true≢false (sym e))

not-true : (a : Bool) → not a ≡ true → a ≡ false
not-true true e = absurd (true≢false (sym e))
not-true false e = refl

apart-none : (fs : List NamedField) → Apart [] fs
apart-none [] = tt
apart-none (f ∷ fs) = (refl, apart-none fs)

apart-more : (before : List ExtraField) (u : ExtraField) (fs : List NamedField) → Apart before fs → has_asked u.name fs ≡ false → Apart (before ++ u ∷ []) fs
apart-more before u [] h none = tt
apart-more before u (f ∷ fs) h none =
    let parts = or-none (same_name u.name f.name) (has_asked u.name fs) none in
    (list_any-append (λ (e : ExtraField). same_name e.name f.name) before (u ∷ []) ∙ ap (λ b. b || (same_name u.name f.name || false)) h.0 ∙ ap (λ b. b || false) parts.0, apart-more before u fs h.1 parts.1)

-- ---- all of them

known-first : (i : ℕ) (held : Dim → Bool) (names : List (List ℕ)) (f : NamedField) (o : Option PipeFault) → or_else (field_unknown i held names f) o ≡ None → (is_extra held names f.name ≡ true) × (o ≡ None)
known-first i held names f o e = by (is_extra held names f.name) refl
  where
    by : (b : Bool) → is_extra held names f.name ≡ b → (is_extra held names f.name ≡ true) × (o ≡ None)
    by true is = (is, sym (ap (λ b. or_else (cond b None (Some (DimUnknown i f.name))) o) is) ∙ e)
    by false is = absurd (some-none (sym (ap (λ b. or_else (cond b None (Some (DimUnknown i f.name))) o) is) ∙ e))
      where
        some-none : Some (DimUnknown i f.name) ≡ None → ⊥
        some-none e = cc

-- what they take of a record
abbrev asked_size : List NamedField → ℕ
asked_size asked = sum_by (λ (f : NamedField). kind_size f.kind) asked

described : (i : ℕ) (held : Dim → Bool) (names : List (List ℕ)) → AreShortOwn names → (before : List ExtraField) (at size : ℕ) (asked : List NamedField) → All (λ (f : NamedField). is_name f.name ≡ true) asked
    → are_different asked ≡ true → asked_fault i held names asked ≡ None → Apart before asked → at + asked_size asked ≤ size → AreDescribed before at size (asked_fields names at asked)
described i held names own before at size [] named different known apart fits = tt
described i held names own before at size (f ∷ fs) named different known apart fits =
    let first = known-first i held names f (asked_fault i held names fs) known in
    let is = among held names f.name first.0 in
    let parts = and-both (not (has_asked f.name fs)) (are_different fs) different in
    let sum = sum_by-cons (λ (f : NamedField). kind_size f.kind) f fs in (
      record { name = named 0 f (omega arith); short = name_short names own f.name is; offset = refl },
      ap (λ b. b || has_name f.name before) (no_standard names own f.name is) ∙ apart.0,
      refl,
      omega (arith, fits, sum),
      described i held names own (before ++ unplaced (asked_field names at f) ∷ []) (at + kind_size f.kind) size fs (λ k d l. named (suc k) d (omega (arith, l))) parts.1 first.1
          (apart-more before (unplaced (asked_field names at f)) fs apart.1 (not-true (has_asked f.name fs) parts.0)) (omega (arith, fits, sum)),
    )

-- ---- they are laid one right behind another

pub place_small : (names : List (List ℕ)) (name : List ℕ) → length names ≤ 8 → unwrap_or (place_in name names) 0 ≤ 7
place_small names name few = by (nat_lt (position_or_len (same_name name) names) (length names)) refl
  where
    by : (b : Bool) → nat_lt (position_or_len (same_name name) names) (length names) ≡ b → unwrap_or (cond b (Some (position_or_len (same_name name) names)) None) 0 ≤ 7
    by true e = (let inside = true-lt (position_or_len (same_name name) names) (length names) e in omega (arith, inside, few))
    by false e = omega arith

places_small : (names : List (List ℕ)) → length names ≤ 8 → (at : ℕ) (asked : List NamedField) → All HasPlace (asked_fields names at asked)
places_small names few at [] = All-nil HasPlace
places_small names few at (f ∷ fs) = All-cons HasPlace (asked_field names at f) (asked_fields names (at + kind_size f.kind) fs) (place_small names f.name few) (places_small names few (at + kind_size f.kind) fs)

pub asked_are_laid : AskedAreLaid
asked_are_laid i held names from asked few own named different known =
    let size = from + asked_size asked in
    described_laid from size (asked_fields names from asked) (described i held names own [] from size asked named different known (apart-none asked) (omega arith)) (places_small names few from asked)

-- ---- all extra dimensions of a layout

pub all_named : (held : Dim → Bool) (place : ℕ) (names : List (List ℕ)) → All (λ name. is_name name ≡ true) names → All (λ (f : NamedField). is_name f.name ≡ true) (all_from place held names)
all_named held place [] named = All-nil (λ (f : NamedField). is_name f.name ≡ true)
all_named held place (name ∷ names) named = by (held (Extra place)) (All-head (λ name. is_name name ≡ true) name names named) (all_named held (place + 1) names (All-tail (λ name. is_name name ≡ true) name names named))
  where
    by : (b : Bool) → is_name name ≡ true → All (λ (f : NamedField). is_name f.name ≡ true) (all_from (place + 1) held names)
        → All (λ (f : NamedField). is_name f.name ≡ true) (if b then record { name = name; kind = I64; places = 9 } ∷ all_from (place + 1) held names else all_from (place + 1) held names)
    by true here rest = All-cons (λ (f : NamedField). is_name f.name ≡ true) (record { name = name; kind = I64; places = 9 }) (all_from (place + 1) held names) here rest
    by false here rest = rest

same-sym : (a b : List ℕ) → same_name a b ≡ same_name b a
same-sym a b = by (same_name a b) (same_name b a) refl refl
  where
    by : (x y : Bool) → same_name a b ≡ x → same_name b a ≡ y → x ≡ y
    by true true e f = refl
    by false false e f = refl
    by true false e f = sym (sym f ∙ (bytes_eq-Decides (str_to_ascii_lowercase b) (str_to_ascii_lowercase a)).1 (sym ((bytes_eq-Decides (str_to_ascii_lowercase a) (str_to_ascii_lowercase b)).0 e)))
    by false true e f = sym e ∙ (bytes_eq-Decides (str_to_ascii_lowercase a) (str_to_ascii_lowercase b)).1 (sym ((bytes_eq-Decides (str_to_ascii_lowercase b) (str_to_ascii_lowercase a)).0 f))

-- none of these names is this one
abbrev NoneIs : List ℕ → List (List ℕ) → Type 0
NoneIs name [] = ⊤
NoneIs name (other ∷ names) = (same_name name other ≡ false) × NoneIs name names

none-is : (name : List ℕ) (names : List (List ℕ)) → ((j : ℕ) (d : List ℕ) → j < length names → same_name (slice_index_or names j d) name ≡ false) → NoneIs name names
none-is name [] h = tt
none-is name (other ∷ names) h = (same-sym name other ∙ h 0 name (omega arith), none-is name names (λ j d l. h (suc j) d (omega (arith, l))))

none-asked : (held : Dim → Bool) (name : List ℕ) (place : ℕ) (names : List (List ℕ)) → NoneIs name names → has_asked name (all_from place held names) ≡ false
none-asked held name place [] h = refl
none-asked held name place (other ∷ names) h = by (held (Extra place)) (none-asked held name (place + 1) names h.1)
  where
    by : (b : Bool) → has_asked name (all_from (place + 1) held names) ≡ false
        → has_asked name (if b then record { name = other; kind = I64; places = 9 } ∷ all_from (place + 1) held names else all_from (place + 1) held names) ≡ false
    by true rest = ap (λ b. b || has_asked name (all_from (place + 1) held names)) h.0 ∙ rest
    by false rest = rest

pub all_different : (held : Dim → Bool) (place : ℕ) (names : List (List ℕ)) → DifferentNames names → are_different (all_from place held names) ≡ true
all_different held place [] different = refl
all_different held place (name ∷ names) different = by (held (Extra place)) (all_different held (place + 1) names (λ i j d l k. different (suc i) (suc j) d (omega (arith, l)) (omega (arith, k))))
  where
    first : has_asked name (all_from (place + 1) held names) ≡ false
    first = none-asked held name (place + 1) names (none-is name names (λ j d l. different 0 (suc j) d (omega arith) (omega (arith, l))))

    by : (b : Bool) → are_different (all_from (place + 1) held names) ≡ true
        → are_different (if b then record { name = name; kind = I64; places = 9 } ∷ all_from (place + 1) held names else all_from (place + 1) held names) ≡ true
    by true rest = ap (λ b. not b && are_different (all_from (place + 1) held names)) first ∙ rest
    by false rest = rest

-- what a call answers that has asked for these
pub laid_result : {E : Type 0} (i : ℕ) (held : Dim → Bool) (names : List (List ℕ)) (from : ℕ) (asked : List NamedField) (r : Result (List ExtraField) E) → IfOk r (λ fields. fields ≡ asked_fields names from asked)
    → OnOk r (asked_fault i held names asked ≡ None) → length names ≤ 8 → AreShortOwn names → All (λ (f : NamedField). is_name f.name ≡ true) asked → are_different asked ≡ true → IfOk r (AreLaid from)
laid_result i held names from asked (Ok fields) e none few own named different = subst (AreLaid from) (sym e) (asked_are_laid i held names from asked few own named different none)
laid_result i held names from asked (Err x) e none few own named different = tt

pub asked_length : (names : List (List ℕ)) (at : ℕ) (asked : List NamedField) → length (asked_fields names at asked) ≡ length asked
asked_length names at [] = refl
asked_length names at (f ∷ fs) = ap suc (asked_length names (at + kind_size f.kind) fs)
