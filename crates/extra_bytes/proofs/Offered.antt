-- The fields that descriptors describe lie in their records, and have names of their own; bound ones keep their bytes.
use Rattle.std.proofs.Common.{◌≡◌, ℕ, zero, suc, ◌+◌, ◌/◌, ◌<◌, ◌≤◌, ◌==◌, ◌||◌, ◌&&◌, nat_lt, nat_le, Bool, true, false, true≢false, ℤ, List, [], ◌∷◌, ◌++◌, length, take, drop, map, cond, if◌then◌else◌, Option, Some, None, is_none, is_some, option_map, option_and_then, Result, Ok, Err, IfOk, OnOk, refl, ap, sym, subst, ◌∙◌, arith, length-append}
use Rattle.std.specs.List.{All, before_first, position_or_len}
use Rattle.std.specs.Option.{option_to_list, unwrap_or}
use Rattle.std.proofs.lemmas.Bool.{eqb-false, eqb-true}
use Rattle.std.proofs.lemmas.List.{length-take}
use Rattle.std.proofs.lemmas.List.Elements.{All-append, All-cons, All-head, All-nil, All-tail}
use Rattle.std.proofs.lemmas.Option.{none-some, same_Some}
use Rattle.byte_numbers.specs.Bytes.{piece}
use Rattle.cloud_points.specs.ExtraFields.{kind_size}
use Rattle.cloud_points.specs.ExtraNames.{NoneStandard, added, dim_named, place_in, same_name}
use Rattle.cloud_points.specs.declared.dims.Dim.{Dim}
use Rattle.cloud_points.specs.declared.extra.ExtraField.{ExtraField}
use Rattle.cloud_points.specs.declared.extra.ExtraKind.{ExtraKind}
use Rattle.decimal_coords.specs.declared.grid.Scale.{Scale}
use Rattle.stage_names.specs.declared.faults.PipeFault.{PipeFault}
use Rattle.stage_names.specs.declared.faults.PipeFault.TheVariants.{TooManyDims}
use Rattle.stage_names.specs.Faults.{or_else}
use Rattle.text_bytes.specs.Bytes.{is_name}
use Rattle.extra_bytes.specs.Asked.{AreOwn}
use Rattle.extra_bytes.specs.Bound.{EndsWithin, bound_field, bound_fields, field_fault, fields_fault, is_ninth, names_of, names_with}
use Rattle.extra_bytes.specs.Descriptors.{field_in, field_with, fields_behind, fields_of, has_name, is_taken, kind_numbered, more_fields, name_in, offset_in, options_in, scale_in, size_in, size_within, text_in, type_in, where_within}
use Rattle.extra_bytes.proofs.Described.{place_small}
use Rattle.extra_bytes.proofs.Sized.{HasPlace}

abbrev IsOwnName : List ℕ → Type 0
IsOwnName name = (dim_named name ≡ None) × (length name ≤ 32) × (is_name name ≡ true)

-- a field lies in a record of so many bytes, and has such a name
abbrev IsOffered : ℕ → ExtraField → Type 0
IsOffered size f = EndsWithin size f × IsOwnName f.name

-- ---- one descriptor

other_type : (n m : ℕ) (kind : ExtraKind) → kind_numbered n ≡ Some kind → kind_numbered m ≡ None → (n == m) ≡ false
other_type n m kind some none = by (n == m) refl
  where
    by : (b : Bool) → (n == m) ≡ b → b ≡ false
    by false e = refl
    by true e = absurd (none-some kind (sym none ∙ (ap kind_numbered (sym (eqb-true n m e)) ∙ some)))

size_of_kind : (bytes : List ℕ) (kind : ExtraKind) → kind_numbered (type_in bytes) ≡ Some kind → size_in bytes ≡ Some (kind_size kind)
size_of_kind bytes kind e =
    let n : ℕ = type_in bytes in
    let last : Option ℕ = option_map kind_size (kind_numbered n) in
    ap (λ b. if b then Some (options_in bytes) else (if n == 9 then Some 4 else (if n == 10 then Some 8 else last))) (other_type n 0 kind e refl)
    ∙ ap (λ b. if b then Some 4 else (if n == 10 then Some 8 else last)) (other_type n 9 kind e refl)
    ∙ ap (λ b. if b then Some 8 else last) (other_type n 10 kind e refl)
    ∙ ap (option_map kind_size) e

ends_within : (at size n : ℕ) (bytes : List ℕ) (kind : ExtraKind) → kind_numbered (type_in bytes) ≡ Some kind → size_within at size bytes ≡ Some n → at + kind_size kind ≤ size
ends_within at size n bytes kind e h = by (nat_le (at + kind_size kind) size) refl
  where
    within : option_and_then (λ n. if nat_le (at + n) size then Some n else None) (Some (kind_size kind)) ≡ Some n
    within = ap (option_and_then (λ n. if nat_le (at + n) size then Some n else None)) (sym (size_of_kind bytes kind e)) ∙ h

    by : (b : Bool) → nat_le (at + kind_size kind) size ≡ b → at + kind_size kind ≤ size
    by true is = grind (arith, is)
    by false is = absurd (none-some n (sym (ap (λ b. if b then Some (kind_size kind) else None) is) ∙ within))

before_short : (xs : List ℕ) → length (before_first (λ b. b == 0) xs) ≤ length xs
before_short xs = let cut = length-take (position_or_len (λ b. b == 0) xs) xs in omega (arith, cut)

text_short : (bytes : List ℕ) → length (text_in bytes) ≤ 32
text_short bytes =
    let some = before_short (piece 4 32 bytes) in
    let all = length-take 32 (drop 4 bytes) in
    omega (arith, some, all)

none-is : (o : Option Dim) (b : Bool) → (is_some o || b) ≡ false → o ≡ None
none-is None b e = refl
none-is (Some d) b e = absurd (true≢false e)

own_name : (fields : List ExtraField) (bytes name : List ℕ) → name_in fields bytes ≡ Some name → IsOwnName name
own_name fields bytes name e = by (is_name (text_in bytes)) refl e
  where
    text : List ℕ
    text = text_in bytes

    also : (b : Bool) → is_taken text fields ≡ b → is_name text ≡ true → (if b then None else Some text) ≡ Some name → IsOwnName name
    also true taken is e = absurd (none-some name e)
    also false taken is e = subst IsOwnName (same_Some text name e) (none-is (dim_named text) (has_name text fields) taken, text_short bytes, is)

    by : (b : Bool) → is_name text ≡ b → (if b then (if is_taken text fields then None else Some text) else None) ≡ Some name → IsOwnName name
    by true is e = also (is_taken text fields) refl is e
    by false is e = absurd (none-some name e)

offered : (at size n : ℕ) (fields : List ExtraField) (bytes : List ℕ) (f : ExtraField) → size_within at size bytes ≡ Some n → field_in at fields bytes ≡ Some f → IsOffered size f
offered at size n fields bytes f within e = by (name_in fields bytes) (kind_numbered (type_in bytes)) (scale_in bytes) (offset_in bytes) refl refl e
  where
    by : (name : Option (List ℕ)) (kind : Option ExtraKind) (scale : Option Scale) (offset : Option ℤ) → name_in fields bytes ≡ name → kind_numbered (type_in bytes) ≡ kind
        → option_and_then (λ name. option_and_then (λ kind. option_and_then (λ scale. option_map (field_with at name kind scale) offset) scale) kind) name ≡ Some f → IsOffered size f
    by None kind scale offset named typed e = absurd (none-some f e)
    by (Some name) None scale offset named typed e = absurd (none-some f e)
    by (Some name) (Some kind) None offset named typed e = absurd (none-some f e)
    by (Some name) (Some kind) (Some scale) None named typed e = absurd (none-some f e)
    by (Some name) (Some kind) (Some scale) (Some offset) named typed e =
        subst (IsOffered size) (same_Some (field_with at name kind scale offset) f e) (ends_within at size n bytes kind typed within, own_name fields bytes name named)

-- ---- all of them

offered_more : (at size n : ℕ) (fields : List ExtraField) (bytes : List ℕ) → size_within at size bytes ≡ Some n → All (IsOffered size) fields → All (IsOffered size) (more_fields at fields bytes)
offered_more at size n fields bytes within so = by (field_in at fields bytes) refl
  where
    by : (o : Option ExtraField) → field_in at fields bytes ≡ o → All (IsOffered size) (fields ++ option_to_list o)
    by None e = All-append (IsOffered size) fields [] so (All-nil (IsOffered size))
    by (Some f) e = All-append (IsOffered size) fields (f ∷ []) so (All-cons (IsOffered size) f [] (offered at size n fields bytes f within e) (All-nil (IsOffered size)))

offered_behind : (count : ℕ) (fields : List ExtraField) (at size : ℕ) (bytes : List ℕ) → All (IsOffered size) fields → All (IsOffered size) (fields_behind count fields at size bytes)
unfolding fields_behind
offered_behind zero fields at size bytes so = so
offered_behind (suc count) fields at size bytes so =
    by (size_within at size bytes) refl (λ n more. offered_behind count (more_fields at fields bytes) (at + n) size (drop 192 bytes) more)
  where
    by : (o : Option ℕ) → size_within at size bytes ≡ o
        → ((n : ℕ) → All (IsOffered size) (more_fields at fields bytes) → All (IsOffered size) (fields_behind count (more_fields at fields bytes) (at + n) size (drop 192 bytes)))
        → All (IsOffered size) (where_within o (λ n. fields_behind count (more_fields at fields bytes) (at + n) size (drop 192 bytes)) fields)
    by None e on = so
    by (Some n) e on = on n (offered_more at size n fields bytes e so)

all_offered : (payload : List ℕ) (from size : ℕ) → All (IsOffered size) (fields_of payload from size)
all_offered payload from size = offered_behind (length payload / 192) [] from size payload (All-nil (IsOffered size))

-- so they lie in the record, and their names are own ones
offered_within : (size : ℕ) (fields : List ExtraField) → All (IsOffered size) fields → All (EndsWithin size) fields
offered_within size fields so k d l = (so k d l).0

offered_own : (size : ℕ) (fields : List ExtraField) → All (IsOffered size) fields → AreOwn (names_of fields)
offered_own size [] so = ((All-nil (λ name. dim_named name ≡ None), All-nil (λ name. length name ≤ 32)), All-nil (λ name. is_name name ≡ true))
offered_own size (f ∷ fields) so =
    let here = (All-head (IsOffered size) f fields so).1 in
    let rest = offered_own size fields (All-tail (IsOffered size) f fields so) in (
      (All-cons (λ name. dim_named name ≡ None) f.name (names_of fields) here.0 rest.0.0, All-cons (λ name. length name ≤ 32) f.name (names_of fields) here.1 rest.0.1),
      All-cons (λ name. is_name name ≡ true) f.name (names_of fields) here.2 rest.1,
    )

-- ---- bound ones

bound_within : (size : ℕ) (names : List (List ℕ)) (fields : List ExtraField) → All (EndsWithin size) fields → All (EndsWithin size) (bound_fields names fields)
bound_within size names [] so = All-nil (EndsWithin size)
bound_within size names (f ∷ fields) so =
    All-cons (EndsWithin size) (bound_field names f) (bound_fields (added f.name names) fields) (All-head (EndsWithin size) f fields so) (bound_within size (added f.name names) fields (All-tail (EndsWithin size) f fields so))

own_added : (names : List (List ℕ)) (name : List ℕ) → IsOwnName name → AreOwn names → AreOwn (added name names)
own_added names name is own = by (is_some (place_in name names))
  where
    by : (b : Bool) → AreOwn (if b then names else names ++ name ∷ [])
    by true = own
    by false =
        let P : List ℕ → Type 0 = λ name. dim_named name ≡ None in
        let Q : List ℕ → Type 0 = λ name. length name ≤ 32 in
        let R : List ℕ → Type 0 = λ name. is_name name ≡ true in (
          (All-append P names (name ∷ []) own.0.0 (All-cons P name [] is.0 (All-nil P)), All-append Q names (name ∷ []) own.0.1 (All-cons Q name [] is.1 (All-nil Q))),
          All-append R names (name ∷ []) own.1 (All-cons R name [] is.2 (All-nil R)),
        )

own_with : (names : List (List ℕ)) (fields : List ExtraField) → AreOwn names → AreOwn (names_of fields) → AreOwn (names_with names fields)
own_with names [] own new = own
own_with names (f ∷ fields) own new =
    let P : List ℕ → Type 0 = λ name. dim_named name ≡ None in
    let Q : List ℕ → Type 0 = λ name. length name ≤ 32 in
    let R : List ℕ → Type 0 = λ name. is_name name ≡ true in
    let names_left = names_of fields in
    own_with (added f.name names) fields
    (own_added names f.name (All-head P f.name names_left new.0.0, All-head Q f.name names_left new.0.1, All-head R f.name names_left new.1) own)
    ((All-tail P f.name names_left new.0.0, All-tail Q f.name names_left new.0.1), All-tail R f.name names_left new.1)

added_few : (names : List (List ℕ)) (name : List ℕ) → length names ≤ 8 → is_ninth name names ≡ false → length (added name names) ≤ 8
added_few names name few not_ninth = by (place_in name names) refl
  where
    by : (o : Option ℕ) → place_in name names ≡ o → length (if is_some o then names else names ++ name ∷ []) ≤ 8
    by (Some place) e = few
    by None e =
        let other : (length names == 8) ≡ false = sym (ap (λ o. is_none o && (length names == 8)) e) ∙ not_ninth in
        let less : length names ≡ 8 → ⊥ = eqb-false (length names) 8 other in
        omega (arith, few, length-append names (name ∷ []), less)

not_ninth : (i : ℕ) (names : List (List ℕ)) (f : ExtraField) (later : Option PipeFault) → or_else (field_fault i names f) later ≡ None → (is_ninth f.name names ≡ false) × (later ≡ None)
not_ninth i names f later e = by (is_ninth f.name names) refl e
  where
    by : (b : Bool) → is_ninth f.name names ≡ b → or_else (if b then Some (TooManyDims i) else None) later ≡ None → (is_ninth f.name names ≡ false) × (later ≡ None)
    by true is e = absurd (none-some (TooManyDims i) (sym e))
    by false is e = (is, e)

places_of : (i : ℕ) (names : List (List ℕ)) (fields : List ExtraField) → length names ≤ 8 → fields_fault i names fields ≡ None → All HasPlace (bound_fields names fields)
places_of i names [] few none = All-nil HasPlace
places_of i names (f ∷ fields) few none =
    let more = added f.name names in
    let first = not_ninth i names f (fields_fault i more fields) none in
    let room = added_few names f.name few first.0 in
    All-cons HasPlace (bound_field names f) (bound_fields more fields) (place_small more f.name room) (places_of i more fields room first.1)

-- ---- what calls answer

module _ {E : Type 0} where
  pub within_result : (r : Result (List ExtraField) E) (payload : List ℕ) (from size : ℕ) → IfOk r (λ fields. fields ≡ fields_of payload from size) → IfOk r (All (EndsWithin size))
  within_result (Ok fields) payload from size e = subst (All (EndsWithin size)) (sym e) (offered_within size (fields_of payload from size) (all_offered payload from size))
  within_result (Err x) payload from size e = tt

  pub own_result : (r : Result (List ExtraField) E) (payload : List ℕ) (from size : ℕ) → IfOk r (λ fields. fields ≡ fields_of payload from size) → IfOk r (λ fields. AreOwn (names_of fields))
  own_result (Ok fields) payload from size e = subst (λ l. AreOwn (names_of l)) (sym e) (offered_own size (fields_of payload from size) (all_offered payload from size))
  own_result (Err x) payload from size e = tt

  pub bound_places : (r : Result (List ExtraField) E) (i : ℕ) (names : List (List ℕ)) (found : List ExtraField) → length names ≤ 8 → IfOk r (λ fields. fields ≡ bound_fields names found) → OnOk r (fields_fault i names found ≡ None)
      → IfOk r (All HasPlace)
  bound_places (Ok fields) i names found few e none = subst (All HasPlace) (sym e) (places_of i names found few none)
  bound_places (Err x) i names found few e none = tt

  pub bound_ends : (r : Result (List ExtraField) E) (size : ℕ) (names : List (List ℕ)) (found : List ExtraField) → IfOk r (λ fields. fields ≡ bound_fields names found) → All (EndsWithin size) found → IfOk r (All (EndsWithin size))
  bound_ends (Ok fields) size names found e so = subst (All (EndsWithin size)) (sym e) (bound_within size names found so)
  bound_ends (Err x) size names found e so = tt

  pub bound_own : (r : Result (List ExtraField) E) (names after : List (List ℕ)) (found : List ExtraField) → OnOk r (after ≡ names_with names found) → AreOwn names → AreOwn (names_of found) → OnOk r (AreOwn after)
  bound_own (Ok fields) names after found e own new = subst AreOwn (sym e) (own_with names found own new)
  bound_own (Err x) names after found e own new = tt
