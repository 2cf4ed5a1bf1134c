-- Descriptors are read one after the other.
use Rattle.std.proofs.Common.{◌≡◌, ℕ, suc, ◌+◌, ◌-◌, ◌/◌, ◌<◌, ◌≤◌, List, length, take, drop, Some, None, refl, sym, ap, ◌∙◌, arith, length-drop}
use Rattle.std.proofs.lemmas.List.{take_all}
use Rattle.cloud_points.specs.declared.extra.ExtraField.{ExtraField}
use Rattle.extra_bytes.specs.Descriptors.{size_within, more_fields, where_within, fields_behind}

one_less : (n : ℕ) → 192 ≤ n → n / 192 ≡ suc ((n - 192) / 192)
one_less n h = omega arith

none_whole : (n : ℕ) → n < 192 → n / 192 ≡ 0
none_whole n h = omega arith

count : (bytes : List ℕ) → 192 ≤ length bytes → length bytes / 192 ≡ suc (length (drop 192 bytes) / 192)
count bytes h = one_less (length bytes) h ∙ ap (λ n. suc (n / 192)) (sym (length-drop 192 bytes))

abbrev onward : (more : ℕ) (fields : List ExtraField) (at size : ℕ) (bytes : List ℕ) → ℕ → List ExtraField
onward more fields at size bytes n = fields_behind more (more_fields at fields bytes) (at + n) size (drop 192 bytes)

first_step : (more : ℕ) (fields : List ExtraField) (at size : ℕ) (bytes : List ℕ)
    → fields_behind (suc more) fields at size bytes ≡ where_within (size_within at size bytes) (onward more fields at size bytes) fields
unfolding fields_behind
first_step more fields at size bytes = refl

none_left : (fields : List ExtraField) (at size : ℕ) (bytes : List ℕ) → fields_behind 0 fields at size bytes ≡ fields
unfolding fields_behind
none_left fields at size bytes = refl

pub walk_on : (fields : List ExtraField) (at size n : ℕ) (bytes : List ℕ) → 192 ≤ length bytes → size_within at size bytes ≡ Some n
    → fields_behind (length bytes / 192) fields at size bytes
    ≡ fields_behind (length (drop 192 bytes) / 192) (more_fields at fields bytes) (at + n) size (drop 192 bytes)
walk_on fields at size n bytes h e =
    let more = length (drop 192 bytes) / 192 in
    ap (λ m. fields_behind m fields at size bytes) (count bytes h) ∙ first_step more fields at size bytes
    ∙ ap (λ o. where_within o (onward more fields at size bytes) fields) e

pub walk_stops : (fields : List ExtraField) (at size : ℕ) (bytes : List ℕ) → 192 ≤ length bytes → size_within at size bytes ≡ None
    → fields_behind (length bytes / 192) fields at size bytes ≡ fields
walk_stops fields at size bytes h e =
    let more = length (drop 192 bytes) / 192 in
    ap (λ m. fields_behind m fields at size bytes) (count bytes h) ∙ first_step more fields at size bytes
    ∙ ap (λ o. where_within o (onward more fields at size bytes) fields) e

pub walk_ends : (fields : List ExtraField) (at size : ℕ) (bytes : List ℕ) → length bytes < 192
    → fields_behind (length bytes / 192) fields at size bytes ≡ fields
walk_ends fields at size bytes h = ap (λ m. fields_behind m fields at size bytes) (none_whole (length bytes) h) ∙ none_left fields at size bytes

pub walk_next : (total fields grown : List ExtraField) (at size n : ℕ) (bytes behind : List ℕ) → 192 ≤ length bytes → size_within at size bytes ≡ Some n
    → grown ≡ more_fields at fields bytes → behind ≡ drop 192 bytes → total ≡ fields_behind (length bytes / 192) fields at size bytes
    → total ≡ fields_behind (length behind / 192) grown (at + n) size behind
walk_next total fields grown at size n bytes behind h e g b was =
    was ∙ walk_on fields at size n bytes h e ∙ sym (λ i. fields_behind (length (b i) / 192) (g i) (at + n) size (b i))

pub all_behind : (bytes : List ℕ) → take (length bytes - 192) (drop 192 bytes) ≡ drop 192 bytes
all_behind bytes = take_all (length bytes - 192) (drop 192 bytes) (let e = length-drop 192 bytes in omega (arith, e))
