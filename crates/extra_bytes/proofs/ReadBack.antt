-- Descriptors that were written are read.
use Rattle.std.proofs.Common.{◌≡◌, ℕ, zero, suc, ◌+◌, ◌/◌, ◌%◌, ◌≤◌, ◌==◌, not, nat_le, cond, Bool, true, false, ℤ, pos, List, [], ◌∷◌, ◌++◌, length, take, drop, replicate, map, Option, Some, None, option_map, option_and_then, if◌then◌else◌, All, refl, sym, ap, ◌∙◌, arith, append_assoc, length-append, length-drop, w64}
use Rattle.std.specs.Option.{option_to_list}
use Rattle.std.specs.Result.{result_ok}
use Rattle.std.specs.List.{flat_map, position_or_len, before_first, list_all}
use Rattle.std.specs.Int.{to_le_bytes}
use Rattle.std.proofs.lemmas.Int.{ints}
use Rattle.std.proofs.lemmas.Bool.{and_parts, le-leb}
use Rattle.std.proofs.lemmas.Bool.Decides.{nat_tests}
use Rattle.std.proofs.lemmas.List.Elements.{All-cons, All-nil, All-head, All-tail}
use Rattle.std.proofs.lemmas.List.Concat.{flat_map-cons}
use Rattle.decimal_coords.specs.declared.grid.Scale.{Scale}
use Rattle.ieee_words.specs.NearWord.{near_word}
use Rattle.ieee_words.specs.DecimalOfWord.{decimal_of_word}
use Rattle.ieee_words.proofs.NearWords.{near_word_is}
use Rattle.las_header.specs.ScaleWords.{scale_read}
use Rattle.las_header.proofs.ScaleLemmas.{scale_of_its_nano}
use Rattle.las_header.proofs.Words.{scale_is_read}
use Rattle.byte_numbers.specs.Bytes.{number_at}
use Rattle.byte_numbers.proofs.Places.{behind, piece_is, byte_is, eight_is}
use Rattle.text_bytes.specs.Bytes.{is_letter, is_name, is_word}
use Rattle.cloud_points.specs.ExtraFields.{kind_size}
use Rattle.cloud_points.specs.declared.extra.ExtraKind.{ExtraKind}
use Rattle.cloud_points.specs.declared.extra.ExtraKind.TheVariants.{U8, I8, U16, I16, U32, I32, U64, I64}
use Rattle.cloud_points.specs.declared.extra.ExtraField.{ExtraField}
use Rattle.extra_bytes.specs.Descriptors.{type_in, options_in, kind_numbered, size_in, size_within, text_in, is_taken, name_in, unit_scale, scale_in, offset_in, field_in, more_fields, fields_behind}
use Rattle.extra_bytes.specs.Written.{kind_number, is_unit, scale_options, scale_part, descriptor_bytes, unplaced, IsDescribed, AreDescribed, WrittenAreRead}
use Rattle.extra_bytes.proofs.Fields.{field_is}
use Rattle.extra_bytes.proofs.Walking.{walk_on, walk_ends}

-- ---- the name

abbrev is_zero : ℕ → Bool
is_zero b = b == 0

first_some : (b : ℕ) → is_letter b ≡ true → is_zero b ≡ false
first_some b e = grind (arith, nat_tests)

next_some : (b : ℕ) → is_word b ≡ true → is_zero b ≡ false
next_some b e = grind (arith, nat_tests)

all_some : (bs : List ℕ) → list_all is_word bs ≡ true → All (λ b. is_zero b ≡ false) bs
all_some [] e = All-nil (λ b. is_zero b ≡ false)
all_some (b ∷ bs) e =
    let (first, rest) = and_parts (is_word b) (list_all is_word bs) e in
    All-cons (λ b. is_zero b ≡ false) b bs (next_some b first) (all_some bs rest)

name_some : (bs : List ℕ) → is_name bs ≡ true → All (λ b. is_zero b ≡ false) bs
name_some [] e = All-nil (λ b. is_zero b ≡ false)
name_some (b ∷ bs) e =
    let (first, rest) = and_parts (is_letter b) (list_all is_word bs) e in
    All-cons (λ b. is_zero b ≡ false) b bs (first_some b first) (all_some bs rest)

zeros_cut : (n m : ℕ) → before_first is_zero (drop n (replicate m 0)) ≡ []
zeros_cut zero zero = refl
zeros_cut zero (suc m) = refl
zeros_cut (suc n) zero = refl
zeros_cut (suc n) (suc m) = zeros_cut n m

one_more : (n : ℕ) → 1 + n ≡ suc n
one_more n = omega arith

name_cut : (name zeros : List ℕ) → All (λ b. is_zero b ≡ false) name → before_first is_zero zeros ≡ [] → before_first is_zero (name ++ zeros) ≡ name
name_cut [] zeros some e = e
name_cut (b ∷ bs) zeros some e =
    let rest = bs ++ zeros in
    ap (λ v. take (cond (not v) (1 + position_or_len is_zero rest) 0) (b ∷ rest)) (All-head (λ b. is_zero b ≡ false) b bs some)
    ∙ ap (λ n. take n (b ∷ rest)) (one_more (position_or_len is_zero rest))
    ∙ ap (λ l. b ∷ l) (name_cut bs zeros (All-tail (λ b. is_zero b ≡ false) b bs some) e)

-- ---- the kind

kind_back : (kind : ExtraKind) → kind_numbered (kind_number kind) ≡ Some kind
kind_back U8 = refl
kind_back I8 = refl
kind_back U16 = refl
kind_back I16 = refl
kind_back U32 = refl
kind_back I32 = refl
kind_back U64 = refl
kind_back I64 = refl

abbrev size_from : ℕ → ℕ → Option ℕ
size_from type options = if type == 0 then Some options else (if type == 9 then Some 4
    else (if type == 10 then Some 8 else option_map kind_size (kind_numbered type)))

size_back : (kind : ExtraKind) (options : ℕ) → size_from (kind_number kind) options ≡ Some (kind_size kind)
size_back U8 options = refl
size_back I8 options = refl
size_back U16 options = refl
size_back I16 options = refl
size_back U32 options = refl
size_back I32 options = refl
size_back U64 options = refl
size_back I64 options = refl

-- ---- the scale

unit_nano : (s : Scale) → is_unit s ≡ true → pos 1_000_000_000 ≡ s.nano
unit_nano s e = let high = s.high in grind (arith, ints, nat_tests)

is_the_unit : (s : Scale) → is_unit s ≡ true → Some unit_scale ≡ Some s
is_the_unit s e = sym (scale_of_its_nano unit_scale s.nano (unit_nano s e)) ∙ scale_of_its_nano s s.nano refl

-- ---- a descriptor in front of others

abbrev relevant_offset : List ℕ → Option ℤ
relevant_offset bytes = option_map (λ d. d.nano) (result_ok (decimal_of_word (number_at 136 8 bytes)))

module _ (f : ExtraField) (rest : List ℕ) (is : IsDescribed f) where
  abbrev filling : List ℕ
  filling = drop (length f.name) (replicate 32 0)

  abbrev bytes : List ℕ
  bytes = descriptor_bytes f ++ rest

  abbrev beyond : List ℕ
  beyond = scale_part f.scale ++ (replicate 72 0 ++ rest)

  name_size : length (f.name ++ filling) ≡ 32
  name_size =
      let a = length-append f.name filling in
      let zeros : List ℕ = replicate 32 0 in
      let b = length-drop (length f.name) zeros in
      let c = is.short in
      omega (arith, a, b, c)

  regrouped : (a b c d e : List ℕ) → (a ++ (b ++ (c ++ (d ++ e)))) ++ rest ≡ (a ++ b) ++ (c ++ (d ++ (e ++ rest)))
  regrouped a b c d e = simp append_assoc refl

  at_name : drop 4 bytes ≡ (f.name ++ filling) ++ (replicate 76 0 ++ beyond)
  at_name = regrouped f.name filling (replicate 76 0) (scale_part f.scale) (replicate 72 0)

  at_zeros : drop 36 bytes ≡ replicate 76 0 ++ beyond
  at_zeros = behind 4 32 bytes (f.name ++ filling) (replicate 76 0 ++ beyond) at_name name_size

  at_scale : drop 112 bytes ≡ beyond
  at_scale = behind 36 76 bytes (replicate 76 0) beyond at_zeros refl

  scale_size : (unit : Bool) → length (if unit then replicate 8 0 else to_le_bytes w64 (near_word f.scale.nano 9)) ≡ 8
  scale_size true = refl
  scale_size false = refl

  at_end : drop 192 bytes ≡ rest
  at_end = behind 120 72 bytes (replicate 72 0) rest
      (behind 112 8 bytes (scale_part f.scale) (replicate 72 0 ++ rest) at_scale (scale_size (is_unit f.scale))) refl

  type_is : type_in bytes ≡ kind_number f.kind
  type_is = byte_is 2 (kind_number f.kind) bytes _ refl

  options_are : options_in bytes ≡ scale_options f.scale
  options_are = byte_is 3 (scale_options f.scale) bytes _ refl

  size_is : size_in bytes ≡ Some (kind_size f.kind)
  size_is = ap (λ t. size_from t (options_in bytes)) type_is ∙ size_back f.kind (options_in bytes)

  text_is : text_in bytes ≡ f.name
  text_is = ap (before_first is_zero) (piece_is 4 32 bytes (f.name ++ filling) (replicate 76 0 ++ beyond) at_name name_size)
      ∙ name_cut f.name filling (name_some f.name is.name) (zeros_cut (length f.name) 32)

  name_is : (before : List ExtraField) → is_taken f.name before ≡ false → name_in before bytes ≡ Some f.name
  name_is before free = ap (λ t. if is_name t then (if is_taken t before then None else Some t) else None) text_is
      ∙ ap (λ b. if b then (if is_taken f.name before then None else Some f.name) else None) is.name
      ∙ ap (λ b. if b then None else Some f.name) free

  kind_is : kind_numbered (type_in bytes) ≡ Some f.kind
  kind_is = ap kind_numbered type_is ∙ kind_back f.kind

  scale_by : (unit : Bool) → is_unit f.scale ≡ unit → scale_in bytes ≡ Some f.scale
  scale_by true e =
      ap (λ o. if o / 8 % 2 == 0 then Some unit_scale else result_ok (scale_read (number_at 112 8 bytes))) (options_are ∙ ap (λ b. if b then 0 else 8) e)
      ∙ is_the_unit f.scale e
  scale_by false e =
      let there : drop 112 bytes ≡ to_le_bytes w64 (near_word f.scale.nano 9) ++ (replicate 72 0 ++ rest) =
      at_scale ∙ ap (λ b. (if b then replicate 8 0 else to_le_bytes w64 (near_word f.scale.nano 9)) ++ (replicate 72 0 ++ rest)) e in
      let fits = (near_word_is f.scale.nano 9 (omega arith) (omega (arith, ints, f.scale.low, f.scale.high))).finite.0 in
      ap (λ o. if o / 8 % 2 == 0 then Some unit_scale else result_ok (scale_read (number_at 112 8 bytes))) (options_are ∙ ap (λ b. if b then 0 else 8) e)
      ∙ ap (λ w. result_ok (scale_read w)) (eight_is 112 (near_word f.scale.nano 9) bytes (replicate 72 0 ++ rest) there fits)
      ∙ ap result_ok (scale_is_read f.scale)

  options_low : (unit : Bool) → (if unit then 0 else 8) / 16 % 2 ≡ 0
  options_low true = refl
  options_low false = refl

  offset_is : offset_in bytes ≡ Some f.offset
  offset_is =
      ap (λ b. if b == 0 then Some (pos 0) else relevant_offset bytes) (ap (λ o. o / 16 % 2) options_are ∙ options_low (is_unit f.scale)) ∙ ap (λ o. Some o) (sym is.offset)

  found : (before : List ExtraField) → is_taken f.name before ≡ false → field_in f.at before bytes ≡ Some (unplaced f)
  found before free = field_is f.at before bytes (Some f.name) (Some f.kind) (Some f.scale) (Some f.offset)
      (name_is before free) kind_is (scale_by (is_unit f.scale) refl) offset_is

  grown : (before : List ExtraField) (at : ℕ) → is_taken f.name before ≡ false → f.at ≡ at → more_fields at before bytes ≡ before ++ unplaced f ∷ []
  grown before at free there = ap (λ o. before ++ option_to_list o) (ap (λ a. field_in a before bytes) (sym there) ∙ found before free)

  within : (at size : ℕ) → at + kind_size f.kind ≤ size → size_within at size bytes ≡ Some (kind_size f.kind)
  within at size room = ap (option_and_then (λ n. if nat_le (at + n) size then Some n else None)) size_is
      ∙ ap (λ b. if b then Some (kind_size f.kind) else None) (le-leb (at + kind_size f.kind) size room)

  long : 192 ≤ length bytes
  long =
      let a = length-drop 4 bytes in
      let b = ap length at_name in
      let c = length-append (f.name ++ filling) (replicate 76 0 ++ beyond) in
      let d = length-append (replicate 76 0) beyond in
      let e = length-append (scale_part f.scale) (replicate 72 0 ++ rest) in
      let g = length-append (replicate 72 0) rest in
      let h = scale_size (is_unit f.scale) in
      let k = name_size in
      omega (arith, a, b, c, d, e, g, h, k)

-- ---- all of them

abbrev all_bytes : List ExtraField → List ℕ
all_bytes fields = flat_map descriptor_bytes fields

none_behind : (xs : List ExtraField) → xs ≡ xs ++ []
none_behind [] = refl
none_behind (x ∷ xs) = ap (λ l. x ∷ l) (none_behind xs)

walked : (before : List ExtraField) (at size : ℕ) (fields : List ExtraField) → AreDescribed before at size fields
    → fields_behind (length (all_bytes fields) / 192) before at size (all_bytes fields) ≡ before ++ map unplaced fields
walked before at size [] h = walk_ends before at size [] (omega arith) ∙ none_behind before
walked before at size (f ∷ rest) h =
    let behind_it = all_bytes rest in
    let here = descriptor_bytes f ++ behind_it in
    let e = at_end f behind_it h.0 in
    let g = grown f behind_it h.0 before at h.1 h.2 in
    ap (λ b. fields_behind (length b / 192) before at size b) (flat_map-cons descriptor_bytes f rest)
    ∙ walk_on before at size (kind_size f.kind) here (long f behind_it h.0) (within f behind_it h.0 at size h.3)
    ∙ (λ i. fields_behind (length (e i) / 192) (g i) (at + kind_size f.kind) size (e i))
    ∙ walked (before ++ unplaced f ∷ []) (at + kind_size f.kind) size rest h.4
    ∙ append_assoc before (unplaced f ∷ []) (map unplaced rest)

pub written_are_read : WrittenAreRead
written_are_read from size fields h = walked [] from size fields h
