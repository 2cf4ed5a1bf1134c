-- What a value of JSON is as an option.
use Rattle.std.specs.Prelude.{ℕ, ℤ, pos, ◌*ℤ◌, unsigned_abs, ◌&&◌, ◌==◌, nat_le, nat_lt, Bool, true, false, not, List, [], ◌∷◌, length, count_by, flat_map, decimal, codes, bytes_eq, Option, Some, None, option_map, option_and_then, if◌then◌else◌}
use Rattle.std.specs.List.{list_any, ends_with}
use Rattle.std.specs.Result.{result_ok}
use Rattle.std.specs.Str.{all_ascii_digits}
use Rattle.std.specs.Str.Parse.{digits_value}
use Rattle.serde_json.specs.Data.{Data, boolean, number, string, Members}
use Rattle.serde_json.specs.Find.{as_u64, as_i64, get_member}
use Rattle.decimal_coords.specs.DecimalOfText.{decimal_of_text}
use Rattle.las_header.specs.declared.form.Format.{Format}
use Rattle.las_header.specs.Formats.{format_of}

-- the value of an option. The file name stands beside the other members
abbrev pub value_of : List ℕ → Option (List ℕ) → Members → Option Data
value_of name filename ms = if bytes_eq name (codes "filename") then option_map string filename else get_member name ms

-- ---- whole numbers below 2 ^ 32

abbrev pub small : ℕ → Option ℕ
small n = if nat_le n 4294967295 then Some n else None

-- one to ten digits, with as many zeros first as there are
abbrev pub text_whole : List ℕ → Option ℕ
text_whole text = if nat_lt 0 (length text) && nat_le (length text) 10 && all_ascii_digits text then small (digits_value 10 text) else None

abbrev pub whole_of : Data → Option ℕ
whole_of (number n) = option_and_then small (as_u64 n)
whole_of (string text) = text_whole text
whole_of _ = None

-- a point data record format, by its number
abbrev pub format_with : Data → Option Format
format_with d = option_and_then format_of (whole_of d)

-- ---- decimals, in nanounits

-- a whole number of at most 4 * 10 ^ 9 in size
abbrev pub whole_nano : ℤ → Option ℤ
whole_nano z = if nat_le (unsigned_abs z) 4000000000 then Some (z *ℤ pos 1000000000) else None

abbrev pub decimal_of : Data → Option ℤ
decimal_of (number n) = option_and_then whole_nano (as_i64 n)
decimal_of (string text) = result_ok (decimal_of_text text)
decimal_of _ = None

-- ---- truth values

abbrev pub text_truth : List ℕ → Option Bool
text_truth text = if bytes_eq text (codes "true") then Some true else (if bytes_eq text (codes "false") then Some false else None)

abbrev pub truth_of : Data → Option Bool
truth_of (boolean b) = Some b
truth_of (string text) = text_truth text
truth_of _ = None

-- ---- names of files

-- a name that ends so is one of a file that isn't done yet
abbrev pub is_part : List ℕ → Bool
is_part name = ends_with (λ a b. a == b) name (codes ".lasline-part")

abbrev pub is_source : List ℕ → Bool
is_source name = not (is_part name)

-- the byte `#`
abbrev pub is_mark : ℕ → Bool
is_mark b = b == 35

-- a name with at most one `#`, and not one of a file that isn't done yet
abbrev pub is_target : List ℕ → Bool
is_target name = not (is_part name) && nat_le (count_by is_mark name) 1

-- a name that holds a `#`
abbrev pub is_numbered : List ℕ → Bool
is_numbered name = list_any is_mark name

-- the name with the digits of a number in place of each `#`
abbrev pub numbered : List ℕ → ℕ → List ℕ
numbered name n = flat_map (λ b. if is_mark b then decimal n else b ∷ []) name
