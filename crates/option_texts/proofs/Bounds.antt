-- The columns and fields that a text lists are few, and have one digit each, and ferries go to names.
use Rattle.std.proofs.Common.{◌≡◌, ℕ, suc, ◌-◌, ◌≤◌, ◌==◌, ◌&&◌, nat_le, Bool, true, false, List, [], ◌∷◌, length, Option, Some, None, IfSome, All, if◌then◌else◌, option_and_then, option_map, refl, sym, ap, subst, arith, leb-true}
use Rattle.std.proofs.lemmas.Option.{none-some, same_Some}
use Rattle.std.proofs.lemmas.List.Elements.{All-cons, All-nil}
use Rattle.std.proofs.lemmas.Bool.{and_parts}
use Rattle.std.specs.Char.{is_ascii_digit}
use Rattle.std.specs.List.{before_first, after_first}
use Rattle.cloud_points.specs.declared.extra.ExtraKind.{ExtraKind}
use Rattle.option_texts.specs.declared.columns.NamedColumn.{NamedColumn}
use Rattle.option_texts.specs.declared.extra_dims.NamedField.{NamedField}
use Rattle.option_texts.specs.Parts.{parts_of, each_read, trimmed}
use Rattle.text_bytes.specs.Bytes.{is_name}
use Rattle.option_texts.specs.Columns.{digit_of, column_with, column_of, columns_of, AreColumns, has_colon, is_colon}
use Rattle.option_texts.specs.Ferries.{AreFerries, ferries_of, ferry_behind, ferry_of, ferry_with, has_equals, is_equals}
use Rattle.option_texts.specs.declared.ferries.NamedFerry.{NamedFerry}
use Rattle.option_texts.specs.NamedFields.{kind_called, field_with, field_typed, field_asked, are_different, AreFields}

both_read : {X : Type 0} (o : Option X) (r : Option (List X)) (xs : List X) → option_and_then (λ x. option_map (λ ys. x ∷ ys) r) o ≡ Some xs
    → (x : X) × (ys : List X) × (o ≡ Some x) × (r ≡ Some ys) × (x ∷ ys ≡ xs)
both_read None r xs e = absurd (none-some xs e)
both_read (Some x) None xs e = absurd (none-some xs e)
both_read (Some x) (Some ys) xs e = (x, ys, refl, refl, same_Some (x ∷ ys) xs e)

-- each part is read, and what holds of all that parts are read as holds of these
each_all : {X : Type 0} (read : List ℕ → Option X) (P : X → Type 0) → ((part : List ℕ) (x : X) → read part ≡ Some x → P x)
    → (parts : List (List ℕ)) (xs : List X) → each_read read parts ≡ Some xs → (length xs ≡ length parts) × All P xs
each_all read P each [] xs e = subst (λ ys. (length ys ≡ 0) × All P ys) (same_Some [] xs e) (refl, All-nil P)
each_all read P each (part ∷ parts) xs e =
    let (x, ys, first, rest, is) = both_read (read part) (each_read read parts) xs e in
    let (count, all) = each_all read P each parts ys rest in
    subst (λ zs. (length zs ≡ suc (length parts)) × All P zs) is (ap suc count, All-cons P x ys (each part x first) all)

small_digit : (b d : ℕ) (is : Bool) → (is ≡ true → b ≤ 57) → (if is then Some (b - 48) else None) ≡ Some d → d ≤ 9
small_digit b d true low e =
    let is = same_Some (b - 48) d e in
    let most = low refl in
    omega (arith, is, most)
small_digit b d false low e = absurd (none-some d e)

most_digit : (b : ℕ) → is_ascii_digit b ≡ true → b ≤ 57
most_digit b e = leb-true b 57 (and_parts (nat_le 48 b) (nat_le b 57) e).1

digit_is_small : (text : List ℕ) (d : ℕ) → digit_of text ≡ Some d → d ≤ 9
digit_is_small [] d e = absurd (none-some d e)
digit_is_small (b ∷ []) d e = small_digit b d (is_ascii_digit b) (most_digit b) e
digit_is_small (b ∷ c ∷ more) d e = absurd (none-some d e)

near_with : (name : List ℕ) (places : Option ℕ) (is : Bool) (c : NamedColumn) → (if is then Some (record { name = name; places = places }) else None) ≡ Some c
    → IfSome places (λ n. n ≤ 9) → IfSome c.places (λ n. n ≤ 9)
near_with name places true c e near = subst (λ (k : NamedColumn). IfSome k.places (λ n. n ≤ 9)) (same_Some (record { name = name; places = places }) c e) near
near_with name places false c e near = absurd (none-some c e)

near_column : (part : List ℕ) (c : NamedColumn) → column_of part ≡ Some c → IfSome c.places (λ n. n ≤ 9)
near_column part c e = by_colon (has_colon part) e
  where
    by_digit : (o : Option ℕ) (name : List ℕ) → ((d : ℕ) → o ≡ Some d → d ≤ 9) → option_and_then (λ d. column_with name (Some d)) o ≡ Some c → IfSome c.places (λ n. n ≤ 9)
    by_digit None name small e = absurd (none-some c e)
    by_digit (Some d) name small e = near_with name (Some d) (is_name name) c e (small d refl)

    by_colon : (has : Bool) → (if has then option_and_then (λ d. column_with (trimmed (before_first is_colon part)) (Some d)) (digit_of (trimmed (after_first is_colon part))) else column_with (trimmed part) None) ≡ Some c
        → IfSome c.places (λ n. n ≤ 9)
    by_colon true e = by_digit (digit_of (trimmed (after_first is_colon part))) (trimmed (before_first is_colon part)) (digit_is_small (trimmed (after_first is_colon part))) e
    by_colon false e = near_with (trimmed part) None (is_name (trimmed part)) c e tt

pub are_columns : (text : List ℕ) (columns : List NamedColumn) → columns_of text ≡ Some columns → AreColumns columns
are_columns text columns e = by_count (nat_le (length (parts_of text)) 64) refl e
  where
    by_count : (few : Bool) → nat_le (length (parts_of text)) 64 ≡ few → (if few then each_read column_of (parts_of text) else None) ≡ Some columns → AreColumns columns
    by_count true is e =
        let (count, near) = each_all column_of (λ c. IfSome c.places (λ n. n ≤ 9)) near_column (parts_of text) columns e in
        record { few = subst (λ n. n ≤ 64) (sym count) (leb-true (length (parts_of text)) 64 is); near = near }
    by_count false is e = absurd (none-some columns e)

-- ---- ferries

ferry_named : (from to : List ℕ) (a b : Bool) (f : NamedFerry) → is_name to ≡ b → (if a && b then Some (record { from = from; to = to }) else None) ≡ Some f → is_name f.to ≡ true
ferry_named from to true true f named e = subst (λ (g : NamedFerry). is_name g.to ≡ true) (same_Some (record { from = from; to = to }) f e) named
ferry_named from to true false f named e = absurd (none-some f e)
ferry_named from to false b f named e = absurd (none-some f e)

behind_named : (from behind : List ℕ) (f : NamedFerry) → ferry_behind from behind ≡ Some f → is_name f.to ≡ true
behind_named from [] f e = absurd (none-some f e)
behind_named from (b ∷ to) f e = by_arrow (b == 62) e
  where
    by_arrow : (is : Bool) → (if is then ferry_with from (trimmed to) else None) ≡ Some f → is_name f.to ≡ true
    by_arrow true e = ferry_named from (trimmed to) (is_name from) (is_name (trimmed to)) f refl e
    by_arrow false e = absurd (none-some f e)

part_named : (part : List ℕ) (f : NamedFerry) → ferry_of part ≡ Some f → is_name f.to ≡ true
part_named part f e = by_equals (has_equals part) e
  where
    by_equals : (has : Bool) → (if has then ferry_behind (trimmed (before_first is_equals part)) (after_first is_equals part) else None) ≡ Some f → is_name f.to ≡ true
    by_equals true e = behind_named (trimmed (before_first is_equals part)) (after_first is_equals part) f e
    by_equals false e = absurd (none-some f e)

pub are_ferries : (text : List ℕ) (ferries : List NamedFerry) → ferries_of text ≡ Some ferries → AreFerries ferries
are_ferries text ferries e = by_count (nat_le (length (parts_of text)) 64) e
  where
    by_count : (few : Bool) → (if few then each_read ferry_of (parts_of text) else None) ≡ Some ferries → AreFerries ferries
    by_count true e = (each_all ferry_of (λ f. is_name f.to ≡ true) part_named (parts_of text) ferries e).1
    by_count false e = absurd (none-some ferries e)

-- ---- fields of extra dimensions

abbrev IsField : NamedField → Type 0
IsField f = (is_name f.name ≡ true) × (f.places ≤ 9)

field_named : (name : List ℕ) (kind : ExtraKind) (places : ℕ) (is : Bool) (f : NamedField) → is_name name ≡ is
    → (if is then Some (record { name = name; kind = kind; places = places }) else None) ≡ Some f → places ≤ 9 → IsField f
field_named name kind places true f named e near = subst IsField (same_Some (record { name = name; kind = kind; places = places }) f e) (named, near)
field_named name kind places false f named e near = absurd (none-some f e)

is_field : (name : List ℕ) (kind : Option ExtraKind) (places : ℕ) (f : NamedField) → field_with name kind places ≡ Some f → places ≤ 9 → IsField f
is_field name None places f e near = absurd (none-some f e)
is_field name (Some kind) places f e near = field_named name kind places (is_name name) f refl e near

typed_field : (name text : List ℕ) (f : NamedField) → field_typed name text ≡ Some f → IsField f
typed_field name text f e = by_colon (has_colon text) e
  where
    by_digit : (o : Option ℕ) (kind : Option ExtraKind) → ((d : ℕ) → o ≡ Some d → d ≤ 9) → option_and_then (field_with name kind) o ≡ Some f → IsField f
    by_digit None kind small e = absurd (none-some f e)
    by_digit (Some d) kind small e = is_field name kind d f e (small d refl)

    by_colon : (has : Bool) → (if has then option_and_then (field_with name (kind_called (trimmed (before_first is_colon text)))) (digit_of (trimmed (after_first is_colon text))) else field_with name (kind_called (trimmed text)) 0) ≡ Some f
        → IsField f
    by_colon true e = by_digit (digit_of (trimmed (after_first is_colon text))) (kind_called (trimmed (before_first is_colon text))) (digit_is_small (trimmed (after_first is_colon text))) e
    by_colon false e = is_field name (kind_called (trimmed text)) 0 f e (omega arith)

asked_field : (part : List ℕ) (f : NamedField) → field_asked part ≡ Some f → IsField f
asked_field part f e = by_equals (has_equals part) e
  where
    by_equals : (has : Bool) → (if has then field_typed (trimmed (before_first is_equals part)) (after_first is_equals part) else None) ≡ Some f → IsField f
    by_equals true e = typed_field (trimmed (before_first is_equals part)) (after_first is_equals part) f e
    by_equals false e = absurd (none-some f e)

pub are_fields : (parts : List (List ℕ)) (fields : List NamedField) → nat_le (length parts) 8 ≡ true → each_read field_asked parts ≡ Some fields → are_different fields ≡ true → AreFields fields
are_fields parts fields few e different =
    let (count, named) = each_all field_asked (λ f. is_name f.name ≡ true) (λ part f is. (asked_field part f is).0) parts fields e in
    record {
      few = subst (λ n. n ≤ 8) (sym count) (leb-true (length parts) 8 few);
      named = named;
      near = (each_all field_asked (λ f. f.places ≤ 9) (λ part f is. (asked_field part f is).1) parts fields e).1;
      different = different;
    }
