-- The forms that go over are those that a writer takes.
use Rattle.std.proofs.Common.{◌≡◌, refl, ℕ, zero, suc, ◌≤◌, ℤ, pos, Bool, true, false, cond, List, [], ◌∷◌, length, map, Option, Some, None, if◌then◌else◌, arith}
use Rattle.std.specs.Prelude.{IfSome, ◌&&◌, not}
use Rattle.std.specs.Ordering.{int_eq}
use Rattle.std.specs.List.{All, list_all, filter, sum_by}
use Rattle.std.proofs.lemmas.Int.{ints}
use Rattle.std.proofs.lemmas.List.Elements.{All-nil, All-cons, All-head, All-tail}
use Rattle.std.proofs.lemmas.List.Sums.{sum_by-cons}
use Rattle.las_header.specs.declared.form.Format.{Format}
use Rattle.las_header.specs.declared.form.Format.TheVariants.{F3}
use Rattle.las_header.specs.Offsets.{IsOffset}
use Rattle.las_header.specs.Versions.{takes_format}
use Rattle.las_vlr.specs.declared.entry.Vlr.{Vlr}
use Rattle.las_vlr.specs.Limits.{AreHeld, AreHeldVlrs, AreHeldEvlrs}
use Rattle.las_vlr.specs.Written.{IsVlr, IsEvlr, payload_size}
use Rattle.forward_rules.specs.declared.options.LasOpts.{LasOpts}
use Rattle.forward_rules.specs.Asked.{asked}
use Rattle.las_vlr.specs.ExtraBytes.{is_extra_bytes}
use Rattle.forward_rules.specs.Values.{default_values, format_in, offset_on, same_format}
use Rattle.forward_rules.specs.Forwarded.{ReadFile, decided, given_on, given_or, flag_on, decided_offset, same_lists, decided_lists, form_of}
use Rattle.forward_rules.specs.Options.{AreGoodOptions}
use Rattle.las_writer.specs.Laws.{IsGoodRead, AreGoodReads, FormsAreTaken}

chosen_has : {A : Type 0} (P : A → Type 0) (b : Bool) (x y : A) → P x → P y → P (if b then x else y)
chosen_has P true x y h k = h
chosen_has P false x y h k = k

-- what all values have that may be decided on, the decided one has
decided_has : {A : Type 0} (P : A → Type 0) (same : A → A → Bool) (given : Option A) (is_asked : Bool) (get : ReadFile → A) (reads : List ReadFile) (default : A)
    → IfSome given P → AreGoodReads reads → ((r : ReadFile) → IsGoodRead r → P (get r)) → P default → P (decided same given is_asked (map get reads) default)
decided_has P same (Some v) is_asked get reads default h good each d = h
decided_has P same None is_asked get [] default h good each d = d
decided_has P same None is_asked get (r ∷ reads) default h good each d = chosen_has P (is_asked && list_all (same (get r)) (map get reads)) (get r) default (each r good.0) d

offset_good : (offsets : List ℤ) (axis : ℕ) → All IsOffset offsets → IsOffset (offset_on offsets axis)
offset_good [] axis h = omega (arith, ints)
offset_good (x ∷ offsets) zero h = All-head IsOffset x offsets h
offset_good (x ∷ offsets) (suc axis) h = offset_good offsets axis (All-tail IsOffset x offsets h)

given_good : (given : List (Option ℤ)) (axis : ℕ) → All (λ o. IfSome o IsOffset) given → IfSome (given_on given axis) IsOffset
given_good [] axis h = tt
given_good (x ∷ given) zero h = All-head (λ o. IfSome o IsOffset) x given h
given_good (x ∷ given) (suc axis) h = given_good given axis (All-tail (λ o. IfSome o IsOffset) x given h)

three_good : (a b c : ℤ) → IsOffset a → IsOffset b → IsOffset c → All IsOffset (a ∷ b ∷ c ∷ [])
three_good a b c ha hb hc = All-cons IsOffset a (b ∷ c ∷ []) ha (All-cons IsOffset b (c ∷ []) hb (All-cons IsOffset c [] hc (All-nil IsOffset)))

zero_good : IsOffset (pos 0)
zero_good = omega (arith, ints)

default_good : (axis : ℕ) → IsOffset (offset_on default_values.offset axis)
default_good axis = offset_good default_values.offset axis (three_good (pos 0) (pos 0) (pos 0) zero_good zero_good zero_good)

offset_taken : (opts : LasOpts) (reads : List ReadFile) (axis : ℕ) → AreGoodOptions opts → AreGoodReads reads → IsOffset (decided_offset opts reads axis)
offset_taken opts reads axis o good =
    decided_has IsOffset int_eq (given_on opts.offset axis) (flag_on (asked opts.forward).offset axis) (λ r. offset_on r.values.offset axis) reads (offset_on default_values.offset axis)
    (given_good opts.offset axis o.offsets) good (λ r g. offset_good r.values.offset axis g.offsets) (default_good axis)

-- a list of which some records are left out
filtered_length : {A : Type 0} (test : A → Bool) (items : List A) → length (filter test items) ≤ length items
filtered_length test [] = omega arith
filtered_length test (x ∷ items) = by (test x) (filtered_length test items)
  where
    by : (b : Bool) → length (filter test items) ≤ length items → length (cond b (x ∷ filter test items) (filter test items)) ≤ suc (length items)
    by true rest = omega (arith, rest)
    by false rest = omega (arith, rest)

filtered_sum : {A : Type 0} (size : A → ℕ) (test : A → Bool) (items : List A) → sum_by size (filter test items) ≤ sum_by size items
filtered_sum size test [] = omega arith
filtered_sum size test (x ∷ items) = by (test x) (filtered_sum size test items)
  where
    by : (b : Bool) → sum_by size (filter test items) ≤ sum_by size items → sum_by size (cond b (x ∷ filter test items) (filter test items)) ≤ sum_by size (x ∷ items)
    by true rest = omega (arith, sum_by-cons size x (filter test items), sum_by-cons size x items, rest)
    by false rest = omega (arith, sum_by-cons size x items, rest)

filtered_all : {A : Type 0} (P : A → Type 0) (test : A → Bool) (items : List A) → All P items → All P (filter test items)
filtered_all P test [] h = All-nil P
filtered_all P test (x ∷ items) h = by (test x) (filtered_all P test items (All-tail P x items h))
  where
    by : (b : Bool) → All P (filter test items) → All P (cond b (x ∷ filter test items) (filter test items))
    by true rest = All-cons P x (filter test items) (All-head P x items h) rest
    by false rest = rest

record AreHeldBoth (lists : List Vlr × List Vlr) : Type 0 where
  vlrs : AreHeldVlrs lists.0
  evlrs : AreHeldEvlrs lists.1

none_held : (IsRecord : Vlr → Type 0) → AreHeld IsRecord []
none_held IsRecord = record { count = omega arith; payloads = omega arith; each = All-nil IsRecord }

lists_held : (opts : LasOpts) (reads : List ReadFile) → AreGoodReads reads → AreHeldBoth (decided_lists opts reads)
lists_held opts reads good =
    decided_has AreHeldBoth same_lists None (asked opts.forward).lists (λ r. (r.vlrs, r.evlrs)) reads ([], []) tt good (λ r g. record { vlrs = g.vlrs; evlrs = g.evlrs })
    (record { vlrs = none_held IsVlr; evlrs = none_held IsEvlr })

filtered_held : (IsRecord : Vlr → Type 0) (test : Vlr → Bool) (vlrs : List Vlr) → AreHeld IsRecord vlrs → AreHeld IsRecord (filter test vlrs)
filtered_held IsRecord test vlrs h = record {
  count = omega (arith, filtered_length test vlrs, h.count);
  payloads = omega (arith, filtered_sum payload_size test vlrs, h.payloads);
  each = filtered_all IsRecord test vlrs h.each;
}

-- the format that is taken is one of the version
format_taken : (minor : ℕ) (format : Format) → takes_format minor (format_in minor format) ≡ true
format_taken minor format = by (takes_format minor format) refl
  where
    by : (b : Bool) → takes_format minor format ≡ b → takes_format minor (if b then format else F3) ≡ true
    by true e = e
    by false e = refl

pub forms_are_taken : FormsAreTaken
unfolding form_of
forms_are_taken opts reads o good =
    let lists = lists_held opts reads good in
    record {
      version = o.version;
      format = format_taken (given_or opts.minor 4) (decided same_format opts.format (asked opts.forward).format (map (λ r. r.values.format) reads) default_values.format);
      offsets = three_good (decided_offset opts reads 0) (decided_offset opts reads 1) (decided_offset opts reads 2) (offset_taken opts reads 0 o good) (offset_taken opts reads 1 o good) (offset_taken opts reads 2 o good);
      vlrs = filtered_held IsVlr (λ v. not (is_extra_bytes v)) (decided_lists opts reads).0 lists.vlrs;
      evlrs = lists.evlrs;
      extra = λ k f e. absurd (cc);
      few = omega arith;
    }
