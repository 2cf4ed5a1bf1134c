-- A file ends with the number of the first record that is bad.
use Rattle.std.proofs.Common.{◌≡◌, ℕ, ◌+◌, ◌-◌, ◌*◌, ◌/◌, ◌<◌, ◌≤◌, eqb, List, length, drop, Option, Some, None, inl, inr, refl, ap, sym, ◌∙◌, arith}
use Rattle.std.proofs.Math.Nat.{mul-add-div, mul-div-le, mul-le-mul_left}
use Rattle.std.proofs.lemmas.Bool.{cases_lt, cases_eq, cond-true, cond-false, eq-eqb, ne_eqb}
use Rattle.cloud_points.specs.declared.dims.Dim.{Dim}
use Rattle.cloud_points.specs.declared.extra.ExtraField.{ExtraField}
use Rattle.cloud_points.specs.declared.faults.PointFault.{PointFault}
use Rattle.cloud_points.specs.declared.faults.PointFault.TheVariants.{Cut, ValueOutOfRange}
use Rattle.las_header.specs.declared.block.Header.{Header}
use Rattle.las_header.specs.Counts.{points_in}
use Rattle.las_reader.specs.Files.{las_with, records_in, whole_records, cut_of, fault_of, out_in}
use Rattle.las_reader.specs.Cuts.{EndsWithin, IsHeld, IsFirstCut, IsFirstOut, AreAllSound, CutIsTheFirst}
use Rattle.las_reader.proofs.Outs.{held_from_start, held_of_start, is_out, out_is, out_within}

-- n more bytes than those in front hold record k exactly where it is among the whole ones
holds : (L n k : ℕ) → 0 < L → L * (k + 1) ≤ n → k < n / L
holds L n k some h =
    let split : n ≡ L * (k + 1) + (n - L * (k + 1)) = omega arith in
    let sum : n / L ≡ (k + 1) + (n - L * (k + 1)) / L = ap (λ m. m / L) split ∙ mul-add-div some (k + 1) (n - L * (k + 1)) in omega arith

held : (L n k : ℕ) → k < n / L → L * (k + 1) ≤ n
held L n k h =
    let more : k + 1 ≤ n / L = omega arith in
    let m : L * (k + 1) ≤ L * (n / L) = mul-le-mul_left L more in
    let d : L * (n / L) ≤ n = mul-div-le n L in omega arith

-- ---- by the count of the whole records

module _ (header : Header) (file : List ℕ) (some : 0 < header.record_length) where
  within_whole : (k : ℕ) → EndsWithin header file k → k < records_in header file
  within_whole k h = holds header.record_length (length file - header.points_at) k some (omega arith)

  whole_within : (k : ℕ) → k < records_in header file → EndsWithin header file k
  whole_within k h =
      let m = held header.record_length (length file - header.points_at) k h in
      let l : header.record_length * 1 ≤ header.record_length * (k + 1) = (let one : 1 ≤ k + 1 = omega arith in mul-le-mul_left header.record_length one) in omega arith

  cut_at : (k : ℕ) → cut_of (points_in header) (whole_records header file) ≡ Some (Cut k) → (whole_records header file ≡ k) × (k < points_in header)
  cut_at k e = elim (cases_eq (whole_records header file) (points_in header)) [
    | inl all ↦ absurd (none_some (sym (cond-true (eqb (whole_records header file) (points_in header)) None (Some (Cut (whole_records header file))) (eq-eqb (whole_records header file) (points_in header) all)) ∙ e))
    | inr other ↦
        let f : Some (Cut (whole_records header file)) ≡ Some (Cut k) = sym (cond-false (eqb (whole_records header file) (points_in header)) None (Some (Cut (whole_records header file))) (ne_eqb (whole_records header file) (points_in header) other)) ∙ e in
        let is : whole_records header file ≡ k = same f in (is, omega arith)
  ]
    where
      none_some : ◌≡◌ {A = Option PointFault} None (Some (Cut k)) → ⊥
      none_some f = cc

      same : {n : ℕ} → Some (Cut n) ≡ Some (Cut k) → n ≡ k
      same f = cc

  not_cut : cut_of (points_in header) (whole_records header file) ≡ None → whole_records header file ≡ points_in header
  not_cut e = elim (cases_eq (whole_records header file) (points_in header)) [
    | inl all ↦ all
    | inr other ↦ absurd (some_none (sym (cond-false (eqb (whole_records header file) (points_in header)) None (Some (Cut (whole_records header file))) (ne_eqb (whole_records header file) (points_in header) other)) ∙ e))
  ]
    where
      some_none : {n : ℕ} → Some (Cut n) ≡ None → ⊥
      some_none f = cc

  not_out : (k : ℕ) (dim : Dim) → cut_of (points_in header) (whole_records header file) ≡ Some (ValueOutOfRange k dim) → ⊥
  not_out k dim e = elim (cases_eq (whole_records header file) (points_in header)) [
    | inl all ↦ none_some (sym (cond-true (eqb (whole_records header file) (points_in header)) None (Some (Cut (whole_records header file))) (eq-eqb (whole_records header file) (points_in header) all)) ∙ e)
    | inr other ↦ other_fault (sym (cond-false (eqb (whole_records header file) (points_in header)) None (Some (Cut (whole_records header file))) (ne_eqb (whole_records header file) (points_in header) other)) ∙ e)
  ]
    where
      none_some : ◌≡◌ {A = Option PointFault} None (Some (ValueOutOfRange k dim)) → ⊥
      none_some f = cc

      other_fault : {n : ℕ} → Some (Cut n) ≡ Some (ValueOutOfRange k dim) → ⊥
      other_fault f = cc

  -- the records before the first that doesn't end within the file are those that do
  whole_is : (k : ℕ) → k < points_in header → ¬ EndsWithin header file k → ((j : ℕ) → j < k → EndsWithin header file j) → whole_records header file ≡ k
  whole_is k counted cut before =
      let few : records_in header file ≤ k = elim (cases_lt k (records_in header file)) [
        | inl l ↦ absurd (cut (whole_within k l))
        | inr l ↦ l
      ] in
      let many : k ≤ records_in header file = elim (cases_lt (records_in header file) k) [
        | inl l ↦ let m = within_whole (records_in header file) (before (records_in header file) l) in absurd (omega arith)
        | inr l ↦ l
      ] in
      omega arith

  cut_is : (k : ℕ) → whole_records header file ≡ k → k < points_in header → cut_of (points_in header) (whole_records header file) ≡ Some (Cut k)
  cut_is k is counted =
      cond-false (eqb (whole_records header file) (points_in header)) None (Some (Cut (whole_records header file))) (ne_eqb (whole_records header file) (points_in header) (λ e. omega arith)) ∙ ap (λ n. Some (Cut n)) is

  all_whole : ((k : ℕ) → k < points_in header → EndsWithin header file k) → whole_records header file ≡ points_in header
  all_whole all =
      let enough : points_in header ≤ records_in header file = elim (cases_lt (records_in header file) (points_in header)) [
        | inl l ↦ let m = within_whole (records_in header file) (all (records_in header file) l) in absurd (omega arith)
        | inr l ↦ l
      ] in
      omega arith

  whole_is_not_cut : whole_records header file ≡ points_in header → cut_of (points_in header) (whole_records header file) ≡ None
  whole_is_not_cut is = cond-true (eqb (whole_records header file) (points_in header)) None (Some (Cut (whole_records header file))) (eq-eqb (whole_records header file) (points_in header) is)

  -- ---- and by the first of them with a value that no point holds

  module _ (fields : List ExtraField) where
    abbrev stored : List ℕ
    stored = drop header.points_at file

    abbrev whole : ℕ
    whole = whole_records header file

    -- without one the values of all whole records are held
    held_whole : out_in header fields file ≡ None → (j : ℕ) → j < whole → IsHeld header fields file j
    held_whole e j h = held_of_start fields header.record_length whole stored e j h

    cut_first : (k : ℕ) → (las_with header fields file).fault ≡ Some (Cut k) → IsFirstCut header fields file k
    cut_first k e = by (out_in header fields file) (λ f. f) e
      where
        by : (x : Option (ℕ × Dim)) → (x ≡ None → out_in header fields file ≡ None) → fault_of (points_in header) whole x ≡ Some (Cut k) → IsFirstCut header fields file k
        by (Some o) none e = absurd (cc)
        by None none e =
            let c = cut_at k e in
            let is = c.0 in
            record {
              counted = c.1;
              cut = λ h. (let m = within_whole k h in let few = c.1 in omega arith);
              before = λ j l. whole_within j (omega arith);
              held = λ j l. held_whole (none refl) j (omega arith);
            }

    first_cut : (k : ℕ) → IsFirstCut header fields file k → (las_with header fields file).fault ≡ Some (Cut k)
    first_cut k first =
        let is = whole_is k first.counted first.cut first.before in
        let none : out_in header fields file ≡ None = held_from_start fields header.record_length whole stored (λ j l. first.held j (omega (arith, is, l))) in
        ap (fault_of (points_in header) whole) none ∙ cut_is k is first.counted

    out_first : (k : ℕ) (dim : Dim) → (las_with header fields file).fault ≡ Some (ValueOutOfRange k dim) → IsFirstOut header fields file k dim
    out_first k dim e = by (out_in header fields file) (λ o f. f) e
      where
        there : out_in header fields file ≡ Some (k, dim) → IsFirstOut header fields file k dim
        there f =
            let w = out_within fields header.record_length 0 whole stored (k, dim) f in
            let is = is_out fields header.record_length whole stored k dim f in
            record {
              counted = omega (arith, w.1);
              within = whole_within k (omega (arith, w.1));
              out = is.out;
              held = is.held;
            }

        by : (x : Option (ℕ × Dim)) → ((o : ℕ × Dim) → x ≡ Some o → out_in header fields file ≡ Some o) → fault_of (points_in header) whole x ≡ Some (ValueOutOfRange k dim) → IsFirstOut header fields file k dim
        by None out e = absurd (not_out k dim e)
        by (Some o) out e =
            let place : o.0 ≡ k = cc in
            let kind : o.1 ≡ dim = cc in
            there (out o refl ∙ (λ i. Some (place i, kind i)))

    first_is_out : (k : ℕ) (dim : Dim) → IsFirstOut header fields file k dim → (las_with header fields file).fault ≡ Some (ValueOutOfRange k dim)
    first_is_out k dim first =
        let inside = within_whole k first.within in
        let counted = first.counted in
        let among : k < whole = omega arith in
        ap (fault_of (points_in header) whole) (out_is fields header.record_length whole stored k dim among (record { out = first.out; held = first.held }))

    all_sound : (las_with header fields file).fault ≡ None → AreAllSound header fields file
    all_sound e = by (out_in header fields file) (λ f. f) e
      where
        by : (x : Option (ℕ × Dim)) → (x ≡ None → out_in header fields file ≡ None) → fault_of (points_in header) whole x ≡ None → AreAllSound header fields file
        by (Some o) none e = absurd (cc)
        by None none e = let all = not_cut e in λ k l. (whole_within k (omega arith), held_whole (none refl) k (omega arith))

    sound_all : AreAllSound header fields file → (las_with header fields file).fault ≡ None
    sound_all all =
        let is = all_whole (λ k l. (all k l).0) in
        let none : out_in header fields file ≡ None = held_from_start fields header.record_length whole stored (λ j l. (all j (omega (arith, is, l))).1) in
        ap (fault_of (points_in header) whole) none ∙ whole_is_not_cut is

pub cut_is_the_first : CutIsTheFirst
cut_is_the_first header fields file some = (
  (λ k. (cut_first header file some fields k, first_cut header file some fields k)),
  (λ k dim. (out_first header file some fields k dim, first_is_out header file some fields k dim)),
  (all_sound header file some fields, sound_all header file some fields),
)
