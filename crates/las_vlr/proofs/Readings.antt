-- Records that are read one after another.
use Rattle.std.proofs.Common.{◌≡◌, ℕ, suc, ◌+◌, ◌-◌, ◌<◌, ◌≤◌, nat_lt, false, List, [], ◌∷◌, ◌++◌, drop, Option, Some, None, Result, Ok, Err, refl, ap, sym, ◌∙◌, arith, append_assoc, append-nil, length, length-append}
use Rattle.std.proofs.lemmas.Bool.{le-ltb}
use Rattle.std.specs.List.{All, sum_by}
use Rattle.std.proofs.lemmas.List.Elements.{All-nil, All-cons, All-append}
use Rattle.std.proofs.lemmas.List.Sums.{sum_by_push}
use Rattle.las_vlr.specs.Limits.{IsOf, AreHeld}
use Rattle.las_vlr.specs.Written.{payload_size}
use Rattle.las_vlr.specs.Vlrs.{head_size, payload_length, entry_of, entry_fault, behind, entries_from, entries, IsFault, IsRefusal, IsInFront}
use Rattle.las_vlr.specs.declared.entry.Vlr.{Vlr}
use Rattle.las_vlr.specs.declared.entry.ListKind.{ListKind}
use Rattle.las_vlr.specs.declared.entry.ListKind.TheVariants.{Plain, Extended}
use Rattle.las_vlr.specs.declared.entry.VlrFault.{VlrFault}
use Rattle.las_vlr.specs.declared.entry.VlrErr.{VlrErr}
use Rattle.las_vlr.specs.declared.entry.VlrErr.TheVariants.{Fault, ReadFailed, Memory}

-- records in front of others, or of their fault
abbrev pub prefixed : List Vlr → Result (List Vlr) VlrFault → Result (List Vlr) VlrFault
prefixed front (Ok vlrs) = Ok (front ++ vlrs)
prefixed front (Err f) = Err f

prefixed_none : (r : Result (List Vlr) VlrFault) → prefixed [] r ≡ r
prefixed_none (Ok vlrs) = refl
prefixed_none (Err f) = refl

prefixed_more : (front : List Vlr) (v : Vlr) (r : Result (List Vlr) VlrFault) → prefixed front (behind None v r) ≡ prefixed (front ++ v ∷ []) r
prefixed_more front v (Ok vlrs) = ap (λ l. Ok l) (sym (append_assoc front (v ∷ []) vlrs))
prefixed_more front v (Err f) = refl

-- the records so far, and what was asked for
pub record Reading (kind : ListKind) (count start number at before : ℕ) (told now : Option (List ℕ)) (faults_before faults reached_before reached : ℕ) (vlrs : List Vlr) : Type 0 where
  pub so_far : (file : List ℕ) → told ≡ Some file → entries_from kind count 0 start 0 file ≡ prefixed vlrs (entries_from kind (count - number) number at before file)
  pub same : now ≡ told
  pub calm : faults ≡ faults_before
  pub in_front : IsInFront kind reached_before reached
  pub unread : number ≡ 0 → reached ≡ reached_before
  pub room : before ≤ 16777216
  pub so_many : length vlrs ≡ number
  pub payloads : sum_by payload_size vlrs ≡ before
  pub each : All (IsOf kind) vlrs

pub in_front_none : (kind : ListKind) (r : ℕ) → IsInFront kind r r
in_front_none (Plain points_at) r = omega arith
in_front_none Extended r = tt

pub in_front_more : (kind : ListKind) (r0 r1 r2 : ℕ) → IsInFront kind r0 r1 → IsInFront kind r1 r2 → IsInFront kind r0 r2
in_front_more (Plain points_at) r0 r1 r2 p q = omega arith
in_front_more Extended r0 r1 r2 p q = tt

pub reading_none : (kind : ListKind) (count start : ℕ) (told : Option (List ℕ)) (faults reached : ℕ) → Reading kind count start 0 start 0 told told faults faults reached reached []
reading_none kind count start told faults reached = record {
  so_far = λ file e. let all : count ≡ count - 0 = omega arith in ap (λ n. entries_from kind n 0 start 0 file) all ∙ sym (prefixed_none (entries_from kind (count - 0) 0 start 0 file));
  same = refl;
  calm = refl;
  in_front = in_front_none kind reached;
  unread = λ none. refl;
  room = omega arith;
  so_many = refl;
  payloads = refl;
  each = All-nil (IsOf kind);
}

pub next_entry : (kind : ListKind) (left k at before : ℕ) (file : List ℕ) (v : Vlr) (size : ℕ) → entry_fault kind k at before file ≡ None → v ≡ entry_of kind (drop at file) → size ≡ payload_length kind (drop at file)
    → entries_from kind (suc left) k at before file ≡ behind None v (entries_from kind left (k + 1) (at + (head_size kind + size)) (before + size) file)
unfolding entries_from
next_entry kind left k at before file v size none is long = rw none (rw is (rw long refl))

pub refused_entry : (kind : ListKind) (left k at before : ℕ) (file : List ℕ) (f : VlrFault) → entry_fault kind k at before file ≡ Some f → entries_from kind (suc left) k at before file ≡ Err f
unfolding entries_from
refused_entry kind left k at before file f is = rw is refl

pub no_entries : (kind : ListKind) (k at before : ℕ) (file : List ℕ) → entries_from kind 0 k at before file ≡ Ok []
unfolding entries_from
no_entries kind k at before file = refl

pub reading_more : (kind : ListKind) (count start number at before size : ℕ) (told now now_after : Option (List ℕ)) (f0 f1 f2 r0 r1 r2 : ℕ) (vlrs : List Vlr) (v : Vlr) → number < count → now_after ≡ now → f2 ≡ f1 → IsInFront kind r1 r2 → before + size ≤ 16777216
    → size ≡ payload_size v → IsOf kind v
    → ((file : List ℕ) → now ≡ Some file → entry_fault kind number at before file ≡ None) → ((file : List ℕ) → now ≡ Some file → v ≡ entry_of kind (drop at file)) → ((file : List ℕ) → now ≡ Some file → size ≡ payload_length kind (drop at file))
    → Reading kind count start number at before told now f0 f1 r0 r1 vlrs → Reading kind count start (number + 1) (at + (head_size kind + size)) (before + size) told now_after f0 f2 r0 r2 (vlrs ++ v ∷ [])
reading_more kind count start number at before size told now now_after f0 f1 f2 r0 r1 r2 vlrs v more same calm in_front room own held none is long was = record {
  so_far = λ file e.
      let one : count - number ≡ suc (count - (number + 1)) = omega arith in
      was.so_far file e
      ∙ ap (λ n. prefixed vlrs (entries_from kind n number at before file)) one
      ∙ ap (prefixed vlrs) (next_entry kind (count - (number + 1)) number at before file v size (none file (was.same ∙ e)) (is file (was.same ∙ e)) (long file (was.same ∙ e)))
      ∙ prefixed_more vlrs v (entries_from kind (count - (number + 1)) (number + 1) (at + (head_size kind + size)) (before + size) file);
  same = same ∙ was.same;
  calm = calm ∙ was.calm;
  in_front = in_front_more kind r0 r1 r2 was.in_front in_front;
  unread = λ none. absurd (omega (arith, none));
  room = room;
  so_many = length-append vlrs (v ∷ []) ∙ ap (λ n. n + 1) was.so_many;
  payloads = sum_by_push payload_size vlrs v ∙ ap (λ n. n + payload_size v) was.payloads ∙ ap (λ n. before + n) (sym own);
  each = All-append (IsOf kind) vlrs (v ∷ []) was.each (All-cons (IsOf kind) v [] held (All-nil (IsOf kind)));
}

pub reading_done : (kind : ListKind) (count start number at before : ℕ) (told now : Option (List ℕ)) (f0 f1 r0 r1 : ℕ) (vlrs : List Vlr) (file : List ℕ) → count ≤ number → told ≡ Some file
    → Reading kind count start number at before told now f0 f1 r0 r1 vlrs → entries_from kind count 0 start 0 file ≡ Ok vlrs
reading_done kind count start number at before told now f0 f1 r0 r1 vlrs file all e was =
    let none : count - number ≡ 0 = omega arith in
    was.so_far file e ∙ ap (λ n. prefixed vlrs (entries_from kind n number at before file)) none ∙ ap (prefixed vlrs) (no_entries kind number at before file) ∙ ap (λ l. Ok l) (append-nil vlrs)

pub reading_refused : (kind : ListKind) (count start number at before : ℕ) (told now : Option (List ℕ)) (f0 f1 r0 r1 : ℕ) (vlrs : List Vlr) (file : List ℕ) (err : VlrErr) → number < count → told ≡ Some file → IsFault (entry_fault kind number at before file) err
    → Reading kind count start number at before told now f0 f1 r0 r1 vlrs → IsRefusal (entries_from kind count 0 start 0 file) err
reading_refused kind count start number at before told now f0 f1 r0 r1 vlrs file (Fault f) more e is was =
    let one : count - number ≡ suc (count - (number + 1)) = omega arith in
    was.so_far file e ∙ ap (λ n. prefixed vlrs (entries_from kind n number at before file)) one ∙ ap (prefixed vlrs) (refused_entry kind (count - (number + 1)) number at before file f is)
reading_refused kind count start number at before told now f0 f1 r0 r1 vlrs file ReadFailed more e is was = tt
reading_refused kind count start number at before told now f0 f1 r0 r1 vlrs file Memory more e is was = tt

-- a list with few enough records
pub list_is : (kind : ListKind) (count start : ℕ) (file : List ℕ) (vlrs : List Vlr) → count ≤ 4096 → entries_from kind count 0 start 0 file ≡ Ok vlrs → entries kind count start file ≡ Ok vlrs
list_is kind count start file vlrs few is = let test : nat_lt 4096 count ≡ false = le-ltb 4096 count few in rw test is

pub list_refused : (kind : ListKind) (count start : ℕ) (file : List ℕ) (e : VlrErr) → count ≤ 4096 → IsRefusal (entries_from kind count 0 start 0 file) e → IsRefusal (entries kind count start file) e
list_refused kind count start file e few is = let test : nat_lt 4096 count ≡ false = le-ltb 4096 count few in rw test is

-- the list is within the limits
pub reading_held : (kind : ListKind) (count start number at before : ℕ) (told now : Option (List ℕ)) (f0 f1 r0 r1 : ℕ) (vlrs : List Vlr) → number ≤ count → count ≤ number → count ≤ 4096
    → Reading kind count start number at before told now f0 f1 r0 r1 vlrs → (length vlrs ≡ count) × AreHeld (IsOf kind) vlrs
reading_held kind count start number at before told now f0 f1 r0 r1 vlrs within all few was = (
  omega (arith, was.so_many),
  record { count = omega (arith, was.so_many); payloads = omega (arith, was.payloads, was.room); each = was.each },
)
