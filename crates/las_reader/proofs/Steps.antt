-- The steps of a reader are those of its file.
use Rattle.std.proofs.Common.{◌≡◌, ◌≢◌, ℕ, ◌+◌, ◌-◌, ◌<◌, ◌≤◌, min, eqb, List, [], length, take, drop, Option, Some, None, true, false, nat_lt, refl, ap, sym, ◌∙◌, arith, inl, inr}
use Rattle.std.proofs.lemmas.Bool.{cond-true, cond-false, eq-eqb, ne_eqb, lt-ltb, le-ltb}
use Rattle.cloud_points.specs.declared.dims.Dim.{Dim}
use Rattle.cloud_points.specs.declared.extra.ExtraField.{ExtraField}
use Rattle.cloud_points.specs.declared.point.Point.{Point}
use Rattle.cloud_points.specs.declared.faults.Make.{Make}
use Rattle.cloud_points.specs.declared.faults.Make.TheVariants.{Points, EndView, End}
use Rattle.cloud_points.specs.declared.faults.StageFault.TheVariants as stage
use Rattle.cloud_points.specs.declared.faults.PointFault.{PointFault}
use Rattle.cloud_points.specs.declared.faults.PointFault.TheVariants.{Cut, ValueOutOfRange}
use Rattle.las_header.specs.declared.block.Header.{Header}
use Rattle.las_header.specs.Counts.{points_in}
use Rattle.las_reader.specs.Files.{las_with, whole_records, out_in, sound_records, fault_of, cut_of}
use Rattle.las_reader.specs.Pieces.{HasPoints, whole_from}
use Rattle.las_reader.specs.Records.{point_with, points_from, out_from, out_or}
use Rattle.las_reader.specs.Reading.{IsStep, Moves, step_of, step_behind, fault_at}
use Rattle.las_reader.specs.declared.reader.Progress.{Progress}
use Rattle.las_reader.specs.declared.reader.Progress.TheVariants.{Records, ViewEnded, Ended}
use Rattle.las_reader.proofs.Outs.{none_before, or_else, out-append, out_behind, out_within}
use Rattle.las_reader.proofs.Pieces.{length-points_from, take-points_from, drop-points_from}

-- ---- the sound records of a file, and what is told of those from a place on

module _ (header : Header) (fields : List ExtraField) (file : List ℕ) where
  abbrev stored : List ℕ
  stored = drop header.points_at file

  abbrev size : ℕ
  size = header.record_length

  abbrev whole : ℕ
  whole = whole_records header file

  abbrev pub sound : ℕ
  sound = sound_records whole (out_in header fields file)

  pub points_long : length (las_with header fields file).points ≡ sound
  points_long = length-points_from (point_with header fields) size 0 sound stored

  sound_few : sound ≤ whole
  sound_few = by (out_in header fields file) refl
    where
      by : (x : Option (ℕ × Dim)) → out_in header fields file ≡ x → sound_records whole x ≤ whole
      by None e = omega arith
      by (Some o) e = let w = out_within fields size 0 whole stored o e in omega (arith, w.1)

  module _ (given : ℕ) (within : given ≤ sound) where
    held_before : out_from fields size 0 given stored ≡ None
    held_before =
        let few = sound_few in
        let split : whole ≡ given + (whole - given) = omega (arith, few, within) in
        none_before fields size 0 given (whole - given) stored (λ o e.
        let there : sound ≡ o.0 = ap (sound_records whole) (ap (λ n. out_from fields size 0 n stored) split ∙ e) in
        omega (arith, there, within))

    out_rest : (n : ℕ) → given + n ≤ whole → out_in header fields file ≡ or_else (out_from fields size given n stored) (out_from fields size (given + n) (whole - (given + n)) stored)
    out_rest n h =
        let split : whole ≡ given + (n + (whole - (given + n))) = omega arith in
        let from : 0 + given ≡ given = omega arith in
        ap (λ m. out_from fields size 0 m stored) split
        ∙ out_behind fields size given (n + (whole - (given + n))) 0 stored held_before
        ∙ ap (λ k. out_from fields size k (n + (whole - (given + n))) stored) from
        ∙ out-append fields size n (whole - (given + n)) given stored

    -- the next points of a file, and its fault where there are none
    pub record Next (chunk : ℕ) (points : List Point) (out : Option Dim) : Type 0 where
      pub size : length points ≡ min chunk (sound - given)
      pub fault : length points ≡ 0 → (las_with header fields file).fault ≡ Some (fault_at given out)

    cut_there : whole ≡ given → given < points_in header → cut_of (points_in header) whole ≡ Some (Cut given)
    cut_there is more = cond-false (eqb whole (points_in header)) None (Some (Cut whole)) (ne_eqb whole (points_in header) (λ e. omega (arith, is, more, e))) ∙ ap (λ k. Some (Cut k)) is

    pub next_is : (most chunk : ℕ) (points : List Point) (out : Option Dim) → given < points_in header → 1 ≤ chunk → most ≡ min (points_in header - given) chunk
        → HasPoints header fields file given most points out → Next chunk points out
    next_is most chunk points out more some asked has = by out has.out_is has.all
      where
        n : ℕ
        n = whole_from header file given most

        n_is : n ≡ min chunk (whole - given)
        n_is = omega (arith, asked)

        room : given + n ≤ whole
        room = let few = sound_few in omega (arith, n_is, few, within)

        behind : (x : Option (ℕ × Dim)) → out_from fields size (given + n) (whole - (given + n)) stored ≡ x → out_in header fields file ≡ x → length points ≡ n → Next chunk points None
        behind None rest e all =
            let is : sound ≡ whole = ap (sound_records whole) e in
            record {
              size = omega (arith, n_is, is, all);
              fault = λ none.
                  let there : whole ≡ given = omega (arith, n_is, all, none, is, within, some) in
                  ap (fault_of (points_in header) whole) e ∙ cut_there there more;
            }
        behind (Some o) rest e all =
            let is : sound ≡ o.0 = ap (sound_records whole) e in
            let w = out_within fields size (given + n) (whole - (given + n)) stored o rest in
            let r = room in
            record {
              size = omega (arith, n_is, is, all, w.0, w.1, r);
              fault = λ none. absurd (omega (arith, n_is, all, none, w.0, w.1, some, r));
            }

        by : (x : Option Dim) → out_from fields size given n stored ≡ out_or (given + length points) x None → (x ≡ None → length points ≡ n) → Next chunk points x
        by None e all = behind (out_from fields size (given + n) (whole - (given + n)) stored) refl (out_rest n room ∙ ap (λ x. or_else x (out_from fields size (given + n) (whole - (given + n)) stored)) e) (all refl)
        by (Some dim) e all =
            let there = out_rest n room ∙ ap (λ x. or_else x (out_from fields size (given + n) (whole - (given + n)) stored)) e in
            let is : sound ≡ given + length points = ap (sound_records whole) there in
            let w = out_within fields size given n stored (given + length points, dim) e in
            record {
              size = omega (arith, n_is, is, w.1);
              fault = λ none. (let place : given + length points ≡ given = omega (arith, none) in ap (fault_of (points_in header) whole) there ∙ ap (λ k. Some (ValueOutOfRange k dim)) place);
            }

    -- behind as many points as the header counts there is no fault
    pub record AtEnd : Type 0 where
      pub fault : (las_with header fields file).fault ≡ None
      pub past : sound ≤ given

    pub at_end : points_in header ≤ given → AtEnd
    at_end all = by (out_in header fields file) refl
      where
        by : (x : Option (ℕ × Dim)) → out_in header fields file ≡ x → AtEnd
        by None e =
            let is : sound ≡ whole = ap (sound_records whole) e in
            let same : whole ≡ points_in header = omega (arith, is, within, all) in
            record {
              fault = ap (fault_of (points_in header) whole) e ∙ cond-true (eqb whole (points_in header)) None (Some (Cut whole)) (eq-eqb whole (points_in header) same);
              past = omega (arith, is, same, all);
            }
        by (Some o) e =
            let is : sound ≡ o.0 = ap (sound_records whole) e in
            let w = out_within fields size 0 whole stored o e in
            absurd (omega (arith, is, w.1, within, all))

-- ---- the steps

-- what is left behind so many points, and of that the first
chunk_of : (read : List ℕ → Point) (each : ℕ) (chunk given n whole : ℕ) (d : List ℕ) → n ≡ min chunk (whole - given) → take chunk (drop given (points_from read each 0 whole d)) ≡ points_from read each given n d
chunk_of read each chunk given n whole d size =
    let from : 0 + given ≡ given = omega arith in
    ap (take chunk) (drop-points_from read each given 0 whole d) ∙ take-points_from read each chunk (0 + given) (whole - given) d
    ∙ ap (λ i. points_from read each i (min chunk (whole - given)) d) from ∙ ap (λ i. points_from read each given i d) (sym size)

pub gives_points : (read : List ℕ → Point) (each : ℕ) (fault : Option PointFault) (chunk given n whole : ℕ) (d : List ℕ) (points : List Point) → given < whole → n ≡ min chunk (whole - given) → points ≡ points_from read each given n d
    → IsStep (step_of (points_from read each 0 whole d) fault (Records given) chunk) Points points (Records (given + n))
gives_points read each fault chunk given n whole d points more size is =
    let left : given < length (points_from read each 0 whole d) = omega (arith, length-points_from read each 0 whole d) in
    let test : nat_lt given (length (points_from read each 0 whole d)) ≡ true = lt-ltb given (length (points_from read each 0 whole d)) left in
    let chunk_is : take chunk (drop given (points_from read each 0 whole d)) ≡ points_from read each given n d = chunk_of read each chunk given n whole d size in
    let long : n ≡ length (take chunk (drop given (points_from read each 0 whole d))) = sym (length-points_from read each given n d) ∙ ap length (sym chunk_is) in
    rw test (record {
      made_is = refl;
      points_are = is ∙ sym chunk_is;
      progress_is = ap (λ i. Records (given + i)) long;
    })

-- behind all points
behind_is : (all : List Point) (fault : Option PointFault) (given chunk : ℕ) → length all ≤ given → step_of all fault (Records given) chunk ≡ step_behind fault
behind_is all fault given chunk past = let test : nat_lt given (length all) ≡ false = le-ltb given (length all) past in rw test refl

pub gives_fault : (all : List Point) (fault : Option PointFault) (f : PointFault) (chunk given : ℕ) (made : Make) (points : List Point) (progress : Progress) → length all ≤ given → fault ≡ Some f
    → made ≡ End true (Some (stage.Point f)) → points ≡ [] → progress ≡ Ended true → IsStep (step_of all fault (Records given) chunk) made points progress
gives_fault all fault f chunk given made points progress past is made_is empty ended =
    rw (behind_is all fault given chunk past ∙ ap step_behind is) (record { made_is = made_is; points_are = empty; progress_is = ended })

pub gives_view_end : (all : List Point) (fault : Option PointFault) (chunk given : ℕ) (points : List Point) → length all ≤ given → fault ≡ None → points ≡ []
    → IsStep (step_of all fault (Records given) chunk) EndView points ViewEnded
gives_view_end all fault chunk given points past is empty =
    rw (behind_is all fault given chunk past ∙ ap step_behind is) (record { made_is = refl; points_are = empty; progress_is = refl })

-- at least one point of those that were asked for
pub moved : (count chunk given most : ℕ) (points : List Point) → length points ≢ 0 → length points ≤ most → most ≤ chunk → given + most ≤ count → Moves count chunk (Records given) Points points (Records (given + length points))
moved count chunk given most points some within small counted = (omega arith, omega arith, omega arith, refl)

-- an end in place of a record
pub ended_at : (count chunk given : ℕ) (out : Option Dim) (points : List Point) (progress : Progress) → points ≡ [] → progress ≡ Ended true
    → Moves count chunk (Records given) (End true (Some (stage.Point (fault_at given out)))) points progress
ended_at count chunk given None points progress empty ended = (empty, ended, refl, inl refl)
ended_at count chunk given (Some dim) points progress empty ended = (empty, ended, refl, inr (inr (dim, refl)))
