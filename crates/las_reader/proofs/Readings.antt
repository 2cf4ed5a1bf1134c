-- Points that are read piece by piece.
use Rattle.std.proofs.Common.{◌≡◌, ℕ, ◌+◌, ◌-◌, ◌*◌, ◌<◌, ◌≤◌, max, List, [], ◌++◌, length, drop, Option, Some, None, refl, ap, sym, ◌∙◌, arith}
use Rattle.std.proofs.Math.Nat.{mul-le-mul_left}
use Rattle.cloud_points.specs.declared.dims.Dim.{Dim}
use Rattle.cloud_points.specs.declared.extra.ExtraField.{ExtraField}
use Rattle.cloud_points.specs.declared.point.Point.{Point}
use Rattle.las_header.specs.declared.block.Header.{Header}
use Rattle.las_reader.specs.Files.{records_in}
use Rattle.las_reader.specs.Pieces.{HasRecords, HasPoints, whole_from}
use Rattle.las_reader.specs.Records.{point_with, points_from, out_from, out_or}
use Rattle.las_reader.proofs.Outs.{moved, no_out, out_behind, out_none, out_of_buffer, out_stays}
use Rattle.las_reader.proofs.Pieces.{length-points_from, points_none, points-append, points_of_buffer, same_front}

-- so many points are there, and the records of all of them are whole and have only values that points hold
pub record Reads (header : Header) (fields : List ExtraField) (given most : ℕ) (told now : Option (List ℕ)) (faults_before faults reached_before reached : ℕ) (points : List Point) (size : ℕ) : Type 0 where
  pub within : size ≤ most
  pub same : now ≡ told
  pub calm : faults ≡ faults_before
  pub got_to : reached ≤ max reached_before (header.points_at + header.record_length * (given + most))
  pub points_are : (file : List ℕ) → told ≡ Some file → points ≡ points_from (point_with header fields) header.record_length given size (drop header.points_at file)
  pub held : (file : List ℕ) → told ≡ Some file → out_from fields header.record_length given size (drop header.points_at file) ≡ None
  pub whole : (file : List ℕ) → told ≡ Some file → size ≤ records_in header file - given

pub reads_none : (header : Header) (fields : List ExtraField) (given most : ℕ) (told : Option (List ℕ)) (faults reached : ℕ) (points : List Point) (size : ℕ) → points ≡ [] → size ≡ 0 → Reads header fields given most told told faults faults reached reached points size
reads_none header fields given most told faults reached points size empty none = record {
  within = omega arith;
  same = refl;
  calm = refl;
  got_to = omega arith;
  points_are = λ file e. empty ∙ sym (points_none (point_with header fields) header.record_length given (drop header.points_at file)) ∙ ap (λ n. points_from (point_with header fields) header.record_length given n (drop header.points_at file)) (sym none);
  held = λ file e. ap (λ n. out_from fields header.record_length given n (drop header.points_at file)) none ∙ out_none fields header.record_length given (drop header.points_at file);
  whole = λ file e. omega arith;
}

-- the next records end within those that may be asked for
pub ends_within : (L given most size wanted : ℕ) → size + wanted ≤ most → L * (given + size + wanted) ≤ L * (given + most)
ends_within L given most size wanted h = let less : given + size + wanted ≤ given + most = omega arith in mul-le-mul_left L less

-- the points of the first c of n records behind those that were read
module _ (header : Header) (fields : List ExtraField) (given wanted size n c : ℕ) (before points : List Point) (buffer file : List ℕ) (few : c ≤ n) (has : HasRecords header file (given + size) wanted n buffer)
    (is : points ≡ before ++ points_from (point_with header fields) header.record_length 0 c buffer)
    (was : before ≡ points_from (point_with header fields) header.record_length given size (drop header.points_at file)) where
  longer : points ≡ points_from (point_with header fields) header.record_length given (size + c) (drop header.points_at file)
  longer =
      let read = point_with header fields in
      let L = header.record_length in
      let d = drop header.points_at file in
      let front = same_front L c n buffer (drop (header.points_at + L * (given + size)) file) few has.bytes in
      is ∙ ap (λ ps. ps ++ points_from read L 0 c buffer) was
      ∙ ap (λ ps. points_from read L given size d ++ ps) (points_of_buffer read header c (given + size) buffer file front)
      ∙ points-append read L size c given d

-- what is told of the next n records is told of all
outs_behind : (header : Header) (fields : List ExtraField) (given wanted size n : ℕ) (buffer file : List ℕ) → HasRecords header file (given + size) wanted n buffer
    → out_from fields header.record_length given size (drop header.points_at file) ≡ None
    → out_from fields header.record_length given (size + n) (drop header.points_at file) ≡ moved (given + size) (out_from fields header.record_length 0 n buffer)
outs_behind header fields given wanted size n buffer file has was =
    out_behind fields header.record_length size n given (drop header.points_at file) was ∙ out_of_buffer fields header n (given + size) buffer file has.bytes

-- all of the records that were asked for are read
pub reads_more : (header : Header) (fields : List ExtraField) (given most wanted n c : ℕ) (out : Option Dim) (told now now_after : Option (List ℕ)) (f0 f1 f2 r0 r1 r2 : ℕ) (before points : List Point) (size size_after : ℕ) (buffer : List ℕ)
    → size + wanted ≤ most → n ≤ wanted → c ≤ n → wanted ≤ c → now_after ≡ now → f2 ≡ f1 → r2 ≤ max r1 (header.points_at + header.record_length * (given + size + wanted))
    → ((file : List ℕ) → now ≡ Some file → HasRecords header file (given + size) wanted n buffer)
    → points ≡ before ++ points_from (point_with header fields) header.record_length 0 c buffer
    → out_from fields header.record_length 0 n buffer ≡ out_or c out None → size_after ≡ size + c
    → Reads header fields given most told now f0 f1 r0 r1 before size → Reads header fields given most told now_after f0 f2 r0 r2 points size_after
reads_more header fields given most wanted n c out told now now_after f0 f1 f2 r0 r1 r2 before points size size_after buffer room few some all same calm got records is outs sum was =
    let L = header.record_length in
    record {
      within = omega arith;
      same = same ∙ was.same;
      calm = calm ∙ was.calm;
      got_to = let within = ends_within L given most size wanted room in omega (arith, got, was.got_to, within);
      points_are = λ file e.
          longer header fields given wanted size n c before points buffer file some (records file (was.same ∙ e)) is (was.points_are file e)
          ∙ ap (λ k. points_from (point_with header fields) L given k (drop header.points_at file)) (sym sum);
      held = λ file e.
          let size_is : size_after ≡ size + n = omega arith in
          let none : out_from fields L 0 n buffer ≡ None = no_out fields L n c buffer out outs (omega arith) in
          ap (λ k. out_from fields L given k (drop header.points_at file)) size_is ∙ outs_behind header fields given wanted size n buffer file (records file (was.same ∙ e)) (was.held file e)
          ∙ ap (moved (given + size)) none;
      whole = λ file e. let has = records file (was.same ∙ e) in omega (arith, has.count, was.whole file e);
    }

-- fewer than were asked for are the last
pub reads_last : (header : Header) (fields : List ExtraField) (given most wanted n c : ℕ) (out : Option Dim) (told now : Option (List ℕ)) (f0 f1 r0 r1 : ℕ) (before points : List Point) (size : ℕ) (buffer : List ℕ)
    → size + wanted ≤ most → n ≤ wanted → c ≤ n → c < wanted
    → ((file : List ℕ) → now ≡ Some file → HasRecords header file (given + size) wanted n buffer)
    → points ≡ before ++ points_from (point_with header fields) header.record_length 0 c buffer
    → out_from fields header.record_length 0 n buffer ≡ out_or c out None → (out ≡ None → c ≡ n)
    → Reads header fields given most told now f0 f1 r0 r1 before size
    → (file : List ℕ) → told ≡ Some file → HasPoints header fields file given most points out
reads_last header fields given most wanted n c out told now f0 f1 r0 r1 before points size buffer room few some fewer records is outs all was file e = record {
  points_are = points_are ∙ ap (λ k. points_from (point_with header fields) L given k stored) (sym long);
  out_is = by out outs all ∙ ap (λ k. out_or (given + k) out None) (sym long);
  all = λ none. (let same = all none in omega (arith, long, same, has.count, was.whole file e));
}
  where
    L : ℕ
    L = header.record_length

    stored : List ℕ
    stored = drop header.points_at file

    has : HasRecords header file (given + size) wanted n buffer
    has = records file (was.same ∙ e)

    points_are : points ≡ points_from (point_with header fields) header.record_length given (size + c) (drop header.points_at file)
    points_are = longer header fields given wanted size n c before points buffer file some has is (was.points_are file e)

    long : length points ≡ size + c
    long = ap length points_are ∙ length-points_from (point_with header fields) header.record_length given (size + c) (drop header.points_at file)

    behind : out_from fields header.record_length given (size + n) (drop header.points_at file) ≡ moved (given + size) (out_from fields header.record_length 0 n buffer)
    behind = outs_behind header fields given wanted size n buffer file has (was.held file e)

    by : (o : Option Dim) → out_from fields header.record_length 0 n buffer ≡ out_or c o None → (o ≡ None → c ≡ n)
        → out_from fields header.record_length given (whole_from header file given most) (drop header.points_at file) ≡ out_or (given + (size + c)) o None
    by None f all =
        let same = all refl in
        let sum : whole_from header file given most ≡ size + n = omega (arith, same, has.count, was.whole file e) in
        ap (λ k. out_from fields header.record_length given k (drop header.points_at file)) sum ∙ behind ∙ ap (moved (given + size)) f
    by (Some dim) f all =
        let sum : whole_from header file given most ≡ size + n + (whole_from header file given most - (size + n)) = omega (arith, has.count, was.whole file e) in
        let place : given + size + c ≡ given + (size + c) = omega arith in
        ap (λ k. out_from fields header.record_length given k (drop header.points_at file)) sum
        ∙ out_stays fields header.record_length (size + n) (whole_from header file given most - (size + n)) given (drop header.points_at file) (given + size + c, dim) (behind ∙ ap (moved (given + size)) f)
        ∙ ap (λ k. Some (k, dim)) place

-- as many as were asked for in all
pub reads_all : (header : Header) (fields : List ExtraField) (given most : ℕ) (told now : Option (List ℕ)) (f0 f1 r0 r1 : ℕ) (points : List Point) (size : ℕ)
    → most ≤ size → Reads header fields given most told now f0 f1 r0 r1 points size
    → (file : List ℕ) → told ≡ Some file → HasPoints header fields file given most points None
reads_all header fields given most told now f0 f1 r0 r1 points size h was file e =
    let points_are = was.points_are file e in
    let long : length points ≡ size = ap length points_are ∙ length-points_from (point_with header fields) header.record_length given size (drop header.points_at file) in
    let whole : whole_from header file given most ≡ size = omega (arith, h, was.within, was.whole file e) in
    record {
      points_are = points_are ∙ ap (λ k. points_from (point_with header fields) header.record_length given k (drop header.points_at file)) (sym long);
      out_is = ap (λ k. out_from fields header.record_length given k (drop header.points_at file)) whole ∙ was.held file e;
      all = λ none. omega (arith, long, whole);
    }
