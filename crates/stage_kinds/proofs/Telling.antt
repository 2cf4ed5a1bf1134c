-- What a reader's call gives of what the reader tells.
use Rattle.std.proofs.Common.{◌≡◌, ℕ, ◌+◌, ◌-◌, ◌<◌, min, nat_lt, Bool, true, false, if◌then◌else◌, List, [], ◌∷◌, ◌++◌, length, map, take, drop, Option, Some, None, refl, sym, ap, ◌∙◌, arith, append_assoc, append-nil, drop-drop, length-take, length-drop}
use Rattle.std.proofs.lemmas.Bool.{ltb-true, ltb-false, leb-true, le-leb}
use Rattle.std.proofs.lemmas.List.{map-append, take-append-drop, take_min, drop_all}
use Rattle.cloud_points.specs.declared.extra.ExtraField.{ExtraField}
use Rattle.cloud_points.specs.declared.point.Point.{Point}
use Rattle.cloud_points.specs.declared.faults.Make.{Make}
use Rattle.cloud_points.specs.declared.faults.PointFault.{PointFault}
use Rattle.cloud_points.specs.Events.{is_device, first_fault}
use Rattle.cloud_points.specs.Makes.{made, made_fault, gives_end}
use Rattle.cloud_points.specs.Marks.{Mark, At, View_end, End, marks, flow_marks}
use Rattle.las_header.specs.declared.block.Header.{Header}
use Rattle.las_reader.specs.Files.{Las, las_with}
use Rattle.las_reader.specs.Reading.{IsStep, IsWithin, step_of, step_behind, gives, read_failed}
use Rattle.las_reader.specs.declared.reader.Progress.{Progress}
use Rattle.las_reader.specs.declared.reader.Progress.TheVariants.{Records, ViewEnded, Ended}
use Rattle.las_reader.specs.declared.reader.LasReader.{LasReader}
use Rattle.stage_kinds.specs.declared.stage_work.StageWork.{StageWork}
use Rattle.stage_kinds.specs.declared.stage_work.StageWork.TheVariants.{Reader}
use Rattle.las_reader.specs.Flows.{flow_with, las_flow}
use Rattle.stage_kinds.specs.Reads.{cut_fault, end_marks, fault_with, rest_marks, rest_fault, is_within, tells_at, told_at, told_fault_at, tells_of, told_of, told_fault_of}

-- a call gave this step of the file whose bytes its source tells, where it gave no more points before than the file has
abbrev pub GivesStep : Option (List ℕ) → Header → List ExtraField → ℕ → Progress → Make → List Point → Progress → Type 0
GivesStep bytes header fields chunk before m points after = (file : List ℕ) → bytes ≡ Some file → (m ≡ read_failed → ⊥)
    → IsWithin (las_with header fields file).points before → IsStep (step_of (las_with header fields file).points (las_with header fields file).fault before chunk) m points after

-- a call gave the next part of what was told
pub record GivesTold (bytes0 bytes1 : Option (List ℕ)) (header0 header1 : Header) (fields0 fields1 : List ExtraField) (before after : Progress) (m : Make) (points : List Point) : Type 0 where
  pub part : told_at bytes0 header0 fields0 before ≡ marks (made m points) ++ told_at bytes1 header1 fields1 after
  pub fault : told_fault_at bytes0 header0 fields0 before ≡ first_fault (made_fault m) (told_fault_at bytes1 header1 fields1 after)

-- the same of what a file holds
record GivesRest (las : Las) (before after : Progress) (m : Make) (points : List Point) : Type 0 where
  pub part : rest_marks las before ≡ marks (made m points) ++ rest_marks las after
  pub fault : rest_fault las before ≡ first_fault (made_fault m) (rest_fault las after)

-- the points of a step, and those behind them
split_points : (points next : List Point) (given chunk : ℕ) (rest : List (Mark Point)) → next ≡ take chunk (drop given points)
    → map At (drop given points) ++ rest ≡ map At next ++ (map At (drop (given + length next) points) ++ rest)
split_points points next given chunk rest is =
    let ds = drop given points in
    let size : length next ≡ min chunk (length ds) = ap length is ∙ length-take chunk ds in
    let front : take (length next) ds ≡ next = ap (λ n. take n ds) size ∙ take_min chunk ds ∙ sym is in
    let back : drop (length next) ds ≡ drop (given + length next) points = drop-drop (length next) given points in
    ap (λ xs. map At xs ++ rest) (sym (take-append-drop (length next) ds) ∙ ap (λ xs. xs ++ drop (length next) ds) front ∙ ap (λ xs. next ++ xs) back)
    ∙ ap (λ ms. ms ++ rest) (map-append At next (drop (given + length next) points))
    ∙ append_assoc (map At next) (map At (drop (given + length next) points)) rest

-- the steps from a place among the records, by the test whether points are left, and by the fault behind them
step_gives : (las : Las) (given chunk : ℕ) (m : Make) (points : List Point) (after : Progress) (left : Bool) (fault : Option PointFault) → nat_lt given (length las.points) ≡ left → las.fault ≡ fault
    → IsStep (if left then gives given (take chunk (drop given las.points)) else step_behind fault) m points after → GivesRest las (Records given) after m points
step_gives las given chunk m points after true fault l f h = record {
  part = rw (h.made_is, h.points_are, h.progress_is) (split_points las.points (take chunk (drop given las.points)) given chunk (end_marks las.fault) refl);
  fault = rw (h.made_is, h.progress_is) refl;
}
step_gives las given chunk m points after false (Some x) l f h = record {
  part = rw (h.made_is, h.progress_is) (ap (λ xs. map At xs ++ end_marks las.fault) (drop_all given las.points (ltb-false given (length las.points) l)) ∙ ap end_marks f);
  fault = rw h.made_is (ap fault_with f);
}
step_gives las given chunk m points after false None l f h = record {
  part = rw (h.made_is, h.progress_is) (ap (λ xs. map At xs ++ end_marks las.fault) (drop_all given las.points (ltb-false given (length las.points) l)) ∙ ap end_marks f);
  fault = rw (h.made_is, h.progress_is) (ap fault_with f);
}

step_gives_rest : (las : Las) (chunk : ℕ) (before after : Progress) (m : Make) (points : List Point) → is_within las before ≡ true → IsStep (step_of las.points las.fault before chunk) m points after
    → GivesRest las before after m points
step_gives_rest las chunk (Records given) after m points within h = step_gives las given chunk m points after _ _ refl refl h
step_gives_rest las chunk ViewEnded after m points within h = record { part = rw (h.made_is, h.progress_is) refl; fault = rw (h.made_is, h.progress_is) refl }
step_gives_rest las chunk (Ended cut) after m points within h = cc

-- a step that isn't an end leaves the reader within its file
step_stays : (las : Las) (given chunk : ℕ) (m : Make) (points : List Point) (after : Progress) (left : Bool) (fault : Option PointFault) → nat_lt given (length las.points) ≡ left
    → IsStep (if left then gives given (take chunk (drop given las.points)) else step_behind fault) m points after → gives_end m ≡ false → is_within las after ≡ true
step_stays las given chunk m points after true fault l h goes_on =
    let all = las.points in
    let more : given < length all = ltb-true given (length all) l in
    let next : length (take chunk (drop given all)) ≡ min chunk (length all - given) = length-take chunk (drop given all) ∙ ap (min chunk) (length-drop given all) in
    rw h.progress_is (le-leb (given + length (take chunk (drop given all))) (length all) (omega (arith, next, more)))
step_stays las given chunk m points after false (Some x) l h goes_on = let b : true ≡ false = ap gives_end (sym h.made_is) ∙ goes_on in cc
step_stays las given chunk m points after false None l h goes_on = rw h.progress_is refl

step_within : (las : Las) (chunk : ℕ) (before after : Progress) (m : Make) (points : List Point) → is_within las before ≡ true → IsStep (step_of las.points las.fault before chunk) m points after
    → gives_end m ≡ false → is_within las after ≡ true
step_within las chunk (Records given) after m points within h goes_on = step_stays las given chunk m points after _ _ refl h goes_on
step_within las chunk ViewEnded after m points within h goes_on = let b : true ≡ false = ap gives_end (sym h.made_is) ∙ goes_on in cc
step_within las chunk (Ended cut) after m points within h goes_on = cc

-- no more points were given than there are
within_is : (las : Las) (before : Progress) → is_within las before ≡ true → IsWithin las.points before
within_is las (Records given) within = leb-true given (length las.points) within
within_is las ViewEnded within = tt
within_is las (Ended cut) within = tt

-- a call of a reader that tells gives a step of its file, unless a read failed
step_told : (header : Header) (fields : List ExtraField) (file : List ℕ) (chunk : ℕ) (before after : Progress) (m : Make) (points : List Point)
    → GivesStep (Some file) header fields chunk before m points after → is_within (las_with header fields file) before ≡ true → is_device (made_fault m) ≡ false
    → IsStep (step_of (las_with header fields file).points (las_with header fields file).fault before chunk) m points after
step_told header fields file chunk before after m points step tells calm =
    step file refl (λ e. (let b : true ≡ false = ap (λ x. is_device (made_fault x)) (sym e) ∙ calm in cc)) (within_is (las_with header fields file) before tells)

-- it gives the next part
pub gives_told : (bytes0 bytes1 : Option (List ℕ)) (header0 header1 : Header) (fields0 fields1 : List ExtraField) (chunk : ℕ) (before after : Progress) (m : Make) (points : List Point)
    → bytes1 ≡ bytes0 → header1 ≡ header0 → fields1 ≡ fields0 → GivesStep bytes0 header0 fields0 chunk before m points after
    → tells_at bytes0 header0 fields0 before ≡ true → is_device (made_fault m) ≡ false → GivesTold bytes0 bytes1 header0 header1 fields0 fields1 before after m points
gives_told None bytes1 header0 header1 fields0 fields1 chunk before after m points same same_header same_fields step tells calm = cc
gives_told (Some file) bytes1 header0 header1 fields0 fields1 chunk before after m points same same_header same_fields step tells calm =
    let given = step_gives_rest (las_with header0 fields0 file) chunk before after m points tells (step_told header0 fields0 file chunk before after m points step tells calm) in
    rw (same, same_header, same_fields) (record { part = given.part; fault = given.fault })

-- where it gives no end the reader still tells
pub still_tells : (bytes0 bytes1 : Option (List ℕ)) (header0 header1 : Header) (fields0 fields1 : List ExtraField) (chunk : ℕ) (before after : Progress) (m : Make) (points : List Point)
    → bytes1 ≡ bytes0 → header1 ≡ header0 → fields1 ≡ fields0 → GivesStep bytes0 header0 fields0 chunk before m points after
    → tells_at bytes0 header0 fields0 before ≡ true → is_device (made_fault m) ≡ false → gives_end m ≡ false → tells_at bytes1 header1 fields1 after ≡ true
still_tells None bytes1 header0 header1 fields0 fields1 chunk before after m points same same_header same_fields step tells calm goes_on = cc
still_tells (Some file) bytes1 header0 header1 fields0 fields1 chunk before after m points same same_header same_fields step tells calm goes_on =
    rw (same, same_header, same_fields) (step_within (las_with header0 fields0 file) chunk before after m points tells (step_told header0 fields0 file chunk before after m points step tells calm) goes_on)

-- a reader at its start tells its whole file
pub record TellsFile {S K P Q : Type 0} (bytes : S → Option (List ℕ)) (k : StageWork S K P Q) (las : Las) : Type 0 where
  pub tells : tells_of bytes k ≡ true
  pub told : told_of bytes k ≡ flow_marks (las_flow las)
  pub fault : told_fault_of bytes k ≡ cut_fault las

start_marks : (points : List Point) (fault : Option PointFault) → map At points ++ end_marks fault ≡ flow_marks (flow_with points fault)
start_marks points None = sym (ap (λ ms. ms ++ End false ∷ []) (append-nil (map At points ++ View_end ∷ [])) ∙ append_assoc (map At points) (View_end ∷ []) (End false ∷ []))
start_marks points (Some k) = refl

pub reader_starts : {S K P Q : Type 0} (bytes : S → Option (List ℕ)) (r : LasReader S) (file : List ℕ) → r.progress ≡ Records 0 → bytes r.source ≡ Some file → TellsFile {K = K} {P = P} {Q = Q} bytes (Reader r) (las_with r.header r.fields file)
reader_starts bytes r file start told =
    let las = las_with r.header r.fields file in
    record {
      tells = ap (λ b. tells_at b r.header r.fields r.progress) told ∙ ap (is_within las) start ∙ le-leb 0 (length las.points) (omega arith);
      told = ap (λ b. told_at b r.header r.fields r.progress) told ∙ ap (rest_marks las) start ∙ start_marks las.points las.fault;
      fault = ap (λ b. told_fault_at b r.header r.fields r.progress) told ∙ ap (rest_fault las) start;
    }
