-- What a reader's call reads beyond what it gives.
use Rattle.std.proofs.Common.{◌≡◌, ℕ, zero, suc, ◌+◌, ◌-◌, ◌*◌, ◌<◌, ◌≤◌, min, max, nat_lt, Bool, true, false, cond, if◌then◌else◌, inl, inr, List, [], ◌∷◌, ◌++◌, map, length, take, drop, Option, Some, None, option_map, refl, sym, ap, subst, ◌∙◌, arith, length-take, length-drop}
use Rattle.std.proofs.Math.Nat.{mul-le-mul_left, mul-le-mul_right, one-mul}
use Rattle.std.proofs.lemmas.Option.{none-some, same_Some}
use Rattle.std.proofs.lemmas.Bool.{ltb-true, lt-ltb, le-ltb, le-leb, lt-leb}
use Rattle.std.proofs.lemmas.Bool.Decides.{leb_tells}
use Rattle.cloud_points.specs.declared.extra.ExtraField.{ExtraField}
use Rattle.cloud_points.specs.declared.point.Point.{Point}
use Rattle.cloud_points.specs.declared.faults.Make.{Make}
use Rattle.cloud_points.specs.declared.faults.Make.TheVariants.{Points, EndView, End}
use Rattle.cloud_points.specs.declared.faults.PointFault.{PointFault}
use Rattle.cloud_points.specs.Extents.{Extent}
use Rattle.cloud_points.specs.Marks.{At}
use Rattle.las_header.specs.declared.block.Header.{Header}
use Rattle.las_header.specs.Counts.{points_in}
use Rattle.las_reader.specs.Files.{Las, las_with}
use Rattle.las_reader.specs.Reading.{IsStep, Moves, step_behind, asked_to, gives, read_failed}
use Rattle.las_reader.specs.declared.reader.LasReader.{LasReader}
use Rattle.las_reader.specs.declared.reader.Progress.{Progress}
use Rattle.las_reader.specs.declared.reader.Progress.TheVariants.{Records, ViewEnded, Ended}
use Rattle.network_theory.specs.Due.{total}
use Rattle.network_theory.specs.Net.{count_points}
use Rattle.stage_kinds.specs.declared.stage_work.StageWork.TheVariants.{Reader}
use Rattle.stage_kinds.specs.Leads.{begins_below, records_below, read_at, beyond_in, beyond_at, ahead_of, extent_in, extent_of}
use Rattle.stage_kinds.specs.Reads.{end_marks, rest_marks, told_at, told_of}
use Rattle.stage_kinds.proofs.Telling.{GivesStep}

-- ---- how many records begin below a place

one_most : (b : Bool) → cond b 1 0 ≤ 1
one_most true = omega arith
one_most false = omega arith

one_up : (b c : Bool) → (b ≡ true → c ≡ true) → cond b 1 0 ≤ cond c 1 0
one_up true c h = rw (h refl) (omega arith)
one_up false c h = omega arith

total_most : (f : ℕ → ℕ) (n : ℕ) → ((k : ℕ) → f k ≤ 1) → total f n ≤ n
total_most f zero one = omega arith
total_most f (suc n) one = let t = total_most f n one in let o = one n in omega (arith, t, o)

total_up : (f g : ℕ → ℕ) (n : ℕ) → ((k : ℕ) → f k ≤ g k) → total f n ≤ total g n
total_up f g zero up = omega arith
total_up f g (suc n) up = let t = total_up f g n up in let o = up n in omega (arith, t, o)

total_more : (f : ℕ → ℕ) (m n : ℕ) → m ≤ n → total f m ≤ total f n
total_more f m zero few = subst (λ k. total f k ≤ 0) {x = 0} {y = m} (omega (arith, few)) (omega arith)
total_more f m (suc n) few = elim (leb_tells m n) [
  | inl p ↦ (let t = total_more f m n p.1 in omega (arith, t))
  | inr p ↦ (let same : suc n ≡ m = (let q = p.1 in omega (arith, few, q)) in subst (λ k. total f k ≤ total f (suc n)) same (omega arith))
]

-- none from a place on
total_to : (f : ℕ → ℕ) (m n : ℕ) → ((k : ℕ) → f k ≤ 1) → ((k : ℕ) → m ≤ k → f k ≡ 0) → total f n ≤ m
total_to f m zero one none = omega arith
total_to f m (suc n) one none = elim (leb_tells m n) [
  | inl p ↦ (let t = total_to f m n one none in let o = none n p.1 in omega (arith, t, o))
  | inr p ↦ (let t = total_most f n one in let o = one n in let q = p.1 in omega (arith, t, o, q))
]

-- all of the first ones
total_all : (f : ℕ → ℕ) (m n : ℕ) → ((k : ℕ) → k < m → f k ≡ 1) → m ≤ n → m ≤ total f n
total_all f m n one few = let l = total_more f m n few in let a = all m (λ k l. one k l) in omega (arith, l, a)
  where
    all : (j : ℕ) → ((k : ℕ) → k < j → f k ≡ 1) → total f j ≡ j
    all zero h = refl
    all (suc j) h = let a = all j (λ k l. h k (omega (arith, l))) in let b = h j (omega arith) in omega (arith, a, b)

read-up : (header : Header) (a b : ℕ) → a ≤ b → read_at header a ≤ read_at header b
read-up header a b up =
    let more = total_up (begins_below header a) (begins_below header b) a (λ j.
    let place = header.points_at + header.record_length * j in
    one_up (nat_lt place a) (nat_lt place b) (λ e. let below : place < a = ltb-true place a e in lt-ltb place b (omega (arith, below, up)))) in
    let longer = total_more (begins_below header b) a b up in
    omega (arith, more, longer)

pub below-to : (header : Header) (m reached many : ℕ) → reached ≤ header.points_at + header.record_length * m → records_below header reached many ≤ m
below-to header m reached many most = total_to (begins_below header reached) m many (λ j. one_most (nat_lt (header.points_at + header.record_length * j) reached)) (λ j from.
    let place = header.points_at + header.record_length * j in
    let further = mul-le-mul_left header.record_length from in
    rw (le-ltb place reached (omega (arith, most, further))) refl)

read-max : (header : Header) (m old new : ℕ) → new ≤ max old (header.points_at + header.record_length * m) → read_at header new ≤ max (read_at header old) m
read-max header m old new most = elim (leb_tells new old) [
  | inl p ↦ (let u = read-up header new old p.1 in omega (arith, u))
  | inr p ↦ (let t = below-to header m new new (let q = p.1 in omega (arith, most, q)) in omega (arith, t))
]

-- ---- what a call reads

-- a call that gives so many points, and asks for no record past so many, where no more were given than its file has
spared : (header : Header) (old new given k chunk : ℕ) → k ≤ chunk → new ≤ max old (header.points_at + header.record_length * min (given + chunk) (points_in header))
    → (read_at header new - (given + k)) + k ≤ max chunk (read_at header old - given)
spared header old new given k chunk few asked = let l = read-max header (min (given + chunk) (points_in header)) old new asked in omega (arith, l, few)

module _ (header : Header) (fields : List ExtraField) (file : List ℕ) (old new chunk : ℕ) where
  abbrev las : Las
  las = las_with header fields file

  abbrev whole : ℕ
  whole = length las.points

  abbrev Spares : Progress → Progress → List Point → Type 0
  Spares before after points = beyond_in las (points_in header) (read_at header new) after + length points ≤ max chunk (beyond_in las (points_in header) (read_at header old) before)

  -- of no more points than there are
  gives-within : (given : ℕ) (m : Make) (points : List Point) (after : Progress) → given ≤ whole → Moves (points_in header) chunk (Records given) m points after
      → (m ≡ Points → given + length points ≤ whole) → new ≤ max old (asked_to header chunk (Records given)) → Spares (Records given) after points
  gives-within given Points points after within moves inside asked =
      let s = spared header old new given (length points) chunk moves.1 asked in
      rw (moves.3, le-leb given whole within, le-leb (given + length points) whole (inside refl)) s
  gives-within given EndView points after within moves inside asked =
      let s = spared header old new given 0 chunk (omega arith) asked in
      rw (moves.0, moves.1, le-leb given whole within) (omega (arith, s, within))
  gives-within given (End cut fault) points after within moves inside asked =
      let s = spared header old new given 0 chunk (omega arith) asked in
      rw (moves.0, moves.1, le-leb given whole within) (omega (arith, s, within))

  -- past them each point that is given is one less that may be
  gives-past : (given : ℕ) (m : Make) (points : List Point) (after : Progress) → whole < given → Moves (points_in header) chunk (Records given) m points after
      → new ≤ max old (asked_to header chunk (Records given)) → Spares (Records given) after points
  gives-past given Points points after past moves asked =
      let r = read-max header (min (given + chunk) (points_in header)) old new asked in
      let counted : given + length points ≤ points_in header = moves.2 in
      let further : whole < given + length points = omega (arith, past) in
      rw (moves.3, lt-leb given whole past, lt-leb (given + length points) whole further) (omega (arith, r, counted))
  gives-past given EndView points after past moves asked =
      let r = read-max header (min (given + chunk) (points_in header)) old new asked in
      rw (moves.0, moves.1, lt-leb given whole past) (omega (arith, r))
  gives-past given (End cut fault) points after past moves asked =
      let r = read-max header (min (given + chunk) (points_in header)) old new asked in
      rw (moves.0, moves.1, lt-leb given whole past) (omega (arith, r))

  -- what a step of points gives lies within
  step-within : (given : ℕ) (m : Make) (points : List Point) (after : Progress) (left : Bool) (fault : Option PointFault) → nat_lt given whole ≡ left
      → IsStep (if left then gives given (take chunk (drop given las.points)) else step_behind fault) m points after → m ≡ Points → given + length points ≤ whole
  step-within given m points after true fault l h e =
      let more = ltb-true given whole l in
      let size : length (take chunk (drop given las.points)) ≡ min chunk (whole - given) = length-take chunk (drop given las.points) ∙ ap (min chunk) (length-drop given las.points) in
      rw h.points_are (omega (arith, size, more))
  step-within given m points after false (Some f) l h e = let no : Points ≡ (step_behind (Some f)).made = sym e ∙ h.made_is in cc
  step-within given m points after false None l h e = let no : Points ≡ (step_behind None).made = sym e ∙ h.made_is in cc

  gives-spare : (before after : Progress) (m : Make) (points : List Point) → Moves (points_in header) chunk before m points after
      → GivesStep (Some file) header fields chunk before m points after → new ≤ max old (asked_to header chunk before) → Spares before after points
  gives-spare (Records given) after m points moves step asked = elim (leb_tells given whole) [
    | inl p ↦ gives-within given m points after p.1 moves (λ e. step-within given m points after _ _ refl (step file refl (λ f. (let g : Points ≡ read_failed = sym e ∙ f in cc)) p.1) e) asked
    | inr p ↦ gives-past given m points after p.1 moves asked
  ]
  gives-spare ViewEnded after m points moves step asked = let l = read-up header new old (omega (arith, asked)) in rw (moves.0, moves.1) (omega (arith, l))
  gives-spare (Ended cut) after m points moves step asked = let l = read-up header new old (omega (arith, asked)) in rw (moves.0, moves.1) (omega (arith, l))

-- what a call reads beyond what it gives is at most a chunk, or what was read before
pub reads-ahead : (bytes0 bytes1 : Option (List ℕ)) (header0 header1 : Header) (fields0 fields1 : List ExtraField) (old new chunk : ℕ) (before after : Progress) (m : Make) (points : List Point)
    → bytes1 ≡ bytes0 → header1 ≡ header0 → fields1 ≡ fields0 → GivesStep bytes0 header0 fields0 chunk before m points after
    → Moves (points_in header0) chunk before m points after → new ≤ max old (asked_to header0 chunk before)
    → beyond_at bytes1 header1 fields1 new after + length points ≤ max chunk (beyond_at bytes0 header0 fields0 old before)
reads-ahead None bytes1 header0 header1 fields0 fields1 old new chunk before after m points same same_header same_fields step moves asked =
    let few : length points ≤ chunk = most_given (points_in header0) chunk before m points after moves in
    rw same (omega (arith, few))
  where
    most_given : (count chunk : ℕ) (before : Progress) (m : Make) (points : List Point) (after : Progress) → Moves count chunk before m points after → length points ≤ chunk
    most_given count chunk (Records given) Points points after moves = moves.1
    most_given count chunk (Records given) EndView points after moves = rw moves.0 (omega arith)
    most_given count chunk (Records given) (End cut fault) points after moves = rw moves.0 (omega arith)
    most_given count chunk ViewEnded m points after moves = rw moves.0 (omega arith)
    most_given count chunk (Ended cut) m points after moves = rw moves.0 (omega arith)
reads-ahead (Some file) bytes1 header0 header1 fields0 fields1 old new chunk before after m points same same_header same_fields step moves asked =
    rw (same, same_header, same_fields) (gives-spare header0 fields0 file old new chunk before after m points moves step asked)

-- ---- what a reader read of what it tells

count-marks : (ps : List Point) (fault : Option PointFault) → count_points (map At ps ++ end_marks fault) ≡ length ps
count-marks [] None = refl
count-marks [] (Some f) = refl
count-marks (p ∷ ps) fault = let c = count-marks ps fault in omega (arith, c)

told-marks : (las : Las) (count read : ℕ) (progress : Progress) → read + count_points (rest_marks las progress) ≤ length las.points + beyond_in las count read progress
told-marks las count read (Records given) =
    let c = count-marks (drop given las.points) las.fault in
    let d = length-drop given las.points in
    elim (leb_tells given (length las.points)) [
      | inl p ↦ (let q = p.1 in rw p.0 (omega (arith, c, d, q)))
      | inr p ↦ (let q = p.1 in rw p.0 (omega (arith, c, d, q)))
    ]
told-marks las count read ViewEnded = omega arith
told-marks las count read (Ended cut) = omega arith

-- behind its start it read no more records than those that it gave of what it told, and those beyond
pub reads-most : {S : Type 0} (K P Q : Type 0) (bytes : S → Option (List ℕ)) (reached : S → ℕ) (r0 r1 : LasReader S) (file : List ℕ) → bytes r0.source ≡ Some file → r0.progress ≡ Records 0
    → extent_of {K = K} {P = P} {Q = Q} bytes (Reader r1) ≡ extent_of {K = K} {P = P} {Q = Q} bytes (Reader r0)
    → read_at r1.header (reached r1.source) + count_points (told_of {K = K} {P = P} {Q = Q} bytes (Reader r1)) ≤ count_points (told_of {K = K} {P = P} {Q = Q} bytes (Reader r0)) + ahead_of {K = K} {P = P} {Q = Q} bytes reached (Reader r1)
reads-most {S} K P Q bytes reached r0 r1 file told start same = by_bytes (bytes r1.source) same'
  where
    same' : option_map (extent_in r1.header r1.fields) (bytes r1.source) ≡ Some (extent_in r0.header r0.fields file)
    same' = same ∙ ap (option_map (extent_in r0.header r0.fields)) told

    first : count_points (told_of {K = K} {P = P} {Q = Q} bytes (Reader r0)) ≡ length (las_with r0.header r0.fields file).points
    first = ap (λ o. count_points (told_at o r0.header r0.fields r0.progress)) told ∙ ap (λ p. count_points (rest_marks (las_with r0.header r0.fields file) p)) start ∙ count-marks (las_with r0.header r0.fields file).points (las_with r0.header r0.fields file).fault

    by_bytes : (o : Option (List ℕ)) → option_map (extent_in r1.header r1.fields) o ≡ Some (extent_in r0.header r0.fields file)
        → read_at r1.header (reached r1.source) + count_points (told_at o r1.header r1.fields r1.progress) ≤ count_points (told_of {K = K} {P = P} {Q = Q} bytes (Reader r0)) + beyond_at o r1.header r1.fields (reached r1.source) r1.progress
    by_bytes None e = absurd (none-some (extent_in r0.header r0.fields file) e)
    by_bytes (Some now) e =
        let many : length (las_with r1.header r1.fields now).points ≡ length (las_with r0.header r0.fields file).points = ap (λ (x : Extent). x.points) (same_Some (extent_in r1.header r1.fields now) (extent_in r0.header r0.fields file) e) in
        let m = told-marks (las_with r1.header r1.fields now) (points_in r1.header) (read_at r1.header (reached r1.source)) r1.progress in
        omega (arith, first, many, m)

-- records that begin below a place reach up to it
pub reaches : (header : Header) (reached : ℕ) → 0 < header.record_length → reached ≤ header.points_at + header.record_length * read_at header reached
reaches header reached some = elim (leb_tells reached (header.points_at + header.record_length * read_at header reached)) [
  | inl p ↦ p.1
  | inr p ↦ (
      let all = total_all (begins_below header reached) (read_at header reached + 1) reached (λ j l. rw (lt-ltb (header.points_at + header.record_length * j) reached
      (let q = p.1 in let further : header.record_length * j ≤ header.record_length * read_at header reached = mul-le-mul_left header.record_length (omega (arith, l)) in omega (arith, q, further))) refl)
      (let q = p.1 in let wide : read_at header reached ≤ header.record_length * read_at header reached = subst (λ n. n ≤ header.record_length * read_at header reached) (one-mul (read_at header reached)) (mul-le-mul_right (read_at header reached) some) in omega (arith, q, wide)) in
      absurd (omega (arith, all)))
]

-- no more of those that the header counts
pub lead-read : (header : Header) (reached : ℕ) → 0 < header.record_length → records_below header reached (points_in header) ≤ read_at header reached
lead-read header reached some = below-to header (read_at header reached) reached (points_in header) (reaches header reached some)

-- at its first record, with nothing of the points read, it read none beyond
pub begins-near : {S : Type 0} (K P Q : Type 0) (bytes : S → Option (List ℕ)) (reached : S → ℕ) (r : LasReader S) (file : List ℕ) → bytes r.source ≡ Some file → r.progress ≡ Records 0
    → reached r.source ≤ r.header.points_at → ahead_of {K = K} {P = P} {Q = Q} bytes reached (Reader r) ≡ 0
begins-near K P Q bytes reached r file told start none =
    let las = las_with r.header r.fields file in
    let read = read_at r.header (reached r.source) in
    let few : read ≤ 0 = below-to r.header 0 (reached r.source) (reached r.source) (omega (arith, none)) in
    ap (λ o. beyond_at o r.header r.fields (reached r.source) r.progress) told ∙ ap (beyond_in las (points_in r.header) read) start
    ∙ ap (λ b. if b then read - 0 else max read (points_in r.header) + (points_in r.header - 0)) (le-leb 0 (length las.points) (omega arith)) ∙ omega (arith, few)
