-- Lines of points that are put one after the other.
use Rattle.std.proofs.Common.{◌≡◌, ℕ, ◌+◌, ◌*◌, ◌-◌, ◌<◌, ◌≤◌, min, List, ◌++◌, length, take, drop, slice_range, get_or, Option, Result, Ok, Err, OnErr, refl, sym, ap, subst, ◌∙◌, arith, length-drop, append_assoc}
use Rattle.std.proofs.lemmas.List.{take-append-le, take_min, take_all, drop_all, take-append-drop}
use Rattle.std.proofs.lemmas.Grind.{flat_map-append}
use Rattle.std.proofs.Math.Seq.{take-append-add, take-add}
use Rattle.std.specs.List.{flat_map}
use Rattle.cloud_points.specs.declared.point.Point.{Point}
use Rattle.file_devices.specs.Content.{Appends, AppendsPart}
use Rattle.text_writer.specs.declared.form.TextForm.{TextForm}
use Rattle.text_writer.specs.TextOutput.{text_line}
use Rattle.file_devices.proofs.ContentLemmas.{appends_more}
use Rattle.text_writer.proofs.Lists.{more_in_front}

-- the lines from a point on are written
pub record Backward (form : TextForm) (points : List Point) (count at : ℕ) (old buffer : List ℕ) : Type 0 where
  pub few : count ≤ length points
  pub same : length buffer ≡ length old
  pub room : count * (29 * length form.columns + 1) ≤ at
  pub within : at ≤ length old
  pub written : drop at buffer ≡ flat_map (text_line form) (drop count points)

pub none_written : (form : TextForm) (points : List Point) (buffer : List ℕ) → length points * (29 * length form.columns + 1) ≤ length buffer → Backward form points (length points) (length buffer) buffer buffer
none_written form points buffer room = record {
  few = omega arith;
  same = refl;
  room = room;
  within = omega arith;
  written = drop_all (length buffer) buffer (omega arith) ∙ sym (ap (flat_map (text_line form)) (drop_all (length points) points (omega arith)));
}

-- one line less leaves the room of one line more
pub less_room : (count size at : ℕ) → 0 < count → count * size ≤ at → (count - 1) * size + size ≤ at
less_room count size at some room =
    let more : count - 1 + 1 ≡ count = omega arith in
    let product : (count - 1 + 1) * size ≤ at = subst (λ n. n * size ≤ at) (sym more) room in
    grind (arith, product)

pub line_written : (form : TextForm) (points : List Point) (count at start : ℕ) (d : Point) (old buffer more : List ℕ) → 0 < count → start ≤ at → at ≤ start + (29 * length form.columns + 1) → length more ≡ length buffer
    → drop start more ≡ text_line form (get_or points (count - 1) d) ++ drop at buffer → Backward form points count at old buffer → Backward form points (count - 1) start old more
line_written form points count at start d old buffer more some order short size is was =
    let before : count - 1 < length points = omega (arith, was.few) in
    let next : count - 1 + 1 ≡ count = omega arith in
    record {
      few = omega (arith, was.few);
      same = size ∙ was.same;
      room = let less = less_room count (29 * length form.columns + 1) at some was.room in omega (arith, less);
      within = omega (arith, was.within);
      written = is ∙ ap (λ ys. text_line form (get_or points (count - 1) d) ++ ys) (was.written ∙ ap (λ n. flat_map (text_line form) (drop n points)) (sym next))
          ∙ sym (more_in_front (text_line form) points (count - 1) d before);
    }

-- the lines of the first points were put
pub record Putting (form : TextForm) (points : List Point) (count size_before size : ℕ) (sink_before sink : Option (List ℕ)) (faults_before faults : ℕ) : Type 0 where
  pub few : count ≤ length points
  pub put : Appends sink_before (flat_map (text_line form) (take count points)) sink
  pub calm : faults ≡ faults_before
  pub room : size ≡ size_before

-- the lines of the first points, and of those up to a place
up_to : (form : TextForm) (points : List Point) (from to : ℕ) → from ≤ to → flat_map (text_line form) (take to points) ≡ flat_map (text_line form) (take from points) ++ flat_map (text_line form) (slice_range points from to)
up_to form points from to order =
    let sum : to ≡ from + (to - from) = omega arith in
    ap (flat_map (text_line form)) (ap (λ n. take n points) sum ∙ take-add from (to - from) points)
    ∙ flat_map-append (text_line form) (take from points) (slice_range points from to)

pub putting_more : (form : TextForm) (points : List Point) (from to size_before size : ℕ) (first middle last : Option (List ℕ)) (faults0 faults1 faults2 : ℕ) → from ≤ to → to ≤ length points → size ≡ size_before
    → Appends middle (flat_map (text_line form) (slice_range points from to)) last → faults2 ≡ faults1
    → Appends first (flat_map (text_line form) (take from points)) middle → faults1 ≡ faults0 → Putting form points to size_before size first last faults0 faults2
putting_more form points from to size_before size first middle last faults0 faults1 faults2 order within room more calm was before = record {
  few = within;
  put = rw (up_to form points from to order) (appends_more first middle last (flat_map (text_line form) (take from points)) (flat_map (text_line form) (slice_range points from to)) was more);
  calm = calm ∙ before;
  room = room;
}

-- a part of the last piece is a part of the whole
part_of : (xs ys zs : List ℕ) (k : ℕ) → take (length xs + min k (length ys)) (xs ++ (ys ++ zs)) ≡ xs ++ take k ys
part_of xs ys zs k = take-append-add xs (ys ++ zs) (min k (length ys)) ∙ ap (λ z. xs ++ z) (take-append-le (min k (length ys)) ys zs (omega arith) ∙ take_min k ys)

-- all lines: those up to a place, those up to another, and those behind
all_lines : (form : TextForm) (points : List Point) (from to : ℕ) → from ≤ to
    → flat_map (text_line form) points ≡ flat_map (text_line form) (take from points) ++ (flat_map (text_line form) (slice_range points from to) ++ flat_map (text_line form) (drop to points))
all_lines form points from to order =
    ap (flat_map (text_line form)) (sym (take-append-drop to points))
    ∙ flat_map-append (text_line form) (take to points) (drop to points)
    ∙ ap (λ ys. ys ++ flat_map (text_line form) (drop to points)) (up_to form points from to order)
    ∙ append_assoc (flat_map (text_line form) (take from points)) (flat_map (text_line form) (slice_range points from to)) (flat_map (text_line form) (drop to points))

-- lines of which a part was put
pub putting_part : (form : TextForm) (points : List Point) (from to : ℕ) (first middle last : Option (List ℕ)) → from ≤ to → AppendsPart middle (flat_map (text_line form) (slice_range points from to)) last
    → Appends first (flat_map (text_line form) (take from points)) middle → AppendsPart first (flat_map (text_line form) points) last
putting_part form points from to first middle last order part was =
    let before = flat_map (text_line form) (take from points) in
    let lines = flat_map (text_line form) (slice_range points from to) in
    let k = length before + min part.0 (length lines) in
    let is : take k (flat_map (text_line form) points) ≡ before ++ take part.0 lines =
    ap (take k) (all_lines form points from to order) ∙ part_of before lines (flat_map (text_line form) (drop to points)) part.0 in
    (k, subst (λ xs. Appends first xs last) (sym is) (appends_more first middle last before (take part.0 lines) was part.1))

-- what holds, holds of an error
pub on_err_is : {T E P : Type 0} (r : Result T E) → P → OnErr r P
on_err_is (Ok x) p = tt
on_err_is (Err e) p = p

-- the whole rest of a buffer
pub piece_is : (buffer text : List ℕ) (start : ℕ) → drop start buffer ≡ text → take (length buffer - start) (drop start buffer) ≡ text
piece_is buffer text start written = take_all (length buffer - start) (drop start buffer) (omega (arith, length-drop start buffer)) ∙ written
