-- The values of a point are put into the fields of its record, one behind another.
use Rattle.std.proofs.Common.{◌≡◌, ℕ, ◌+◌, ◌*◌, ◌<◌, ◌≤◌, Bool, true, false, ℤ, List, [], ◌∷◌, ◌++◌, length, take, drop, get_or, Some, None, Result, Ok, Err, if◌then◌else◌, refl, sym, ap, subst, ◌∙◌, arith, append_assoc, append-nil, length-append}
use Rattle.std.proofs.lemmas.List.{drop-append-le, drop_more, drop-take, length-take-le, take-append-drop, take-append-le}
use Rattle.std.proofs.lemmas.List.Sums.{sum_by-cons}
use Rattle.std.proofs.lemmas.Option.{same_Some}
use Rattle.std.proofs.Math.ListN.{drop_of_length-le}
use Rattle.std.proofs.Math.Seq.{drop-append_seam, take-append_seam}
use Rattle.las_header.specs.Steps.{◌>>=◌}
use Rattle.cloud_points.specs.ExtraFields.{kind_size}
use Rattle.cloud_points.specs.Points.{get}
use Rattle.cloud_points.specs.declared.dims.Dim.{Dim}
use Rattle.cloud_points.specs.declared.dims.Dim.TheVariants.{Extra}
use Rattle.cloud_points.specs.declared.extra.ExtraKind.{ExtraKind}
use Rattle.cloud_points.specs.declared.extra.ExtraKind.TheVariants.{U8, I8, U16, I16, U32, I32, U64, I64}
use Rattle.cloud_points.specs.declared.extra.ExtraField.{ExtraField}
use Rattle.cloud_points.specs.declared.point.Point.{Point}
use Rattle.extra_bytes.specs.Values.{is_raw, raw_bytes, raw_of, with_piece, extra_written}
use Rattle.extra_bytes.specs.Fields.{AreLaid, field_bytes, fields_bytes, fields_size}
use Rattle.extra_bytes.proofs.Sized.{StandFrom, laid_stand}

raw_size : (kind : ExtraKind) (n : ℤ) → length (raw_bytes kind n) ≡ kind_size kind
raw_size U8 n = refl
raw_size I8 n = refl
raw_size U16 n = refl
raw_size I16 n = refl
raw_size U32 n = refl
raw_size I32 n = refl
raw_size U64 n = refl
raw_size I64 n = refl

-- ---- a piece that was put

module _ (at : ℕ) (piece bytes : List ℕ) (room : at ≤ length bytes) where
  front_size : length (take at bytes) ≡ at
  front_size = length-take-le at bytes room

  abbrev beyond : List ℕ
  beyond = drop (at + length piece) bytes

  front_stays : take at (with_piece at piece bytes) ≡ take at bytes
  front_stays =
      ap (take at) (append_assoc (take at bytes) piece beyond)
      ∙ ap (λ n. take n (take at bytes ++ (piece ++ beyond))) (sym front_size)
      ∙ take-append_seam (take at bytes) (piece ++ beyond)

  both_size : length (take at bytes ++ piece) ≡ at + length piece
  both_size = length-append (take at bytes) piece ∙ ap (λ n. n + length piece) front_size

  piece_behind : drop at (take (at + length piece) (with_piece at piece bytes)) ≡ piece
  piece_behind =
      ap (drop at) (ap (λ n. take n (with_piece at piece bytes)) (sym both_size) ∙ take-append_seam (take at bytes ++ piece) beyond)
      ∙ ap (λ n. drop n (take at bytes ++ piece)) (sym front_size) ∙ drop-append_seam (take at bytes) piece

-- ---- one field

module _ (f : ExtraField) (p : Point) (at : ℕ) (old new : List ℕ) where
  abbrev value : ℤ
  value = get p (Extra f.place)

  abbrev raw : List ℕ
  raw = raw_bytes f.kind (raw_of f value)

  pub record IsPut : Type 0 where
    pub bytes : field_bytes f p ≡ Ok (drop at (take (at + kind_size f.kind) new))
    pub before : take at new ≡ take at old

  put_there : f.at ≡ at → at ≤ length old → with_piece f.at raw old ≡ new → field_bytes f p ≡ Ok raw → IsPut
  put_there stands room e is =
      let there : with_piece at raw old ≡ new = ap (λ n. with_piece n raw old) (sym stands) ∙ e in
      let size : at + length raw ≡ at + kind_size f.kind = ap (λ n. at + n) (raw_size f.kind (raw_of f value)) in
      record {
        bytes = is ∙ ap Ok (sym (piece_behind at raw old room) ∙ ap (λ n. drop at (take n (with_piece at raw old))) size ∙ ap (λ l. drop at (take (at + kind_size f.kind) l)) there);
        before = ap (take at) (sym there) ∙ front_stays at raw old room;
      }

  pub field_put : f.at ≡ at → at ≤ length old → extra_written f value old ≡ Some new → IsPut
  unfolding extra_written
  field_put stands room e = by (is_raw f.kind (raw_of f value)) refl e
    where
      by : (is : Bool) → is_raw f.kind (raw_of f value) ≡ is → (if is then Some (with_piece f.at raw old) else None) ≡ Some new → IsPut
      by true is e = put_there stands room (same_Some (with_piece f.at raw old) new e) (ap (λ b. if b then Ok raw else Err (Extra f.place)) is)
      by false is e = absurd (cc)

pub field_refused : (f : ExtraField) (p : Point) (old : List ℕ) → extra_written f (get p (Extra f.place)) old ≡ None → field_bytes f p ≡ Err (Extra f.place)
unfolding extra_written
field_refused f p old e = by (is_raw f.kind (raw_of f (get p (Extra f.place)))) e
  where
    by : (is : Bool) → (if is then Some (with_piece f.at (raw_bytes f.kind (raw_of f (get p (Extra f.place)))) old) else None) ≡ None
        → (if is then Ok (raw_bytes f.kind (raw_of f (get p (Extra f.place)))) else Err (Extra f.place)) ≡ Err (Extra f.place)
    by true e = absurd (cc)
    by false e = refl

-- ---- one after another

field_long : (f : ExtraField) (p : Point) (bytes : List ℕ) → field_bytes f p ≡ Ok bytes → length bytes ≡ kind_size f.kind
field_long f p bytes e = by (is_raw f.kind (raw_of f (get p (Extra f.place)))) e
  where
    raw : List ℕ
    raw = raw_bytes f.kind (raw_of f (get p (Extra f.place)))

    by : (is : Bool) → (if is then Ok raw else Err (Extra f.place)) ≡ Ok bytes → length bytes ≡ kind_size f.kind
    by true e = let same : raw ≡ bytes = cc in ap length (sym same) ∙ raw_size f.kind (raw_of f (get p (Extra f.place)))
    by false e = absurd (cc)

-- the bytes of fields are as many as these take
pub fields_long : (fields : List ExtraField) (p : Point) (bytes : List ℕ) → fields_bytes fields p ≡ Ok bytes → length bytes ≡ fields_size fields
fields_long [] p bytes e = let same : [] ≡ bytes = cc in ap length (sym same)
fields_long (f ∷ fields) p bytes e = by (field_bytes f p) (fields_bytes fields p) (field_long f p) (fields_long fields p) e
  where
    by : (a b : Result (List ℕ) Dim) → ((l : List ℕ) → a ≡ Ok l → length l ≡ kind_size f.kind) → ((l : List ℕ) → b ≡ Ok l → length l ≡ fields_size fields)
        → (a >>= (λ first. b >>= (λ others. Ok (first ++ others)))) ≡ Ok bytes → length bytes ≡ fields_size (f ∷ fields)
    by (Err d) b here there e = absurd (cc)
    by (Ok first) (Err d) here there e = absurd (cc)
    by (Ok first) (Ok others) here there e =
        let same : first ++ others ≡ bytes = cc in
        ap length (sym same) ∙ omega (arith, length-append first others, here first refl, there others refl, sum_by-cons (λ (f : ExtraField). kind_size f.kind) f fields)

abbrev behind : List ℕ → Result (List ℕ) Dim → Result (List ℕ) Dim
behind done others = others >>= (λ l. Ok (done ++ l))

-- the first k of these fields were put from a byte on; the next one begins at the end
pub record Laid (fields : List ExtraField) (p : Point) (start k end : ℕ) (old new : List ℕ) : Type 0 where
  pub stand : StandFrom end (drop k fields)
  pub size : end + fields_size (drop k fields) ≡ start + fields_size fields
  pub from : start ≤ end
  pub bytes : fields_bytes fields p ≡ behind (drop start (take end new)) (fields_bytes (drop k fields) p)
  pub before : take start new ≡ take start old
  pub same : length new ≡ length old

nothing_between : (start : ℕ) (bytes : List ℕ) → drop start (take start bytes) ≡ []
nothing_between start bytes = let same : start ≡ start + 0 = omega arith in ap (λ n. drop start (take n bytes)) same ∙ drop-take start 0 bytes

behind_none : (others : Result (List ℕ) Dim) → others ≡ behind [] others
behind_none (Ok l) = refl
behind_none (Err d) = refl

pub laid_none : (fields : List ExtraField) (p : Point) (start : ℕ) (bytes : List ℕ) → AreLaid start fields → Laid fields p start 0 start bytes bytes
laid_none fields p start bytes laid = record {
  stand = laid_stand start fields laid;
  size = refl;
  from = omega arith;
  bytes = behind_none (fields_bytes fields p) ∙ ap (λ l. behind l (fields_bytes fields p)) (sym (nothing_between start bytes));
  before = refl;
  same = refl;
}

both_behind : (done first : List ℕ) (others : Result (List ℕ) Dim) → behind done (behind first others) ≡ behind (done ++ first) others
both_behind done first (Ok l) = ap Ok (sym (append_assoc done first l))
both_behind done first (Err d) = refl

-- what stands from a byte on to a later end
longer : (start end next : ℕ) (bytes : List ℕ) → start ≤ end → end ≤ next → next ≤ length bytes → drop start (take end bytes) ++ drop end (take next bytes) ≡ drop start (take next bytes)
longer start end next bytes h k room =
    let all : length (take next bytes) ≡ next = length-take-le next bytes room in
    let front : take end (take next bytes) ≡ take end bytes = sym (take-append-le end (take next bytes) (drop next bytes) (omega (arith, all, k))) ∙ ap (take end) (take-append-drop next bytes) in
    let size : length (take end bytes) ≡ end = length-take-le end bytes (omega arith) in
    sym (drop-append-le start (take end bytes) (drop end (take next bytes)) (omega (arith, size, h)))
    ∙ ap (λ l. drop start (l ++ drop end (take next bytes))) (sym front) ∙ ap (drop start) (take-append-drop end (take next bytes))

shorter : (start end : ℕ) (a b : List ℕ) → start ≤ end → end ≤ length a → end ≤ length b → take end a ≡ take end b → take start a ≡ take start b
shorter start end a b h ka kb e = cut a ka ∙ ap (take start) e ∙ sym (cut b kb)
  where
    cut : (l : List ℕ) → end ≤ length l → take start l ≡ take start (take end l)
    cut l k =
        let size : length (take end l) ≡ end = length-take-le end l k in
        ap (take start) (sym (take-append-drop end l)) ∙ take-append-le start (take end l) (drop end l) (omega (arith, size, h))

module _ (fields : List ExtraField) (p : Point) (start k end : ℕ) (f : ExtraField) (first old : List ℕ) (within : k < length fields) (is : get_or fields k f ≡ f)
    (fit : start + fields_size fields ≤ length first) (s : Laid fields p start k end first old) where
  abbrev others : List ExtraField
  others = drop (k + 1) fields

  next_fields : drop k fields ≡ f ∷ others
  next_fields = drop_more fields k f within ∙ ap (λ x. x ∷ others) is

  next_stands : StandFrom end (f ∷ others)
  next_stands = subst (StandFrom end) next_fields s.stand

  next_size : end + (kind_size f.kind + fields_size others) ≡ start + fields_size fields
  next_size = ap (λ n. end + n) (sym (sum_by-cons (λ (f : ExtraField). kind_size f.kind) f others)) ∙ ap (λ l. end + fields_size l) (sym next_fields) ∙ s.size

  pub has_room : end + kind_size f.kind ≤ length old
  has_room = omega (arith, next_size, fit, s.same)

  next_bytes : fields_bytes fields p ≡ behind (drop start (take end old)) (field_bytes f p >>= (λ first. behind first (fields_bytes others p)))
  next_bytes = s.bytes ∙ ap (λ l. behind (drop start (take end old)) (fields_bytes l p)) next_fields

  pub refused_there : (d : Dim) → field_bytes f p ≡ Err d → fields_bytes fields p ≡ Err d
  refused_there d e = next_bytes ∙ ap (λ r. behind (drop start (take end old)) (r >>= (λ first. behind first (fields_bytes others p)))) e

  pub front_is : (new : List ℕ) → take end new ≡ take end old → length new ≡ length old → take start new ≡ take start first
  front_is new before same =
      let there = has_room in
      shorter start end new old s.from (omega (arith, there, same)) (omega (arith, there)) before ∙ s.before

  pub laid_more : (next : ℕ) (new : List ℕ) → next ≡ end + kind_size f.kind → field_bytes f p ≡ Ok (drop end (take next new)) → take end new ≡ take end old → length new ≡ length old
      → Laid fields p start (k + 1) next first new
  laid_more next new ends put before same =
      let there = has_room in
      let from = s.from in
      let done : drop start (take end old) ++ drop end (take next new) ≡ drop start (take next new) =
      ap (λ l. drop start l ++ drop end (take next new)) (sym before) ∙ longer start end next new from (omega (arith, ends)) (omega (arith, ends, there, same)) in
      record {
        stand = subst (λ n. StandFrom n others) (sym ends) next_stands.2;
        size = omega (arith, ends, next_size);
        from = omega (arith, ends, from);
        bytes = next_bytes ∙ ap (λ r. behind (drop start (take end old)) (r >>= (λ first. behind first (fields_bytes others p)))) put
            ∙ both_behind (drop start (take end old)) (drop end (take next new)) (fields_bytes others p) ∙ ap (λ l. behind l (fields_bytes others p)) done;
        before = front_is new before same;
        same = same ∙ s.same;
      }

-- all of them were put
pub record AllLaid (fields : List ExtraField) (p : Point) (start end : ℕ) (new : List ℕ) : Type 0 where
  pub bytes : fields_bytes fields p ≡ Ok (drop start (take end new))
  pub end_is : end ≡ start + fields_size fields

pub laid_all : (fields : List ExtraField) (p : Point) (start k end : ℕ) (old new : List ℕ) → length fields ≤ k → Laid fields p start k end old new → AllLaid fields p start end new
laid_all fields p start k end old new h s =
    let none : drop k fields ≡ [] = drop_of_length-le fields h in
    let size : end + 0 ≡ start + fields_size fields = ap (λ l. end + fields_size l) (sym none) ∙ s.size in
    record {
      bytes = s.bytes ∙ ap (λ l. behind (drop start (take end new)) (fields_bytes l p)) none ∙ ap Ok (append-nil (drop start (take end new)));
      end_is = omega (arith, size);
    }

-- the first k fields were counted
pub record Counted (fields : List ExtraField) (k size : ℕ) : Type 0 where
  pub is : size + fields_size (drop k fields) ≡ fields_size fields
  pub small : size ≤ 8 * k
