-- The values of fields are added to the points of a piece, one after another.
use Rattle.std.proofs.Common.{◌≡◌, ℕ, ◌+◌, ◌-◌, ◌*◌, ◌<◌, ◌≤◌, List, [], ◌∷◌, ◌++◌, length, length-set, take, drop, get_or, set, slice_range, Some, None, All, refl, subst, ap, sym, ◌∙◌, arith, append_assoc, append-nil, drop-drop}
use Rattle.std.proofs.lemmas.List.{get_or-take, get_or-append-add, length-take-le, take_more_set, drop-set-lt, take-set-le, get_or-drop}
use Rattle.cloud_points.specs.ExtraFields.{kind_size}
use Rattle.cloud_points.specs.declared.dims.Dim.{Dim}
use Rattle.cloud_points.specs.declared.extra.ExtraField.{ExtraField}
use Rattle.cloud_points.specs.declared.point.Point.{Point}
use Rattle.extra_bytes.specs.Fields.{with_extra, first_out}
use Rattle.extra_bytes.specs.Values.{LiesIn}
use Rattle.las_header.specs.declared.block.Header.{Header}
use Rattle.las_reader.specs.Records.{point_of, point_with, record_at, points_from, out_from, out_or}
use Rattle.las_reader.proofs.Outs.{out_more, out_none, out_stays}
use Rattle.las_reader.proofs.Pieces.{get_or-points_from, points_more, points_none, record_is, record_long}

-- the bytes of record k of a piece
abbrev pub bytes_of : Header → List ℕ → ℕ → List ℕ
bytes_of header records k = slice_range records (header.record_length * k) (header.record_length * k + header.record_length)

-- fields that lie in each record lie in this one
pub lie_in : (header : Header) (fields : List ExtraField) (records : List ℕ) (k count : ℕ) → k < count → header.record_length * count ≤ length records
    → All (λ (f : ExtraField). f.at + kind_size f.kind ≤ header.record_length) fields → All (λ (f : ExtraField). LiesIn f (bytes_of header records k)) fields
lie_in header fields records k count h room within =
    let L = header.record_length in
    let long : length (bytes_of header records k) ≡ L = ap length (record_is L k records) ∙ ap (λ i. length (record_at L i records)) {x = 0 + k} {y = k} (omega arith) ∙ record_long L k count records h room in
    subst (λ n. All (λ (f : ExtraField). f.at + kind_size f.kind ≤ n) fields) (sym long) within

-- the values of the first k records were added to the points that stand from a place on; those behind them are as they were
pub record Added (header : Header) (fields : List ExtraField) (records : List ℕ) (initial : List Point) (at k : ℕ) (points : List Point) : Type 0 where
  pub points_are : take (at + k) points ≡ take at initial ++ points_from (point_with header fields) header.record_length 0 k records
  pub rest : drop (at + k) points ≡ drop (at + k) initial
  pub held : out_from fields header.record_length 0 k records ≡ None
  pub same : length points ≡ length initial

pub added_none : (header : Header) (fields : List ExtraField) (records : List ℕ) (at : ℕ) (points : List Point) → Added header fields records points at 0 points
added_none header fields records at points =
    let stay : at + 0 ≡ at = omega arith in
    record {
      points_are = ap (λ n. take n points) stay ∙ sym (ap (λ l. take at points ++ l) (points_none (point_with header fields) header.record_length 0 records) ∙ append-nil (take at points));
      rest = refl;
      held = out_none fields header.record_length 0 records;
      same = refl;
    }

module _ (header : Header) (fields : List ExtraField) (records : List ℕ) (initial : List Point) (at k count : ℕ) (points : List Point) (h : k < count) (room : at + count ≤ length initial)
    (decoded : take (at + count) initial ≡ take at initial ++ points_from (point_of header) header.record_length 0 count records) (s : Added header fields records initial at k points) where
  inside : at + k < length points
  inside = omega (arith, s.same)

  -- the next point is that of its record
  point_there : (p : Point) → get_or points (at + k) p ≡ point_of header (bytes_of header records k)
  point_there p =
      let L = header.record_length in
      let front : length (take at initial) ≡ at = length-take-le at initial (omega arith) in
      let first : at + k ≡ at + k + 0 = omega arith in
      ap (λ n. get_or points n p) first ∙ sym (get_or-drop (at + k) points 0 p) ∙ ap (λ l. get_or l 0 p) s.rest ∙ get_or-drop (at + k) initial 0 p ∙ ap (λ n. get_or initial n p) (sym first)
      ∙ sym (get_or-take (at + count) initial (at + k) p (omega arith)) ∙ ap (λ l. get_or l (at + k) p) decoded
      ∙ ap (λ n. get_or (take at initial ++ points_from (point_of header) L 0 count records) (n + k) p) (sym front)
      ∙ get_or-append-add (take at initial) (points_from (point_of header) L 0 count records) k p
      ∙ get_or-points_from (point_of header) L k 0 count records p h ∙ ap (point_of header) (sym (record_is L k records))

  pub added_more : (p new : Point) → first_out fields (bytes_of header records k) ≡ None → new ≡ with_extra fields (bytes_of header records k) (get_or points (at + k) p)
      → Added header fields records initial at (k + 1) (set points (at + k) new)
  unfolding point_with
  added_more p new out put =
      let L = header.record_length in
      let next : at + (k + 1) ≡ at + k + 1 = omega arith in
      let value : new ≡ point_with header fields (record_at L (0 + k) records) =
      put ∙ ap (with_extra fields (bytes_of header records k)) (point_there p) ∙ ap (λ b. with_extra fields b (point_of header b)) (record_is L k records) in
      record {
        points_are = ap (λ n. take n (set points (at + k) new)) next ∙ take_more_set points (at + k) new inside
            ∙ ap (λ l. l ++ new ∷ []) s.points_are
            ∙ append_assoc (take at initial) (points_from (point_with header fields) L 0 k records) (new ∷ [])
            ∙ ap (λ q. take at initial ++ (points_from (point_with header fields) L 0 k records ++ q ∷ [])) value
            ∙ ap (λ l. take at initial ++ l) (sym (points_more (point_with header fields) L 0 k records));
        rest = ap (λ n. drop n (set points (at + k) new)) next ∙ drop-set-lt (at + k + 1) points (at + k) new (omega arith)
            ∙ after points initial s.rest ∙ ap (λ n. drop n initial) (sym next);
        held = out_more fields L 0 k records None s.held (ap (first_out fields) (sym (record_is L k records)) ∙ out);
        same = length-set points (at + k) new ∙ s.same;
      }
    where
      after : (a b : List Point) → drop (at + k) a ≡ drop (at + k) b → drop (at + k + 1) a ≡ drop (at + k + 1) b
      after a b e = sym (drop-drop 1 (at + k) a) ∙ ap (drop 1) e ∙ drop-drop 1 (at + k) b

  -- the next record has a value that no point holds
  pub record OutThere (dim : Dim) (points_after : List Point) : Type 0 where
    pub points_are : take (at + k) points_after ≡ take at initial ++ points_from (point_with header fields) header.record_length 0 k records
    pub out : out_from fields header.record_length 0 count records ≡ out_or k (Some dim) None

  pub out_there : (dim : Dim) (new : Point) → first_out fields (bytes_of header records k) ≡ Some dim → OutThere dim (set points (at + k) new)
  out_there dim new out =
      let L = header.record_length in
      let split : count ≡ k + 1 + (count - (k + 1)) = omega arith in
      let there : out_from fields L 0 (k + 1) records ≡ Some (0 + k, dim) = out_more fields L 0 k records (Some dim) s.held (ap (first_out fields) (sym (record_is L k records)) ∙ out) in
      let place : 0 + k ≡ k = omega arith in
      record {
        points_are = take-set-le (at + k) points (at + k) new (omega arith) ∙ s.points_are;
        out = ap (λ n. out_from fields L 0 n records) split ∙ out_stays fields L (k + 1) (count - (k + 1)) 0 records (0 + k, dim) there ∙ ap (λ n. Some (n, dim)) place;
      }
