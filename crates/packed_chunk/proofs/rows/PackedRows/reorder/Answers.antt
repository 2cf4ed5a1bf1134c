use Rattle.std.proofs.Common.{◌≡◌, ℕ, ◌<◌, List, length, map, get_or, refl, ap, sym, ◌∙◌, arith}
use Rattle.std.proofs.lemmas.List.{same_lists, length-map, get_or-map, get_or_default}
use Rattle.cloud_points.specs.Points.{zero_point}
use Rattle.cloud_points.specs.declared.point.Point.{Point}
use Rattle.packed_chunk.proofs.Permuted.{places_are}
use Rattle.packed_chunk.proofs.rows.PackedRows.reorder.Goals as goal

pub loop-start-init : goal.loop-start-init
loop-start-init c = record {
  layout = refl;
  many = refl;
  inside = omega arith;
  places = places_are (length c.args.self.now.points) c.args.sources.now c.requires;
  same = λ k l. refl;
  done = λ k l. absurd (omega (arith, l));
}

-- the points stand at their places once each place is its own source
all_done : (points after : List Point) (sources left : List ℕ) → length after ≡ length points → length sources ≡ length points
    → ((k : ℕ) → k < length points → get_or after (get_or left k 0) zero_point ≡ get_or points (get_or sources k 0) zero_point)
    → ((k : ℕ) → k < length points → get_or left k 0 ≡ k) → after ≡ map (λ k. get_or points k zero_point) sources
all_done points after sources left many each same done = same_lists _ _
    (many ∙ sym each ∙ sym (length-map sources (λ k. get_or points k zero_point)))
    (λ k d l. let inside : k < length points = omega (arith, l, many) in
    get_or_default after k d zero_point l ∙ ap (λ j. get_or after j zero_point) (sym (done k inside)) ∙ same k inside
    ∙ sym (get_or-map (λ j. get_or points j zero_point) sources k 0 d (omega (arith, inside, each))))

pub returns : goal.returns
returns c =
    let v = c.loop-start.invariant in
    let places = places_are (length c.args.self.now.points) c.args.sources.now c.requires in
    let points = all_done c.args.self.now.points c.loop-start.self.points c.args.sources.now c.loop-start.sources v.many places.each v.same
    (λ k l. v.done k (omega (arith, l, v.many, c.len.ensures, c.loop-start-test.false))) in
    λ j. record { layout = v.layout j; points = points j }
