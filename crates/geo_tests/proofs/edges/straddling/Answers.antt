use Rattle.std.proofs.Common.{◌≡◌, ◌∙◌, sym, refl, arith, ℤ, ◌*ℤ◌, ◌-ℤ◌, to_z, of_z}
use Rattle.std.specs.Int.{w64, w128}
use Rattle.std.proofs.lemmas.Int.{to_z-of_z, fits_signed_from_abs}
use Rattle.limits_text.specs.Held.{IsHeld}
use Rattle.geo_tests.proofs.Sides.{on_edge_is, crosses_is}
use Rattle.geo_tests.proofs.edges.straddling.Goals as goal

same : (v : ℤ) → IsHeld v → to_z w64 (of_z w64 v) ≡ v
same v h = to_z-of_z w64 v (fits_signed_from_abs w64 v (omega arith))

pub returns : goal.returns
returns c =
    let low = c.args.low in
    let high = c.args.high in
    let p = c.args.p in
    let h = c.requires.held in
    let west = same low.0 h.0 in
    let south = same low.1 h.1 in
    let east = same high.0 h.2.0 in
    let north = same high.1 h.2.1 in
    let x = same p.0 h.2.2.0 in
    let y = same p.1 h.2.2.1 in
    let left : c.product-left.result ≡ (high.0 -ℤ low.0) *ℤ (p.1 -ℤ low.1) =
    c.product-left.ensures
    ∙ rw (
      to_z-of_z w64 c.distance.result (record { sfits = c.distance.type_inv }),
      to_z-of_z w64 c.distance-2.result (record { sfits = c.distance-2.type_inv }),
      c.distance.ensures,
      c.distance-2.ensures,
      east,
      west,
      y,
      south,
    ) refl in
    let right : c.product-right.result ≡ (high.1 -ℤ low.1) *ℤ (p.0 -ℤ low.0) =
    c.product-right.ensures
    ∙ rw (
      to_z-of_z w64 c.distance-3.result (record { sfits = c.distance-3.type_inv }),
      to_z-of_z w64 c.distance-4.result (record { sfits = c.distance-4.type_inv }),
      c.distance-3.ensures,
      c.distance-4.ensures,
      north,
      south,
      x,
      west,
    ) refl in
    let l = to_z-of_z w128 c.product-left.result (record { sfits = c.product-left.type_inv }) in
    let r = to_z-of_z w128 c.product-right.result (record { sfits = c.product-right.type_inv }) in
    record {
      on =
          rw (c.is_same.ensures, l, r, c.is_between.ensures, west, east, x)
          (sym (on_edge_is low high p c.product-left.result c.product-right.result left right c.requires.above c.requires.below));
      crosses =
          rw (c.is_less.ensures, l, r, y, north)
          (sym (crosses_is low high p c.product-left.result c.product-right.result left right c.requires.above));
    }
