-- the extent of the corners of a ring holds them
use Rattle.std.proofs.Common.{◌≡◌, arith, List, [], ◌∷◌, true, ℤ, pos, ◌≤ℤ◌, int_le, fold}
use Rattle.std.proofs.lemmas.Int.{ints, clamps}
use Rattle.limits_text.specs.Held.{IsHeld, AreHeld}
use Rattle.geo_tests.specs.declared.extents.Extent.{Extent}
use Rattle.geo_tests.specs.Extents.{with_number, with_corner, extent_of}
use Rattle.geo_tests.specs.Tests.{in_pair, in_extent}
use Rattle.geo_tests.proofs.Sides.{both_true-left, both_true-right}

-- of one axis
pub record Between (ends : ℤ × ℤ) (v : ℤ) : Type 0 where
  pub from : ends.0 ≤ℤ v
  pub to : v ≤ℤ ends.1

pub record Around (e : Extent) (p : ℤ × ℤ) : Type 0 where
  pub x : Between e.x p.0
  pub y : Between e.y p.1

-- corner after corner
abbrev pub AllAround : Extent → List (ℤ × ℤ) → Type 0
AllAround e [] = Unit {0}
AllAround e (p ∷ ps) = Around e p × AllAround e ps

new_number : (ends : ℤ × ℤ) (v : ℤ) → Between (with_number ends v) v
new_number ends v = record { from = omega (arith, ints, clamps); to = omega (arith, ints, clamps) }

old_number : (ends : ℤ × ℤ) (v w : ℤ) → Between ends w → Between (with_number ends v) w
old_number ends v w h =
    let f = h.from in
    let t = h.to in
    record { from = omega (arith, ints, clamps); to = omega (arith, ints, clamps) }

still_around : (e : Extent) (ps : List (ℤ × ℤ)) (p : ℤ × ℤ) → Around e p → Around (fold with_corner e ps) p
still_around e [] p h = h
still_around e (q ∷ ps) p h =
    still_around (with_corner e q) ps p (record { x = old_number e.x q.0 p.0 h.x; y = old_number e.y q.1 p.1 h.y })

each_around : (e : Extent) (ps : List (ℤ × ℤ)) → AllAround (fold with_corner e ps) ps
each_around e [] = tt
each_around e (q ∷ ps) =
    let e' = with_corner e q in
    (still_around e' ps q (record { x = new_number e.x q.0; y = new_number e.y q.1 }), each_around e' ps)

at_corner : (v : ℤ) → Between (v, v) v
at_corner v = record { from = omega (arith, ints); to = omega (arith, ints) }

pub all_around : (ps : List (ℤ × ℤ)) → AllAround (extent_of ps) ps
all_around [] = tt
all_around (p ∷ ps) =
    let e : Extent = record { x = (p.0, p.0); y = (p.1, p.1) } in
    (still_around e ps p (record { x = at_corner p.0; y = at_corner p.1 }), each_around e ps)

-- ---- its ends are as small as the corners'

record HeldEnds (ends : ℤ × ℤ) : Type 0 where
  from : IsHeld ends.0
  to : IsHeld ends.1

held_number : (ends : ℤ × ℤ) (v : ℤ) → HeldEnds ends → IsHeld v → HeldEnds (with_number ends v)
held_number ends v h k =
    let f = h.from in
    let t = h.to in
    record { from = omega (arith, ints, clamps); to = omega (arith, ints, clamps) }

held_fold : (e : Extent) (ps : List (ℤ × ℤ)) → HeldEnds e.x × HeldEnds e.y → AreHeld ps
    → HeldEnds (fold with_corner e ps).x × HeldEnds (fold with_corner e ps).y
held_fold e [] h k = h
held_fold e (q ∷ ps) h k =
    held_fold (with_corner e q) ps (held_number e.x q.0 h.0 k.0, held_number e.y q.1 h.1 k.1) k.2

held_extent : (ps : List (ℤ × ℤ)) → AreHeld ps → HeldEnds (extent_of ps).x × HeldEnds (extent_of ps).y
held_extent [] h =
    let z : HeldEnds (pos 0, pos 0) = record { from = omega (arith, ints); to = omega (arith, ints) } in
    (z, z)
held_extent (p ∷ ps) h =
    held_fold (record { x = (p.0, p.0); y = (p.1, p.1) }) ps
    (record { from = h.0; to = h.0 }, record { from = h.1; to = h.1 }) h.2

held_between : (ends : ℤ × ℤ) (v : ℤ) → HeldEnds ends → in_pair v ends ≡ true → IsHeld v
held_between ends v h k =
    let a = both_true-left (int_le ends.0 v) (int_le v ends.1) k in
    let b = both_true-right (int_le ends.0 v) (int_le v ends.1) k in
    let f = h.from in
    let t = h.to in
    omega (arith, ints)

pub held_inside : (ps : List (ℤ × ℤ)) (p : ℤ × ℤ) → AreHeld ps → in_extent p (extent_of ps) ≡ true → AreHeld (p ∷ ps)
held_inside ps p h k =
    let e = extent_of ps in
    let ends = held_extent ps h in
    let x = both_true-left (in_pair p.0 e.x) (in_pair p.1 e.y) k in
    let y = both_true-right (in_pair p.0 e.x) (in_pair p.1 e.y) k in
    (held_between e.x p.0 ends.0 x, held_between e.y p.1 ends.1 y, h)
