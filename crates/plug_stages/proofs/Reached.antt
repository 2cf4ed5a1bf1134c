-- The six numbers that are remembered are the least and the greatest coordinates.
use Rattle.std.proofs.Common.{◌≡◌, ℤ, List, [], ◌∷◌, map, refl}
use Rattle.cloud_points.specs.declared.point.Point.{Point}
use Rattle.plug_stages.specs.Extents.{lesser, greater, least, greatest, bounds_text, extent_with, extent_text}
use Rattle.plug_stages.specs.Tallied.{tallied}

behind : (a b c d e f : ℤ) (ps : List Point) → tallied extent_with (a ∷ b ∷ c ∷ d ∷ e ∷ f ∷ []) ps
    ≡ least a (map (λ q. q.x) ps) ∷ least b (map (λ q. q.y) ps) ∷ least c (map (λ q. q.z) ps)
    ∷ greatest d (map (λ q. q.x) ps) ∷ greatest e (map (λ q. q.y) ps) ∷ greatest f (map (λ q. q.z) ps) ∷ []
behind a b c d e f [] = refl
behind a b c d e f (p ∷ ps) = behind (lesser a p.x) (lesser b p.y) (lesser c p.z) (greater d p.x) (greater e p.y) (greater f p.z) ps

pub bounds_told : (points : List Point) → extent_text (tallied extent_with [] points) ≡ bounds_text points
bounds_told [] = refl
bounds_told (p ∷ ps) = rw (behind p.x p.y p.z p.x p.y p.z ps) refl
