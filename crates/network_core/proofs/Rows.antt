-- How a turn that began goes on.
use Rattle.std.proofs.Common.{◌≡◌, ℕ, ◌<◌, Bool, true, false, List, [], ◌∷◌, ◌++◌, length, drop, Option, Some, None, refl, ap, sym, arith}
use Rattle.std.specs.Prelude.{slice_get}
use Rattle.std.proofs.lemmas.List.{length-map, map-append}
use Rattle.std.proofs.lemmas.Bool.{lt-ltb}
use Rattle.cloud_points.specs.declared.point.Point.{Point}
use Rattle.cloud_points.specs.declared.item.Item as code
use Rattle.cloud_points.specs.declared.faults.StageFault.{StageFault}
use Rattle.cloud_points.specs.Marks.{Item}
use Rattle.cloud_points.specs.Bodies.{seen, bodies}
use Rattle.network_theory.specs.Net as net
use Rattle.chunk_queue.specs.declared.tag.ItemKind.{ItemKind}
use Rattle.network_core.specs.Hands.{seen_hand}

module _ {S P F : Type 0} (root : Bool) (cap : ℕ) (ch : net.Choice S P F) (n : net.Node S P F) (input out : List (Item P)) where
  -- an end that was still to come
  pub end_row : n.done ≡ false → n.ending ≡ true → ◌≡◌ {A = net.Outcome S P F} (record { node = net.end_made n; input = input; out = out; turned = net.Made }) (net.with_hand root cap ch n input out None)
  end_row d e = rw (d, e) refl

-- an item that the queue had room for
pub gave_row : {S : Type 0} (cap : ℕ) (ch : net.Choice S Point StageFault) (n m : net.Node S Point StageFault) (input : List (Item Point)) (items : List code.Item) (i : code.Item) → length items < cap → m ≡ net.given n (seen i.body) →
    ◌≡◌ {A = net.Outcome S Point StageFault} (record { node = m; input = input; out = bodies (items ++ i ∷ []); turned = net.Gave }) (net.with_hand false cap ch n input (bodies items) (Some (seen i.body)))
gave_row cap ch n m input items i h e =
    let l : length (bodies items) < cap = let k = length-map items (λ (x : code.Item). seen x.body) in omega (arith, k) in
    rw (e, map-append (λ (x : code.Item). seen x.body) items (i ∷ []), lt-ltb (length (bodies items)) cap l) refl

-- an item that was first in the queue
pub took_row : {S : Type 0} (ch : net.Choice S Point StageFault) (n : net.Node S Point StageFault) (items : List code.Item) (i : code.Item) (out : List (Item Point)) → slice_get items 0 ≡ Some i →
    ◌≡◌ {A = net.Outcome S Point StageFault} (record { node = net.taken ch n (seen i.body); input = bodies (drop 1 items); out = out; turned = net.Took }) (net.takes ch n (bodies items) out)
took_row ch n [] i out h = cc
took_row ch n (x ∷ items) i out h = let e : x ≡ i = cc in ap (λ (z : code.Item). record { node = net.taken ch n (seen z.body); input = bodies items; out = out; turned = net.Took }) (sym e)

-- with an empty hand what lies in the spread is not seen
pub same_hand : (hand : Option ItemKind) (a b : List Point) → hand ≡ None → seen_hand hand a ≡ seen_hand hand b
same_hand None a b h = refl
same_hand (Some kind) a b h = cc
