-- The event of a turn by its parts.
use Rattle.std.proofs.Common.{◌≡◌, ℕ, Bool, false, List, Option, Some, None, refl, ap, sym, ◌∙◌}
use Rattle.cloud_points.specs.declared.point.Point.{Point}
use Rattle.cloud_points.specs.declared.faults.StageFault.{StageFault}
use Rattle.cloud_points.specs.declared.work.Work.{Ghosts}
use Rattle.cloud_points.specs.Marks.{Item}
use Rattle.chunk_queue.specs.declared.tag.ItemKind.{ItemKind}
use Rattle.network_theory.specs.Net as net
use Rattle.network_core.specs.declared.node.Node.{Node}
use Rattle.network_core.specs.Hands.{seen_hand, kind_item}
use Rattle.network_core.specs.Shown.{shown}

held : {A : Type 0} (hand : Option ItemKind) (kind : ItemKind) (ps : List Point) → hand ≡ Some kind → seen_hand hand ps ≡ None → A
held None kind ps h e = cc
held (Some k) kind ps h e = cc

empty_hand : (hand : Option ItemKind) (ps : List Point) → seen_hand hand ps ≡ None → hand ≡ None
empty_hand None ps e = refl
empty_hand (Some k) ps e = cc

-- the row of a turn, by how it began
module _ {W S : Type 0} (g : Ghosts W S) (ins : List ℕ) (root : Bool) (cap : ℕ) (ch : net.Choice S Point StageFault) (old : Node W) (input out : List (Item Point)) (o : net.Outcome S Point StageFault) where
  -- the hand held this
  pub from_hand : (new : Node W) (kind : ItemKind) → old.hand ≡ Some kind → new ≡ old → o ≡ net.with_hand root cap ch (shown g ins new) input out (Some (kind_item kind new.spread.items)) → o ≡ net.turn root cap ch (shown g ins old) input out
  from_hand new kind h e p =
      p ∙ ap (λ (n : Node W). net.with_hand root cap ch (shown g ins n) input out (Some (kind_item kind n.spread.items))) e
      ∙ ap (λ x. net.with_hand root cap ch (shown g ins old) input out (seen_hand x old.spread.items)) (sym h)

  -- the hand was empty
  pub from_empty : old.hand ≡ None → o ≡ net.with_hand root cap ch (shown g ins old) input out None → o ≡ net.turn root cap ch (shown g ins old) input out
  from_empty h p = p ∙ ap (λ x. net.with_hand root cap ch (shown g ins old) input out (seen_hand x old.spread.items)) (sym h)

  -- an inner node with nothing to give or make
  pub takes_row : (n : net.Node S Point StageFault) → n.done ≡ false → n.ending ≡ false → n.leaf ≡ false → net.takes ch n input out ≡ net.with_hand root cap ch n input out None
  takes_row n d e l = rw (d, e, l) refl
