-- What is known of lent queues is known of the options that held them.
use Rattle.std.proofs.Common.{◌≡◌, Option, ap, sym, ◌∙◌}
use Rattle.std.specs.Prelude.{is_none}
use Rattle.std.specs.Borrow.{MutBor}
use Rattle.circular_buffer.specs.Buffer.{Buffer}
use Rattle.cloud_points.specs.declared.point.Point.{Point}
use Rattle.cloud_points.specs.declared.item.Item.{Item}
use Rattle.cloud_points.specs.declared.faults.StageFault.{StageFault}
use Rattle.cloud_points.specs.Bodies.{bodies}
use Rattle.network_theory.specs.Net as net
use Rattle.network_core.specs.Queues.{lent_items, room}

pub lent_row : {S : Type 0} (ch : net.Choice S Point StageFault) (n : net.Node S Point StageFault) (o : net.Outcome S Point StageFault) (a b x y : Option (MutBor (Buffer Item))) → a ≡ x → b ≡ y →
    o ≡ net.turn (is_none y) (room y) ch n (bodies (lent_items x)) (bodies (lent_items y)) → o ≡ net.turn (is_none b) (room b) ch n (bodies (lent_items a)) (bodies (lent_items b))
lent_row ch n o a b x y e f h =
    h ∙ ap (λ z. net.turn (is_none y) (room y) ch n (bodies (lent_items z)) (bodies (lent_items y))) (sym e)
    ∙ ap (λ z. net.turn (is_none z) (room z) ch n (bodies (lent_items a)) (bodies (lent_items z))) (sym f)
