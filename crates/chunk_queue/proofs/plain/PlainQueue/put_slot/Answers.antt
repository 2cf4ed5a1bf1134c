use Rattle.std.proofs.Common.{◌≡◌, ◌+◌, ◌<◌, ◌∷◌, [], length, length-append, refl, ap, arith}
use Rattle.circular_buffer.specs.Buffer.{Buffer}
use Rattle.cloud_points.specs.declared.item.Item.{Item}
use Rattle.chunk_queue.proofs.Held.{on_ok, seen-length, put-slotted}
use Rattle.chunk_queue.proofs.plain.PlainQueue.put_slot.Goals as goal

pub invariant_of-self : goal.invariant_of-self
invariant_of-self c =
    let q = c.self.inside in
    let s = seen-length q.entries c.args.self.now c.self.view_is in
    let k = ap (λ (b : Buffer Item). b.capacity) c.self.view_is in
    let room : length q.entries.items < q.entries.capacity = (let r = c.requires.room in omega (arith, s, k, r)) in
    let pushed = on_ok c.try_push_back.result _ (c.try_push_back.ensures.variant.1 room) c.try_push_back.ensures.ok in
    let one : length (c.in-Some.slot ∷ []) ≡ 1 = refl in
    let left : length c.pop.new.self.items + 1 ≡ length q.free.items =
    (let l = length-append c.pop.new.self.items (c.in-Some.slot ∷ []) in let e = ap length c.in-Some.ensures.items in omega (arith, l, e, one)) in
    rw (pushed, c.pop.ensures.capacity) (put-slotted q.entries (length q.free.items) (length c.pop.new.self.items) _ _ _ c.args.points.now.value.items c.self.invariant c.swap_slots.ensures.into c.requires.some left)
