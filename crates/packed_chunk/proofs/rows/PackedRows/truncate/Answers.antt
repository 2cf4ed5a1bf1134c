use Rattle.std.proofs.Common.{◌+◌, take, ap, sym, ◌∙◌, arith}
use Rattle.packed_chunk.specs.Held.{Held, point_at}
use Rattle.packed_chunk.proofs.Listed.{listed_take}
use Rattle.packed_chunk.proofs.Growing.{pieces_fewer}
use Rattle.packed_chunk.proofs.rows.PackedRows.truncate.Goals as goal

pub invariant_of-self : goal.invariant_of-self
invariant_of-self c =
    let i = c.self.inside in
    pieces_fewer i.packing.layout i.gone i.pieces.items i.first (i.first + i.len) (i.first + c.min-self-inside.result) c.self.invariant (omega (arith, c.min-self-inside.ensures))

pub returns : goal.returns
returns c =
    let i = c.self.inside in
    let few = listed_take (λ k. point_at i.packing.layout i.gone i.pieces.items (i.first + k)) c.args.count i.len c.min-self-inside.result (omega (arith, c.min-self-inside.ensures)) in
    let points = sym few ∙ ap (λ (h : Held). take c.args.count h.points) c.self.view_is in
    λ j. record { layout = (c.self.view_is j).layout; points = points j }
