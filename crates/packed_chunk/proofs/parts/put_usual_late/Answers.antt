use Rattle.std.proofs.Common.{◌≡◌, ◌+◌, [], ◌∷◌, ◌++◌, take, ap, sym, ◌∙◌, arith}
use Rattle.cloud_points.specs.Layouts.{holds}
use Rattle.cloud_points.specs.declared.dims.Dim.TheVariants.{GpsTime, Red, Green, Blue, Infrared}
use Rattle.packed_chunk.specs.Rows.{cells, where_held, size_where, size_of, colour_dims, late_dims}
use Rattle.packed_chunk.proofs.CellByCell.{earlier_cell, later_rest}
use Rattle.packed_chunk.proofs.Groups.{group_cells, group_size, one_cell, one_size, cells_join, size_join}
use Rattle.packed_chunk.proofs.parts.put_usual_late.Goals as goal

pub put_where-requires : goal.put_where-requires
put_where-requires c =
    let layout = c.args.layout.now in
    let time : size_where c.has.result 8 ≡ size_of layout (GpsTime ∷ []) = ap (λ h. size_where h 8) c.has.ensures ∙ sym (one_size layout GpsTime) in
    let front : size_of layout late_dims ≡ size_of layout (GpsTime ∷ []) + size_of layout (Red ∷ Green ∷ Blue ∷ Infrared ∷ []) = size_join layout (GpsTime ∷ []) (Red ∷ Green ∷ Blue ∷ Infrared ∷ []) in
    omega (arith, c.requires.room, time, front)

pub put_where-requires-2 : goal.put_where-requires-2
put_where-requires-2 c =
    let layout = c.args.layout.now in
    let time : size_where c.has.result 8 ≡ size_of layout (GpsTime ∷ []) = ap (λ h. size_where h 8) c.has.ensures ∙ sym (one_size layout GpsTime) in
    let colours : size_where c.has-2.result 6 ≡ size_of layout colour_dims = ap (λ h. size_where h 6) c.has-2.ensures ∙ sym (group_size (holds layout Red) layout colour_dims c.requires.usual.colours) in
    let front : size_of layout late_dims ≡ size_of layout (GpsTime ∷ []) + size_of layout (Red ∷ Green ∷ Blue ∷ Infrared ∷ []) = size_join layout (GpsTime ∷ []) (Red ∷ Green ∷ Blue ∷ Infrared ∷ []) in
    let back : size_of layout (Red ∷ Green ∷ Blue ∷ Infrared ∷ []) ≡ size_of layout colour_dims + size_of layout (Infrared ∷ []) = size_join layout colour_dims (Infrared ∷ []) in
    omega (arith, c.requires.room, time, colours, front, back, c.put_where.ensures.at, c.put_where.auto.out)

pub put_where-requires-3 : goal.put_where-requires-3
put_where-requires-3 c =
    let layout = c.args.layout.now in
    let time : size_where c.has.result 8 ≡ size_of layout (GpsTime ∷ []) = ap (λ h. size_where h 8) c.has.ensures ∙ sym (one_size layout GpsTime) in
    let colours : size_where c.has-2.result 6 ≡ size_of layout colour_dims = ap (λ h. size_where h 6) c.has-2.ensures ∙ sym (group_size (holds layout Red) layout colour_dims c.requires.usual.colours) in
    let infrared : size_where c.has-3.result 2 ≡ size_of layout (Infrared ∷ []) = ap (λ h. size_where h 2) c.has-3.ensures ∙ sym (one_size layout Infrared) in
    let front : size_of layout late_dims ≡ size_of layout (GpsTime ∷ []) + size_of layout (Red ∷ Green ∷ Blue ∷ Infrared ∷ []) = size_join layout (GpsTime ∷ []) (Red ∷ Green ∷ Blue ∷ Infrared ∷ []) in
    let back : size_of layout (Red ∷ Green ∷ Blue ∷ Infrared ∷ []) ≡ size_of layout colour_dims + size_of layout (Infrared ∷ []) = size_join layout colour_dims (Infrared ∷ []) in
    omega (arith, c.requires.room, time, colours, infrared, front, back, c.put_where.ensures.at, c.put_where.auto.out, c.put_where-2.ensures.at, c.put_where-2.auto.out)

pub returns-clause-written : goal.returns-clause-written
returns-clause-written c =
    let layout = c.args.layout.now in
    let p = c.args.p.now in
    let first = take c.args.at.now c.args.out.now in
    let second = take c.put_where.new.at c.put_where.new.out in
    let third = take c.put_where-2.new.at c.put_where-2.new.out in
    let last = take c.put_where-3.new.at c.put_where-3.new.out in
    let time : second ≡ first ++ cells layout p (GpsTime ∷ []) =
    c.put_where.ensures.written ∙ (λ i. first ++ where_held (c.has.ensures i) (c.to_le_bytes.ensures i)) ∙ ap (λ l. first ++ l) (sym (one_cell layout p GpsTime)) in
    let colours : third ≡ second ++ cells layout p colour_dims =
    c.put_where-2.ensures.written ∙ (λ i. second ++ where_held (c.has-2.ensures i) (c.colour_bytes.ensures i))
    ∙ ap (λ l. second ++ l) (sym (group_cells (holds layout Red) layout p colour_dims c.requires.usual.colours)) in
    let infrared : last ≡ third ++ cells layout p (Infrared ∷ []) =
    c.put_where-3.ensures.written ∙ (λ i. third ++ where_held (c.has-3.ensures i) (c.to_le_bytes-2.ensures i)) ∙ ap (λ l. third ++ l) (sym (one_cell layout p Infrared)) in
    let back = earlier_cell second (cells layout p colour_dims) (cells layout p (Infrared ∷ [])) third last colours infrared ∙ ap (λ l. second ++ l) (sym (cells_join layout p colour_dims (Infrared ∷ []))) in
    earlier_cell first (cells layout p (GpsTime ∷ [])) (cells layout p (Red ∷ Green ∷ Blue ∷ Infrared ∷ [])) second last time back
    ∙ ap (λ l. first ++ l) (sym (cells_join layout p (GpsTime ∷ []) (Red ∷ Green ∷ Blue ∷ Infrared ∷ [])))

pub returns-clause-rest : goal.returns-clause-rest
returns-clause-rest c =
    let front = later_rest c.put_where.new.at c.put_where-2.new.at _ _ _ (omega (arith, c.put_where-2.ensures.at)) c.put_where.ensures.rest c.put_where-2.ensures.rest in
    later_rest c.put_where-2.new.at c.put_where-3.new.at _ _ _ (omega (arith, c.put_where-3.ensures.at)) front c.put_where-3.ensures.rest

pub returns-clause-at : goal.returns-clause-at
returns-clause-at c =
    let layout = c.args.layout.now in
    let time : size_where c.has.result 8 ≡ size_of layout (GpsTime ∷ []) = ap (λ h. size_where h 8) c.has.ensures ∙ sym (one_size layout GpsTime) in
    let colours : size_where c.has-2.result 6 ≡ size_of layout colour_dims = ap (λ h. size_where h 6) c.has-2.ensures ∙ sym (group_size (holds layout Red) layout colour_dims c.requires.usual.colours) in
    let infrared : size_where c.has-3.result 2 ≡ size_of layout (Infrared ∷ []) = ap (λ h. size_where h 2) c.has-3.ensures ∙ sym (one_size layout Infrared) in
    let front : size_of layout late_dims ≡ size_of layout (GpsTime ∷ []) + size_of layout (Red ∷ Green ∷ Blue ∷ Infrared ∷ []) = size_join layout (GpsTime ∷ []) (Red ∷ Green ∷ Blue ∷ Infrared ∷ []) in
    let back : size_of layout (Red ∷ Green ∷ Blue ∷ Infrared ∷ []) ≡ size_of layout colour_dims + size_of layout (Infrared ∷ []) = size_join layout colour_dims (Infrared ∷ []) in
    omega (arith, time, colours, infrared, front, back, c.put_where.ensures.at, c.put_where-2.ensures.at, c.put_where-3.ensures.at)
