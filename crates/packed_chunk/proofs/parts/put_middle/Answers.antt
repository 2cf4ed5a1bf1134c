use Rattle.std.proofs.Common.{◌≡◌, ◌+◌, true, ◌++◌, take, ap, sym, ◌∙◌, arith, append_assoc}
use Rattle.cloud_points.specs.Layouts.{holds}
use Rattle.cloud_points.specs.declared.dims.Dim.TheVariants.{Overlap}
use Rattle.packed_chunk.specs.Rows.{cells, where_held, size_where, size_of, flag_dims, angle_dims, middle_dims}
use Rattle.packed_chunk.proofs.CellByCell.{later_rest}
use Rattle.packed_chunk.proofs.Groups.{group_cells, group_size, cells_join, size_join}
use Rattle.packed_chunk.proofs.parts.put_middle.Goals as goal

pub put_where-requires : goal.put_where-requires
put_where-requires c =
    let layout = c.args.layout.now in
    let usual = c.requires.usual c.if-usual.true in
    let flags : size_where c.has.result 2 ≡ size_of layout flag_dims = ap (λ h. size_where h 2) c.has.ensures ∙ sym (group_size (holds layout Overlap) layout flag_dims usual.flags) in
    let both : size_of layout middle_dims ≡ size_of layout flag_dims + size_of layout angle_dims = size_join layout flag_dims angle_dims in
    omega (arith, c.requires.room, flags, both)

pub put-requires : goal.put-requires
put-requires c =
    let layout = c.args.layout.now in
    let usual = c.requires.usual c.if-usual.true in
    let flags : size_where c.has.result 2 ≡ size_of layout flag_dims = ap (λ h. size_where h 2) c.has.ensures ∙ sym (group_size (holds layout Overlap) layout flag_dims usual.flags) in
    let angle : size_of layout angle_dims ≡ 11 = group_size true layout angle_dims usual.angle in
    let both : size_of layout middle_dims ≡ size_of layout flag_dims + size_of layout angle_dims = size_join layout flag_dims angle_dims in
    omega (arith, c.requires.room, flags, angle, both, c.put_where.ensures.at, c.put_where.auto.out)

pub returns-then-usual-clause-written : goal.returns-then-usual-clause-written
returns-then-usual-clause-written c =
    let layout = c.args.layout.now in
    let p = c.args.p.now in
    let usual = c.requires.usual c.if-usual.true in
    let before = take c.args.at.now c.args.out.now in
    let middle = take c.put_where.new.at c.put_where.new.out in
    let flags : middle ≡ before ++ cells layout p flag_dims =
    c.put_where.ensures.written ∙ (λ i. before ++ where_held (c.has.ensures i) (c.flag_bytes.ensures i))
    ∙ ap (λ l. before ++ l) (sym (group_cells (holds layout Overlap) layout p flag_dims usual.flags)) in
    c.put.ensures.written ∙ ap (λ l. middle ++ l) (c.angle_bytes.ensures ∙ sym (group_cells true layout p angle_dims usual.angle))
    ∙ ap (λ l. l ++ cells layout p angle_dims) flags ∙ append_assoc before (cells layout p flag_dims) (cells layout p angle_dims)
    ∙ ap (λ l. before ++ l) (sym (cells_join layout p flag_dims angle_dims))

pub returns-then-usual-clause-rest : goal.returns-then-usual-clause-rest
returns-then-usual-clause-rest c = later_rest c.put_where.new.at c.put.new.at _ _ _ (omega (arith, c.put.ensures.at)) c.put_where.ensures.rest c.put.ensures.rest

pub returns-then-usual-clause-at : goal.returns-then-usual-clause-at
returns-then-usual-clause-at c =
    let layout = c.args.layout.now in
    let usual = c.requires.usual c.if-usual.true in
    let flags : size_where c.has.result 2 ≡ size_of layout flag_dims = ap (λ h. size_where h 2) c.has.ensures ∙ sym (group_size (holds layout Overlap) layout flag_dims usual.flags) in
    let angle : size_of layout angle_dims ≡ 11 = group_size true layout angle_dims usual.angle in
    let both : size_of layout middle_dims ≡ size_of layout flag_dims + size_of layout angle_dims = size_join layout flag_dims angle_dims in
    omega (arith, flags, angle, both, c.put_where.ensures.at, c.put.ensures.at)
