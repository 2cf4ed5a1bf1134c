use Rattle.std.proofs.Common.{◌≡◌, [], ◌++◌, take, ◌∙◌, arith, rules}
use Rattle.std.specs.Int.{w8, to_le_bytes}
use Rattle.cloud_points.specs.declared.dims.Dim.TheVariants.{Overlap, PointSourceId, ScanAngleRank, ScanChannel, UserData}
use Rattle.packed_chunk.specs.Rows.{cell, cells, where_held}
use Rattle.packed_chunk.proofs.CellByCell.{last_cell, earlier_cell, later_rest}
use Rattle.packed_chunk.proofs.putting.put_each_middle.Goals as goal

pub returns-clause-written : goal.returns-clause-written
unfolding cells
returns-clause-written c =
    let layout = c.args.layout.now in
    let p = c.args.p.now in
    let s0 : take c.put_byte_where.new.at c.put_byte_where.new.out ≡ take c.args.at.now c.args.out.now ++ cell layout p Overlap = c.put_byte_where.ensures.written ∙ (λ i. take c.args.at.now c.args.out.now ++ where_held (c.has.ensures i) (to_le_bytes w8 p.overlap)) in
    let s1 : take c.put_byte_where-2.new.at c.put_byte_where-2.new.out ≡ take c.put_byte_where.new.at c.put_byte_where.new.out ++ cell layout p ScanChannel = c.put_byte_where-2.ensures.written ∙ (λ i. take c.put_byte_where.new.at c.put_byte_where.new.out ++ where_held (c.has-2.ensures i) (to_le_bytes w8 p.scan_channel)) in
    let s2 : take c.put_where.new.at c.put_where.new.out ≡ take c.put_byte_where-2.new.at c.put_byte_where-2.new.out ++ cell layout p ScanAngleRank = search rules in
    let s3 : take c.put_byte_where-3.new.at c.put_byte_where-3.new.out ≡ take c.put_where.new.at c.put_where.new.out ++ cell layout p UserData = c.put_byte_where-3.ensures.written ∙ (λ i. take c.put_where.new.at c.put_where.new.out ++ where_held (c.has-4.ensures i) (to_le_bytes w8 p.user_data)) in
    let s4 : take c.put_where-2.new.at c.put_where-2.new.out ≡ take c.put_byte_where-3.new.at c.put_byte_where-3.new.out ++ cell layout p PointSourceId = c.put_where-2.ensures.written ∙ (λ i. take c.put_byte_where-3.new.at c.put_byte_where-3.new.out ++ where_held (c.has-5.ensures i) (c.to_le_bytes-2.ensures i)) in
    let t4 = last_cell (take c.put_byte_where-3.new.at c.put_byte_where-3.new.out) (cell layout p PointSourceId) (take c.put_where-2.new.at c.put_where-2.new.out) s4 in
    let t3 = earlier_cell (take c.put_where.new.at c.put_where.new.out) (cell layout p UserData) (cell layout p PointSourceId ++ []) (take c.put_byte_where-3.new.at c.put_byte_where-3.new.out) (take c.put_where-2.new.at c.put_where-2.new.out) s3 t4 in
    let t2 = earlier_cell (take c.put_byte_where-2.new.at c.put_byte_where-2.new.out) (cell layout p ScanAngleRank) (cell layout p UserData ++ (cell layout p PointSourceId ++ [])) (take c.put_where.new.at c.put_where.new.out) (take c.put_where-2.new.at c.put_where-2.new.out) s2 t3 in
    let t1 = earlier_cell (take c.put_byte_where.new.at c.put_byte_where.new.out) (cell layout p ScanChannel) (cell layout p ScanAngleRank ++ (cell layout p UserData ++ (cell layout p PointSourceId ++ []))) (take c.put_byte_where-2.new.at c.put_byte_where-2.new.out) (take c.put_where-2.new.at c.put_where-2.new.out) s1 t2 in
    earlier_cell (take c.args.at.now c.args.out.now) (cell layout p Overlap) (cell layout p ScanChannel ++ (cell layout p ScanAngleRank ++ (cell layout p UserData ++ (cell layout p PointSourceId ++ [])))) (take c.put_byte_where.new.at c.put_byte_where.new.out) (take c.put_where-2.new.at c.put_where-2.new.out) s0 t1

pub returns-clause-rest : goal.returns-clause-rest
returns-clause-rest c =
    let r0 = c.put_byte_where.ensures.rest in
    let r1 = later_rest c.put_byte_where.new.at c.put_byte_where-2.new.at _ _ _ (omega (arith, c.put_byte_where-2.ensures.at)) r0 c.put_byte_where-2.ensures.rest in
    let r2 = later_rest c.put_byte_where-2.new.at c.put_where.new.at _ _ _ (omega (arith, c.put_where.ensures.at)) r1 c.put_where.ensures.rest in
    let r3 = later_rest c.put_where.new.at c.put_byte_where-3.new.at _ _ _ (omega (arith, c.put_byte_where-3.ensures.at)) r2 c.put_byte_where-3.ensures.rest in
    later_rest c.put_byte_where-3.new.at c.put_where-2.new.at _ _ _ (omega (arith, c.put_where-2.ensures.at)) r3 c.put_where-2.ensures.rest
