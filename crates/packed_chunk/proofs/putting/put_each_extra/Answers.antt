use Rattle.std.proofs.Common.{◌≡◌, [], ◌++◌, take, arith, rules}
use Rattle.cloud_points.specs.declared.dims.Dim.TheVariants.{Extra}
use Rattle.packed_chunk.specs.Rows.{cell, cells}
use Rattle.packed_chunk.proofs.CellByCell.{last_cell, earlier_cell, later_rest}
use Rattle.packed_chunk.proofs.putting.put_each_extra.Goals as goal

pub returns-clause-written : goal.returns-clause-written
unfolding cells
returns-clause-written c =
    let layout = c.args.layout.now in
    let p = c.args.p.now in
    let s0 : take c.put_where.new.at c.put_where.new.out ≡ take c.args.at.now c.args.out.now ++ cell layout p (Extra 0) = search rules in
    let s1 : take c.put_where-2.new.at c.put_where-2.new.out ≡ take c.put_where.new.at c.put_where.new.out ++ cell layout p (Extra 1) = search rules in
    let s2 : take c.put_where-3.new.at c.put_where-3.new.out ≡ take c.put_where-2.new.at c.put_where-2.new.out ++ cell layout p (Extra 2) = search rules in
    let s3 : take c.put_where-4.new.at c.put_where-4.new.out ≡ take c.put_where-3.new.at c.put_where-3.new.out ++ cell layout p (Extra 3) = search rules in
    let s4 : take c.put_where-5.new.at c.put_where-5.new.out ≡ take c.put_where-4.new.at c.put_where-4.new.out ++ cell layout p (Extra 4) = search rules in
    let s5 : take c.put_where-6.new.at c.put_where-6.new.out ≡ take c.put_where-5.new.at c.put_where-5.new.out ++ cell layout p (Extra 5) = search rules in
    let s6 : take c.put_where-7.new.at c.put_where-7.new.out ≡ take c.put_where-6.new.at c.put_where-6.new.out ++ cell layout p (Extra 6) = search rules in
    let s7 : take c.put_where-8.new.at c.put_where-8.new.out ≡ take c.put_where-7.new.at c.put_where-7.new.out ++ cell layout p (Extra 7) = search rules in
    let t7 = last_cell (take c.put_where-7.new.at c.put_where-7.new.out) (cell layout p (Extra 7)) (take c.put_where-8.new.at c.put_where-8.new.out) s7 in
    let t6 = earlier_cell (take c.put_where-6.new.at c.put_where-6.new.out) (cell layout p (Extra 6)) (cell layout p (Extra 7) ++ []) (take c.put_where-7.new.at c.put_where-7.new.out) (take c.put_where-8.new.at c.put_where-8.new.out) s6 t7 in
    let t5 = earlier_cell (take c.put_where-5.new.at c.put_where-5.new.out) (cell layout p (Extra 5)) (cell layout p (Extra 6) ++ (cell layout p (Extra 7) ++ [])) (take c.put_where-6.new.at c.put_where-6.new.out) (take c.put_where-8.new.at c.put_where-8.new.out) s5 t6 in
    let t4 = earlier_cell (take c.put_where-4.new.at c.put_where-4.new.out) (cell layout p (Extra 4)) (cell layout p (Extra 5) ++ (cell layout p (Extra 6) ++ (cell layout p (Extra 7) ++ []))) (take c.put_where-5.new.at c.put_where-5.new.out) (take c.put_where-8.new.at c.put_where-8.new.out) s4 t5 in
    let t3 = earlier_cell (take c.put_where-3.new.at c.put_where-3.new.out) (cell layout p (Extra 3)) (cell layout p (Extra 4) ++ (cell layout p (Extra 5) ++ (cell layout p (Extra 6) ++ (cell layout p (Extra 7) ++ [])))) (take c.put_where-4.new.at c.put_where-4.new.out) (take c.put_where-8.new.at c.put_where-8.new.out) s3 t4 in
    let t2 = earlier_cell (take c.put_where-2.new.at c.put_where-2.new.out) (cell layout p (Extra 2)) (cell layout p (Extra 3) ++ (cell layout p (Extra 4) ++ (cell layout p (Extra 5) ++ (cell layout p (Extra 6) ++ (cell layout p (Extra 7) ++ []))))) (take c.put_where-3.new.at c.put_where-3.new.out) (take c.put_where-8.new.at c.put_where-8.new.out) s2 t3 in
    let t1 = earlier_cell (take c.put_where.new.at c.put_where.new.out) (cell layout p (Extra 1)) (cell layout p (Extra 2) ++ (cell layout p (Extra 3) ++ (cell layout p (Extra 4) ++ (cell layout p (Extra 5) ++ (cell layout p (Extra 6) ++ (cell layout p (Extra 7) ++ [])))))) (take c.put_where-2.new.at c.put_where-2.new.out) (take c.put_where-8.new.at c.put_where-8.new.out) s1 t2 in
    earlier_cell (take c.args.at.now c.args.out.now) (cell layout p (Extra 0)) (cell layout p (Extra 1) ++ (cell layout p (Extra 2) ++ (cell layout p (Extra 3) ++ (cell layout p (Extra 4) ++ (cell layout p (Extra 5) ++ (cell layout p (Extra 6) ++ (cell layout p (Extra 7) ++ []))))))) (take c.put_where.new.at c.put_where.new.out) (take c.put_where-8.new.at c.put_where-8.new.out) s0 t1

pub returns-clause-rest : goal.returns-clause-rest
returns-clause-rest c =
    let r0 = c.put_where.ensures.rest in
    let r1 = later_rest c.put_where.new.at c.put_where-2.new.at _ _ _ (omega (arith, c.put_where-2.ensures.at)) r0 c.put_where-2.ensures.rest in
    let r2 = later_rest c.put_where-2.new.at c.put_where-3.new.at _ _ _ (omega (arith, c.put_where-3.ensures.at)) r1 c.put_where-3.ensures.rest in
    let r3 = later_rest c.put_where-3.new.at c.put_where-4.new.at _ _ _ (omega (arith, c.put_where-4.ensures.at)) r2 c.put_where-4.ensures.rest in
    let r4 = later_rest c.put_where-4.new.at c.put_where-5.new.at _ _ _ (omega (arith, c.put_where-5.ensures.at)) r3 c.put_where-5.ensures.rest in
    let r5 = later_rest c.put_where-5.new.at c.put_where-6.new.at _ _ _ (omega (arith, c.put_where-6.ensures.at)) r4 c.put_where-6.ensures.rest in
    let r6 = later_rest c.put_where-6.new.at c.put_where-7.new.at _ _ _ (omega (arith, c.put_where-7.ensures.at)) r5 c.put_where-7.ensures.rest in
    later_rest c.put_where-7.new.at c.put_where-8.new.at _ _ _ (omega (arith, c.put_where-8.ensures.at)) r6 c.put_where-8.ensures.rest
