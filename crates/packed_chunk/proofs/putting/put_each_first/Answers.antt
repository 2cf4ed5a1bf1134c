use Rattle.std.proofs.Common.{◌≡◌, [], ◌++◌, take, ◌∙◌, arith, rules}
use Rattle.std.specs.Int.{w8, to_le_bytes}
use Rattle.cloud_points.specs.declared.dims.Dim.TheVariants.{Classification, EdgeOfFlightLine, Intensity, KeyPoint, NumberOfReturns, ReturnNumber, ScanDirectionFlag, Synthetic, Withheld, X, Y, Z}
use Rattle.packed_chunk.specs.Rows.{cell, cells, where_held}
use Rattle.packed_chunk.proofs.CellByCell.{last_cell, earlier_cell, later_rest}
use Rattle.packed_chunk.proofs.putting.put_each_first.Goals as goal

pub returns-clause-written : goal.returns-clause-written
unfolding cells
returns-clause-written c =
    let layout = c.args.layout.now in
    let p = c.args.p.now in
    let s0 : take c.put_where.new.at c.put_where.new.out ≡ take c.args.at.now c.args.out.now ++ cell layout p X = search rules in
    let s1 : take c.put_where-2.new.at c.put_where-2.new.out ≡ take c.put_where.new.at c.put_where.new.out ++ cell layout p Y = search rules in
    let s2 : take c.put_where-3.new.at c.put_where-3.new.out ≡ take c.put_where-2.new.at c.put_where-2.new.out ++ cell layout p Z = search rules in
    let s3 : take c.put_where-4.new.at c.put_where-4.new.out ≡ take c.put_where-3.new.at c.put_where-3.new.out ++ cell layout p Intensity = c.put_where-4.ensures.written ∙ (λ i. take c.put_where-3.new.at c.put_where-3.new.out ++ where_held (c.has-4.ensures i) (c.to_le_bytes-4.ensures i)) in
    let s4 : take c.put_byte_where.new.at c.put_byte_where.new.out ≡ take c.put_where-4.new.at c.put_where-4.new.out ++ cell layout p ReturnNumber = c.put_byte_where.ensures.written ∙ (λ i. take c.put_where-4.new.at c.put_where-4.new.out ++ where_held (c.has-5.ensures i) (to_le_bytes w8 p.return_number)) in
    let s5 : take c.put_byte_where-2.new.at c.put_byte_where-2.new.out ≡ take c.put_byte_where.new.at c.put_byte_where.new.out ++ cell layout p NumberOfReturns = c.put_byte_where-2.ensures.written ∙ (λ i. take c.put_byte_where.new.at c.put_byte_where.new.out ++ where_held (c.has-6.ensures i) (to_le_bytes w8 p.number_of_returns)) in
    let s6 : take c.put_byte_where-3.new.at c.put_byte_where-3.new.out ≡ take c.put_byte_where-2.new.at c.put_byte_where-2.new.out ++ cell layout p ScanDirectionFlag = c.put_byte_where-3.ensures.written ∙ (λ i. take c.put_byte_where-2.new.at c.put_byte_where-2.new.out ++ where_held (c.has-7.ensures i) (to_le_bytes w8 p.scan_direction_flag)) in
    let s7 : take c.put_byte_where-4.new.at c.put_byte_where-4.new.out ≡ take c.put_byte_where-3.new.at c.put_byte_where-3.new.out ++ cell layout p EdgeOfFlightLine = c.put_byte_where-4.ensures.written ∙ (λ i. take c.put_byte_where-3.new.at c.put_byte_where-3.new.out ++ where_held (c.has-8.ensures i) (to_le_bytes w8 p.edge_of_flight_line)) in
    let s8 : take c.put_byte_where-5.new.at c.put_byte_where-5.new.out ≡ take c.put_byte_where-4.new.at c.put_byte_where-4.new.out ++ cell layout p Classification = c.put_byte_where-5.ensures.written ∙ (λ i. take c.put_byte_where-4.new.at c.put_byte_where-4.new.out ++ where_held (c.has-9.ensures i) (to_le_bytes w8 p.classification)) in
    let s9 : take c.put_byte_where-6.new.at c.put_byte_where-6.new.out ≡ take c.put_byte_where-5.new.at c.put_byte_where-5.new.out ++ cell layout p Synthetic = c.put_byte_where-6.ensures.written ∙ (λ i. take c.put_byte_where-5.new.at c.put_byte_where-5.new.out ++ where_held (c.has-10.ensures i) (to_le_bytes w8 p.synthetic)) in
    let s10 : take c.put_byte_where-7.new.at c.put_byte_where-7.new.out ≡ take c.put_byte_where-6.new.at c.put_byte_where-6.new.out ++ cell layout p KeyPoint = c.put_byte_where-7.ensures.written ∙ (λ i. take c.put_byte_where-6.new.at c.put_byte_where-6.new.out ++ where_held (c.has-11.ensures i) (to_le_bytes w8 p.key_point)) in
    let s11 : take c.put_byte_where-8.new.at c.put_byte_where-8.new.out ≡ take c.put_byte_where-7.new.at c.put_byte_where-7.new.out ++ cell layout p Withheld = c.put_byte_where-8.ensures.written ∙ (λ i. take c.put_byte_where-7.new.at c.put_byte_where-7.new.out ++ where_held (c.has-12.ensures i) (to_le_bytes w8 p.withheld)) in
    let t11 = last_cell (take c.put_byte_where-7.new.at c.put_byte_where-7.new.out) (cell layout p Withheld) (take c.put_byte_where-8.new.at c.put_byte_where-8.new.out) s11 in
    let t10 = earlier_cell (take c.put_byte_where-6.new.at c.put_byte_where-6.new.out) (cell layout p KeyPoint) (cell layout p Withheld ++ []) (take c.put_byte_where-7.new.at c.put_byte_where-7.new.out) (take c.put_byte_where-8.new.at c.put_byte_where-8.new.out) s10 t11 in
    let t9 = earlier_cell (take c.put_byte_where-5.new.at c.put_byte_where-5.new.out) (cell layout p Synthetic) (cell layout p KeyPoint ++ (cell layout p Withheld ++ [])) (take c.put_byte_where-6.new.at c.put_byte_where-6.new.out) (take c.put_byte_where-8.new.at c.put_byte_where-8.new.out) s9 t10 in
    let t8 = earlier_cell (take c.put_byte_where-4.new.at c.put_byte_where-4.new.out) (cell layout p Classification) (cell layout p Synthetic ++ (cell layout p KeyPoint ++ (cell layout p Withheld ++ []))) (take c.put_byte_where-5.new.at c.put_byte_where-5.new.out) (take c.put_byte_where-8.new.at c.put_byte_where-8.new.out) s8 t9 in
    let t7 = earlier_cell (take c.put_byte_where-3.new.at c.put_byte_where-3.new.out) (cell layout p EdgeOfFlightLine) (cell layout p Classification ++ (cell layout p Synthetic ++ (cell layout p KeyPoint ++ (cell layout p Withheld ++ [])))) (take c.put_byte_where-4.new.at c.put_byte_where-4.new.out) (take c.put_byte_where-8.new.at c.put_byte_where-8.new.out) s7 t8 in
    let t6 = earlier_cell (take c.put_byte_where-2.new.at c.put_byte_where-2.new.out) (cell layout p ScanDirectionFlag) (cell layout p EdgeOfFlightLine ++ (cell layout p Classification ++ (cell layout p Synthetic ++ (cell layout p KeyPoint ++ (cell layout p Withheld ++ []))))) (take c.put_byte_where-3.new.at c.put_byte_where-3.new.out) (take c.put_byte_where-8.new.at c.put_byte_where-8.new.out) s6 t7 in
    let t5 = earlier_cell (take c.put_byte_where.new.at c.put_byte_where.new.out) (cell layout p NumberOfReturns) (cell layout p ScanDirectionFlag ++ (cell layout p EdgeOfFlightLine ++ (cell layout p Classification ++ (cell layout p Synthetic ++ (cell layout p KeyPoint ++ (cell layout p Withheld ++ [])))))) (take c.put_byte_where-2.new.at c.put_byte_where-2.new.out) (take c.put_byte_where-8.new.at c.put_byte_where-8.new.out) s5 t6 in
    let t4 = earlier_cell (take c.put_where-4.new.at c.put_where-4.new.out) (cell layout p ReturnNumber) (cell layout p NumberOfReturns ++ (cell layout p ScanDirectionFlag ++ (cell layout p EdgeOfFlightLine ++ (cell layout p Classification ++ (cell layout p Synthetic ++ (cell layout p KeyPoint ++ (cell layout p Withheld ++ []))))))) (take c.put_byte_where.new.at c.put_byte_where.new.out) (take c.put_byte_where-8.new.at c.put_byte_where-8.new.out) s4 t5 in
    let t3 = earlier_cell (take c.put_where-3.new.at c.put_where-3.new.out) (cell layout p Intensity) (cell layout p ReturnNumber ++ (cell layout p NumberOfReturns ++ (cell layout p ScanDirectionFlag ++ (cell layout p EdgeOfFlightLine ++ (cell layout p Classification ++ (cell layout p Synthetic ++ (cell layout p KeyPoint ++ (cell layout p Withheld ++ [])))))))) (take c.put_where-4.new.at c.put_where-4.new.out) (take c.put_byte_where-8.new.at c.put_byte_where-8.new.out) s3 t4 in
    let t2 = earlier_cell (take c.put_where-2.new.at c.put_where-2.new.out) (cell layout p Z) (cell layout p Intensity ++ (cell layout p ReturnNumber ++ (cell layout p NumberOfReturns ++ (cell layout p ScanDirectionFlag ++ (cell layout p EdgeOfFlightLine ++ (cell layout p Classification ++ (cell layout p Synthetic ++ (cell layout p KeyPoint ++ (cell layout p Withheld ++ []))))))))) (take c.put_where-3.new.at c.put_where-3.new.out) (take c.put_byte_where-8.new.at c.put_byte_where-8.new.out) s2 t3 in
    let t1 = earlier_cell (take c.put_where.new.at c.put_where.new.out) (cell layout p Y) (cell layout p Z ++ (cell layout p Intensity ++ (cell layout p ReturnNumber ++ (cell layout p NumberOfReturns ++ (cell layout p ScanDirectionFlag ++ (cell layout p EdgeOfFlightLine ++ (cell layout p Classification ++ (cell layout p Synthetic ++ (cell layout p KeyPoint ++ (cell layout p Withheld ++ [])))))))))) (take c.put_where-2.new.at c.put_where-2.new.out) (take c.put_byte_where-8.new.at c.put_byte_where-8.new.out) s1 t2 in
    earlier_cell (take c.args.at.now c.args.out.now) (cell layout p X) (cell layout p Y ++ (cell layout p Z ++ (cell layout p Intensity ++ (cell layout p ReturnNumber ++ (cell layout p NumberOfReturns ++ (cell layout p ScanDirectionFlag ++ (cell layout p EdgeOfFlightLine ++ (cell layout p Classification ++ (cell layout p Synthetic ++ (cell layout p KeyPoint ++ (cell layout p Withheld ++ []))))))))))) (take c.put_where.new.at c.put_where.new.out) (take c.put_byte_where-8.new.at c.put_byte_where-8.new.out) s0 t1

pub returns-clause-rest : goal.returns-clause-rest
returns-clause-rest c =
    let r0 = c.put_where.ensures.rest in
    let r1 = later_rest c.put_where.new.at c.put_where-2.new.at _ _ _ (omega (arith, c.put_where-2.ensures.at)) r0 c.put_where-2.ensures.rest in
    let r2 = later_rest c.put_where-2.new.at c.put_where-3.new.at _ _ _ (omega (arith, c.put_where-3.ensures.at)) r1 c.put_where-3.ensures.rest in
    let r3 = later_rest c.put_where-3.new.at c.put_where-4.new.at _ _ _ (omega (arith, c.put_where-4.ensures.at)) r2 c.put_where-4.ensures.rest in
    let r4 = later_rest c.put_where-4.new.at c.put_byte_where.new.at _ _ _ (omega (arith, c.put_byte_where.ensures.at)) r3 c.put_byte_where.ensures.rest in
    let r5 = later_rest c.put_byte_where.new.at c.put_byte_where-2.new.at _ _ _ (omega (arith, c.put_byte_where-2.ensures.at)) r4 c.put_byte_where-2.ensures.rest in
    let r6 = later_rest c.put_byte_where-2.new.at c.put_byte_where-3.new.at _ _ _ (omega (arith, c.put_byte_where-3.ensures.at)) r5 c.put_byte_where-3.ensures.rest in
    let r7 = later_rest c.put_byte_where-3.new.at c.put_byte_where-4.new.at _ _ _ (omega (arith, c.put_byte_where-4.ensures.at)) r6 c.put_byte_where-4.ensures.rest in
    let r8 = later_rest c.put_byte_where-4.new.at c.put_byte_where-5.new.at _ _ _ (omega (arith, c.put_byte_where-5.ensures.at)) r7 c.put_byte_where-5.ensures.rest in
    let r9 = later_rest c.put_byte_where-5.new.at c.put_byte_where-6.new.at _ _ _ (omega (arith, c.put_byte_where-6.ensures.at)) r8 c.put_byte_where-6.ensures.rest in
    let r10 = later_rest c.put_byte_where-6.new.at c.put_byte_where-7.new.at _ _ _ (omega (arith, c.put_byte_where-7.ensures.at)) r9 c.put_byte_where-7.ensures.rest in
    later_rest c.put_byte_where-7.new.at c.put_byte_where-8.new.at _ _ _ (omega (arith, c.put_byte_where-8.ensures.at)) r10 c.put_byte_where-8.ensures.rest
