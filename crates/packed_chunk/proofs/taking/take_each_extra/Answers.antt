use Rattle.std.proofs.Common.{◌≡◌, ◌+◌, ◌∷◌, [], ◌∙◌}
use Rattle.std.specs.Int.{w64, cast_signed}
use Rattle.std.proofs.lemmas.Int.{to_z-of_z}
use Rattle.cloud_points.specs.declared.dims.Dim.TheVariants.{Extra}
use Rattle.packed_chunk.specs.Rows.{size_where, size_in}
use Rattle.packed_chunk.specs.Unpacked.{number_where, number_in, numbers, with_extras}
use Rattle.packed_chunk.proofs.taking.take_each_extra.Goals as goal

pub returns-clause-p : goal.returns-clause-p
unfolding numbers with_extras
returns-clause-p c =
    let layout = c.args.layout.now in
    let bytes = c.args.row.now in
    let n0 : c.take_i64.result ≡ cast_signed w64 (number_in layout (Extra 0) (c.args.at.now) bytes) = c.take_i64.ensures.value ∙ (λ i. cast_signed w64 (number_where (c.has.ensures i) c.args.at.now 8 bytes)) in
    let a1 : c.take_i64.new.at ≡ (c.args.at.now + size_in layout (Extra 0)) = c.take_i64.ensures.at ∙ (λ i. c.args.at.now + size_where (c.has.ensures i) 8) in
    let n1 : c.take_i64-2.result ≡ cast_signed w64 (number_in layout (Extra 1) ((c.args.at.now + size_in layout (Extra 0))) bytes) = c.take_i64-2.ensures.value ∙ (λ i. cast_signed w64 (number_where (c.has-2.ensures i) (a1 i) 8 bytes)) in
    let a2 : c.take_i64-2.new.at ≡ ((c.args.at.now + size_in layout (Extra 0)) + size_in layout (Extra 1)) = c.take_i64-2.ensures.at ∙ (λ i. a1 i + size_where (c.has-2.ensures i) 8) in
    let n2 : c.take_i64-3.result ≡ cast_signed w64 (number_in layout (Extra 2) (((c.args.at.now + size_in layout (Extra 0)) + size_in layout (Extra 1))) bytes) = c.take_i64-3.ensures.value ∙ (λ i. cast_signed w64 (number_where (c.has-3.ensures i) (a2 i) 8 bytes)) in
    let a3 : c.take_i64-3.new.at ≡ (((c.args.at.now + size_in layout (Extra 0)) + size_in layout (Extra 1)) + size_in layout (Extra 2)) = c.take_i64-3.ensures.at ∙ (λ i. a2 i + size_where (c.has-3.ensures i) 8) in
    let n3 : c.take_i64-4.result ≡ cast_signed w64 (number_in layout (Extra 3) ((((c.args.at.now + size_in layout (Extra 0)) + size_in layout (Extra 1)) + size_in layout (Extra 2))) bytes) = c.take_i64-4.ensures.value ∙ (λ i. cast_signed w64 (number_where (c.has-4.ensures i) (a3 i) 8 bytes)) in
    let a4 : c.take_i64-4.new.at ≡ ((((c.args.at.now + size_in layout (Extra 0)) + size_in layout (Extra 1)) + size_in layout (Extra 2)) + size_in layout (Extra 3)) = c.take_i64-4.ensures.at ∙ (λ i. a3 i + size_where (c.has-4.ensures i) 8) in
    let n4 : c.take_i64-5.result ≡ cast_signed w64 (number_in layout (Extra 4) (((((c.args.at.now + size_in layout (Extra 0)) + size_in layout (Extra 1)) + size_in layout (Extra 2)) + size_in layout (Extra 3))) bytes) = c.take_i64-5.ensures.value ∙ (λ i. cast_signed w64 (number_where (c.has-5.ensures i) (a4 i) 8 bytes)) in
    let a5 : c.take_i64-5.new.at ≡ (((((c.args.at.now + size_in layout (Extra 0)) + size_in layout (Extra 1)) + size_in layout (Extra 2)) + size_in layout (Extra 3)) + size_in layout (Extra 4)) = c.take_i64-5.ensures.at ∙ (λ i. a4 i + size_where (c.has-5.ensures i) 8) in
    let n5 : c.take_i64-6.result ≡ cast_signed w64 (number_in layout (Extra 5) ((((((c.args.at.now + size_in layout (Extra 0)) + size_in layout (Extra 1)) + size_in layout (Extra 2)) + size_in layout (Extra 3)) + size_in layout (Extra 4))) bytes) = c.take_i64-6.ensures.value ∙ (λ i. cast_signed w64 (number_where (c.has-6.ensures i) (a5 i) 8 bytes)) in
    let a6 : c.take_i64-6.new.at ≡ ((((((c.args.at.now + size_in layout (Extra 0)) + size_in layout (Extra 1)) + size_in layout (Extra 2)) + size_in layout (Extra 3)) + size_in layout (Extra 4)) + size_in layout (Extra 5)) = c.take_i64-6.ensures.at ∙ (λ i. a5 i + size_where (c.has-6.ensures i) 8) in
    let n6 : c.take_i64-7.result ≡ cast_signed w64 (number_in layout (Extra 6) (((((((c.args.at.now + size_in layout (Extra 0)) + size_in layout (Extra 1)) + size_in layout (Extra 2)) + size_in layout (Extra 3)) + size_in layout (Extra 4)) + size_in layout (Extra 5))) bytes) = c.take_i64-7.ensures.value ∙ (λ i. cast_signed w64 (number_where (c.has-7.ensures i) (a6 i) 8 bytes)) in
    let a7 : c.take_i64-7.new.at ≡ (((((((c.args.at.now + size_in layout (Extra 0)) + size_in layout (Extra 1)) + size_in layout (Extra 2)) + size_in layout (Extra 3)) + size_in layout (Extra 4)) + size_in layout (Extra 5)) + size_in layout (Extra 6)) = c.take_i64-7.ensures.at ∙ (λ i. a6 i + size_where (c.has-7.ensures i) 8) in
    let n7 : c.take_i64-8.result ≡ cast_signed w64 (number_in layout (Extra 7) ((((((((c.args.at.now + size_in layout (Extra 0)) + size_in layout (Extra 1)) + size_in layout (Extra 2)) + size_in layout (Extra 3)) + size_in layout (Extra 4)) + size_in layout (Extra 5)) + size_in layout (Extra 6))) bytes) = c.take_i64-8.ensures.value ∙ (λ i. cast_signed w64 (number_where (c.has-8.ensures i) (a7 i) 8 bytes)) in
    let z0 = to_z-of_z w64 c.take_i64.result (record { sfits = c.take_i64.type_inv }) in
    let z1 = to_z-of_z w64 c.take_i64-2.result (record { sfits = c.take_i64-2.type_inv }) in
    let z2 = to_z-of_z w64 c.take_i64-3.result (record { sfits = c.take_i64-3.type_inv }) in
    let z3 = to_z-of_z w64 c.take_i64-4.result (record { sfits = c.take_i64-4.type_inv }) in
    let z4 = to_z-of_z w64 c.take_i64-5.result (record { sfits = c.take_i64-5.type_inv }) in
    let z5 = to_z-of_z w64 c.take_i64-6.result (record { sfits = c.take_i64-6.type_inv }) in
    let z6 = to_z-of_z w64 c.take_i64-7.result (record { sfits = c.take_i64-7.type_inv }) in
    let z7 = to_z-of_z w64 c.take_i64-8.result (record { sfits = c.take_i64-8.type_inv }) in
    (λ i. record c.args.p.now { extra = z0 i ∷ z1 i ∷ z2 i ∷ z3 i ∷ z4 i ∷ z5 i ∷ z6 i ∷ z7 i ∷ [] })
    ∙ (λ i. record c.args.p.now { extra = n0 i ∷ n1 i ∷ n2 i ∷ n3 i ∷ n4 i ∷ n5 i ∷ n6 i ∷ n7 i ∷ [] })
