use Rattle.std.proofs.Common.{◌≡◌, ℕ, suc, ◌+◌, ◌-◌, ◌<◌, [], ◌∷◌, ◌++◌, length, get_or, set, ⊎_elim, ap, sym, ◌∙◌, arith}
use Rattle.std.proofs.lemmas.Bool.{cases_eq}
use Rattle.std.proofs.lemmas.List.{length-set, get_or-set_same, get_or-set_other}
use Rattle.arrayvec.specs.ArrayVec.{ArrayVec}
use Rattle.cloud_points.specs.Points.{zero_point}
use Rattle.packed_chunk.specs.Places.{unsettled}
use Rattle.packed_chunk.specs.Unpacked.{unpacked_at}
use Rattle.packed_chunk.proofs.Beginning.{last_settled, last_unsettled, no_more}
use Rattle.packed_chunk.proofs.rows.PackedRows.take_in_hand.Goals as goal
use Rattle.packed_chunk.proofs.rows.PackedRows.take_in_hand.Goals.{then-sources-place, else-sources-place}

pub push-requires : goal.push-requires
push-requires c =
    let s = c.loop-place in
    let few = no_more c.args.sources.now c.args.start (s.place - c.args.start) in
    (omega arith, omega (arith, few, ap length s.invariant.free, s.invariant.begun, c.loop-place-test.true, c.requires.few))

pub loop-place-preserved : goal.loop-place-preserved
loop-place-preserved c =
    let s = c.loop-place in
    let v = s.invariant in
    let start = c.args.start in
    let sources = c.args.sources.now in
    let here : start + (s.place - start) ≡ s.place = omega (arith, v.begun) in
    let more : s.place + 1 - start ≡ suc (s.place - start) = omega (arith, v.begun) in
    elim c.if-sources-place.branch [
      | then-sources-place w ↦
          let k = s.place - start in
          let inside : k < length s.taken = omega (arith, v.room, v.begun, c.loop-place-test.true, c.requires.few) in
          record {
            begun = omega (arith, v.begun);
            room = ap length w.taken-is ∙ length-set s.taken k w.take_row.new.hand ∙ v.room;
            free = ap (λ (a : ArrayVec ℕ). a.items) w.free-is ∙ w.push.ensures.items ∙ ap (λ z. z ++ s.place ∷ []) v.free
                ∙ sym (last_unsettled sources start k s.place here w.if-sources-place.true) ∙ ap (unsettled sources start) (sym more);
            taken = λ j from to off. ap (λ z. unpacked_at c.args.self.now.layout 0 (get_or z (j - start) [])) w.taken-is
                ∙ ⊎_elim
                (λ q. ap (λ z. unpacked_at c.args.self.now.layout 0 (get_or (set s.taken k w.take_row.new.hand) (z - start) [])) q
                ∙ ap (unpacked_at c.args.self.now.layout 0) (get_or-set_same s.taken k w.take_row.new.hand [] inside) ∙ w.take_row.ensures
                ∙ ap (λ z. get_or c.args.self.now.points z zero_point) (sym q))
                (λ n. ap (unpacked_at c.args.self.now.layout 0) (get_or-set_other s.taken k (j - start) w.take_row.new.hand [] (λ e. n (omega (arith, e, from, v.begun))))
                ∙ v.taken j from (omega (arith, to, n)) off)
                (cases_eq j s.place);
          }
      | else-sources-place w ↦ record {
        begun = omega (arith, v.begun);
        room = ap length w.taken-is ∙ v.room;
        free = ap (λ (a : ArrayVec ℕ). a.items) w.free-is ∙ v.free ∙ sym (last_settled sources start (s.place - start) s.place here w.if-sources-place.false) ∙ ap (unsettled sources start) (sym more);
        taken = λ j from to off. ap (λ z. unpacked_at c.args.self.now.layout 0 (get_or z (j - start) [])) w.taken-is
            ∙ v.taken j from (⊎_elim (λ q. absurd (off (ap (λ z. get_or sources z 0) q ∙ w.if-sources-place.false ∙ sym q))) (λ n. omega (arith, to, n)) (cases_eq j s.place)) off;
      }
    ]
