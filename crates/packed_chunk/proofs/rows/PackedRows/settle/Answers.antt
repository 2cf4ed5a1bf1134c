use Rattle.std.proofs.Common.{◌≡◌, ℕ, ◌+◌, ◌-◌, ◌<◌, [], ◌∷◌, ◌++◌, length, get_or, set, drop, subst, ap, sym, ◌∙◌, arith, append_assoc, append-nil, length-append, refl}
use Rattle.std.proofs.lemmas.List.{drop_all, nil_from_length}
use Rattle.arrayvec.specs.ArrayVec.{ArrayVec}
use Rattle.cloud_points.specs.Points.{zero_point}
use Rattle.packed_chunk.specs.Held.{Held}
use Rattle.packed_chunk.specs.Places.{AreGoing}
use Rattle.packed_chunk.specs.Unpacked.{unpacked_at}
use Rattle.packed_chunk.proofs.Beginning.{each_unsettled, unsettled_apart, all_unsettled}
use Rattle.packed_chunk.proofs.Cycles.{Taken, Walks, Carries, fewer, walks_first, carries_first, source_is, walks_given, walks_on, carries_next, settled_last}
use Rattle.packed_chunk.proofs.Rounds.{turned, place_inside, its_point}
use Rattle.packed_chunk.proofs.Members.{In, Apart, in_at, in_mid, in_less}
use Rattle.packed_chunk.proofs.rows.PackedRows.settle.Goals as goal
use Rattle.packed_chunk.proofs.rows.PackedRows.settle.Goals.{then-source-start, then-source-start-via-then-source-start, then-source-start-via-else-source-start+then-source-end, else-source-start+else-source-end}

pub loop-free-init : goal.loop-free-init
loop-free-init c =
    let n = length c.args.self.now.points in
    let start = c.args.start in
    let old = c.args.sources.now in
    let is = c.take_in_hand-free.ensures.free in
    let count = c.args.end - start in
    let ends : start + count ≡ c.args.end = omega (arith, c.requires.ordered) in
    record {
      walks = walks_first n start c.args.end old c.requires.places c.take_in_hand-free.result.items c.requires.inside
          (λ k i. let t = each_unsettled old start count k (subst (In k) is i) in ((t.0.0, omega (arith, t.0.1, ends)), t.1))
          (subst Apart (sym is) (unsettled_apart old start count))
          (λ k t u. subst (In k) (sym is) (all_unsettled old start count k (t.0, omega (arith, t.1, ends)) u));
      carries = carries_first n start c.args.end old c.requires.places c.take_in_hand-free.result.items c.args.self.now.points refl;
      layout = refl;
      taken = c.take_in_hand-free.ensures.taken;
    }

pub prove-unreachable-requires : goal.prove-unreachable-requires
prove-unreachable-requires c =
    let s = c.loop-turn in
    let v = s.invariant in
    let low : s.turn < length c.deref.result.now = omega (arith, c.loop-turn-test.true, c.len-turn-end.ensures.value, ap length c.deref.ensures.0) in
    let inside = place_inside (length c.args.self.now.points) c.args.start c.args.end c.args.sources.now s.sources s.next.items c.loop-free.free.items c.deref.result.now s.turn c.deref.ensures.0 low v.walks in
    omega (arith, v.walks.each, inside, c.if-prove.true)

pub put_row-requires : goal.put_row-requires
put_row-requires c =
    let s = c.loop-turn in
    let v = s.invariant in
    let low : s.turn < length c.deref.result.now = omega (arith, c.loop-turn-test.true, c.len-turn-end.ensures.value, ap length c.deref.ensures.0) in
    omega (arith, v.carries.many, place_inside (length c.args.self.now.points) c.args.start c.args.end c.args.sources.now s.sources s.next.items c.loop-free.free.items c.deref.result.now s.turn c.deref.ensures.0 low v.walks)

pub take_sources-requires-clause-inside : goal.take_sources-requires-clause-inside
take_sources-requires-clause-inside c = λ i low. let v = c.loop-free.invariant in
    omega (arith, v.carries.many, v.walks.inside (get_or c.as_slice.result.now i 0) (subst (In (get_or c.as_slice.result.now i 0)) c.as_slice.ensures.value (in_at c.as_slice.result.now i low)))

pub loop-turn-preserved : goal.loop-turn-preserved
loop-turn-preserved c =
    let s = c.loop-turn in
    let v = s.invariant in
    let n = length c.args.self.now.points in
    let start = c.args.start in
    let end = c.args.end in
    let old = c.args.sources.now in
    let points = c.args.self.now.points in
    let read = c.deref.result.now in
    let is = c.deref.ensures.0 in
    let low : s.turn < length read = omega (arith, c.loop-turn-test.true, c.len-turn-end.ensures.value, ap length is) in
    let place = get_or read s.turn 0 in
    let rest = drop (s.turn + 1) read in
    let next = s.next.items in
    let places = c.requires.places in
    let now = s.sources in
    let w = turned (Walks n start end old now) next c.loop-free.free.items read s.turn is low v.walks in
    let carried = turned (λ xs. Carries n old now xs points s.self.points) next c.loop-free.free.items read s.turn is low v.carries in
    let from = get_or old place 0 in
    let from_is : get_or now place 0 ≡ from = source_is n start end old places next rest place now w in
    let less = fewer now place (omega (arith, w.each, w.inside place (in_mid place next rest))) (w.left place (in_mid place next rest)) in
    let o = c.loop-free.invariant in
    let layout = c.args.self.now.layout in
    let taken = c.loop-free.hands.taken in
    let going = c.take_sources.new.going in
    let free = c.loop-free.free.items in
    let goes = subst (λ l. AreGoing l start end c.loop-free.self.points c.loop-free.sources taken c.as_slice.result.now going) o.layout c.take_sources.ensures in
    let p = unpacked_at s.self.layout 0 (get_or going s.turn []) in
    let point : p ≡ get_or points from zero_point =
    ap (λ l. unpacked_at l 0 (get_or going s.turn [])) v.layout
    ∙ its_point n start end layout old c.loop-free.sources free c.as_slice.result.now points c.loop-free.self.points taken going s.turn places c.as_slice.ensures.value
    (omega (arith, low, ap length is)) o.walks o.carries o.taken goes
    ∙ ap (λ xs. get_or points (get_or old (get_or xs s.turn 0) 0) zero_point) (sym is) in
    let put = ap (λ (h : Held). h.points) c.put_row.ensures in
    let settled = set now place place in
    let layout_is = ap (λ (h : Held). h.layout) c.put_row.ensures ∙ v.layout in
    elim c.if-source-start.branch [
      | then-source-start b ↦
          let elsewhere : Taken start end from → ⊥ = λ t. elim b.then-source-start.branch [
            | then-source-start-via-then-source-start e ↦ omega (arith, from_is, t.0, e.if-source-start.true)
            | then-source-start-via-else-source-start+then-source-end e ↦ omega (arith, from_is, t.1, e.if-source-end.true)
          ] in
          let items : c.if-source-start.next.items ≡ next ++ from ∷ [] = ap (λ (a : ArrayVec ℕ). a.items) b.next-is ∙ b.push.ensures.items ∙ ap (λ k. next ++ k ∷ []) from_is in
          let same : next ++ from ∷ rest ≡ c.if-source-start.next.items ++ drop (s.turn + 1) free =
          sym (append_assoc next (from ∷ []) rest) ∙ (λ i. (sym items i) ++ drop (s.turn + 1) (is i)) in
          record {
            walks = subst (Walks n start end old settled) same (walks_on n start end old places next rest place now w elsewhere);
            carries = subst (λ ps. Carries n old settled (c.if-source-start.next.items ++ drop (s.turn + 1) free) points ps) (sym put)
                (subst (λ xs. Carries n old settled xs points (set s.self.points place p)) same
                (carries_next n start end old places next rest place now w points s.self.points carried (next ++ from ∷ rest) (λ k i. in_less k from next rest i) p point));
            layout = layout_is;
            few = omega (arith, v.few, ap length items, length-append next (from ∷ []));
            fewer = omega (arith, less, v.fewer);
          }
      | else-source-start+else-source-end b ↦
          let inside : Taken start end from = (omega (arith, from_is, b.if-source-start.false), omega (arith, from_is, b.if-source-end.false)) in
          let same : next ++ rest ≡ c.if-source-start.next.items ++ drop (s.turn + 1) free =
          λ i. (sym (ap (λ (a : ArrayVec ℕ). a.items) b.next-is) i) ++ drop (s.turn + 1) (is i) in
          record {
            walks = subst (Walks n start end old settled) same (walks_given n start end old places next rest place now w inside);
            carries = subst (λ ps. Carries n old settled (c.if-source-start.next.items ++ drop (s.turn + 1) free) points ps) (sym put)
                (subst (λ xs. Carries n old settled xs points (set s.self.points place p)) same
                (carries_next n start end old places next rest place now w points s.self.points carried (next ++ rest) (λ k i. i) p point));
            layout = layout_is;
            few = omega (arith, v.few, ap (λ (a : ArrayVec ℕ). length a.items) b.next-is);
            fewer = omega (arith, less, v.fewer);
          }
    ]

pub loop-free-preserved : goal.loop-free-preserved
loop-free-preserved c =
    let s = c.loop-turn in
    let v = s.invariant in
    let ends : drop s.turn c.loop-free.free.items ≡ [] = drop_all s.turn c.loop-free.free.items (omega (arith, c.loop-turn-test.false, c.len-turn-end.ensures.value)) in
    let is = ap (λ xs. s.next.items ++ xs) ends ∙ append-nil s.next.items in
    record {
      walks = subst (λ xs. Walks (length c.args.self.now.points) c.args.start c.args.end c.args.sources.now s.sources xs) is v.walks;
      carries = subst (λ xs. Carries (length c.args.self.now.points) c.args.sources.now s.sources xs c.args.self.now.points s.self.points) is v.carries;
      layout = v.layout;
      taken = c.loop-free.invariant.taken;
    }

pub returns-clause-settled : goal.returns-clause-settled
returns-clause-settled c =
    let s = c.loop-free in
    let v = s.invariant in
    let n = length c.args.self.now.points in
    let old = c.args.sources.now in
    let none : s.free.items ≡ [] = nil_from_length s.free.items (grind arith) in
    settled_last n c.args.start c.args.end old c.requires.places s.sources (subst (Walks n c.args.start c.args.end old s.sources) none v.walks)
    c.args.self.now.points s.self.points (subst (λ xs. Carries n old s.sources xs c.args.self.now.points s.self.points) none v.carries) refl
