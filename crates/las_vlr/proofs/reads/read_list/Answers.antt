use Rattle.std.proofs.Common.{◌≡◌, ◌+◌, ◌≤◌, ◌++◌, ◌∷◌, [], Ok, length, rules, arith, subst, ◌∙◌, ap, sym}
use Rattle.std.proofs.lemmas.Result.{err_from_is_err_and}
use Rattle.las_vlr.specs.Limits.{IsOf, AreHeld}
use Rattle.las_vlr.proofs.Readings.{reading_more, reading_done, reading_refused, reading_held, list_is, list_refused}
use Rattle.las_vlr.proofs.reads.read_list.Goals as goal

pub returns-in_err-vlr-clause-fault : goal.returns-in_err-vlr-clause-fault
returns-in_err-vlr-clause-fault g c =
    let p = err_from_is_err_and c.from_residual.result c.from_residual.ensures.1 in
    rw (p.1, p.2) (λ file e.
    list_refused c.args.kind c.args.count c.args.start file _ c.if-count-gt-MOST_VLRS.false
    (reading_refused c.args.kind c.args.count c.args.start c.loop-number.number c.loop-number.at c.loop-number.before _ _ _ _ _ _ c.loop-number.vlrs.items file c.in_err-vlr.field-0.0 c.loop-number-test.true e
    (c.in_err-vlr.ensures.fault file (c.loop-number.invariant.same ∙ e)) c.loop-number.invariant))

pub loop-number-preserved : goal.loop-number-preserved
loop-number-preserved g c =
    let pushed : c.push.new.self.items ≡ c.loop-number.vlrs.items ++ c.in_ok-vlr.vlr ∷ [] = search rules in
    let size : length c.as_slice.result.now ≡ length c.in_ok-vlr.vlr.payload = ap length c.as_slice.ensures in
    let room : c.loop-number.before + length c.as_slice.result.now ≤ 16777216 = rw size c.in_ok-vlr.ensures.room in
    rw (pushed, c.head_size.ensures)
    (reading_more c.args.kind c.args.count c.args.start c.loop-number.number c.loop-number.at c.loop-number.before (length c.as_slice.result.now) _ _ _ _ _ _ _ _ _ c.loop-number.vlrs.items c.in_ok-vlr.vlr c.loop-number-test.true
    c.in_ok-vlr.ensures.same c.in_ok-vlr.ensures.calm c.in_ok-vlr.ensures.in_front room size c.in_ok-vlr.ensures.held c.in_ok-vlr.ensures.whole c.in_ok-vlr.ensures.entry (λ file e. size ∙ c.in_ok-vlr.ensures.size file e) c.loop-number.invariant)

pub returns-clause-ok : goal.returns-clause-ok
returns-clause-ok g c = λ file e.
    list_is c.args.kind c.args.count c.args.start file c.new.result c.if-count-gt-MOST_VLRS.false
    (reading_done c.args.kind c.args.count c.args.start c.loop-number.number c.loop-number.at c.loop-number.before _ _ _ _ _ _ c.loop-number.vlrs.items file c.loop-number-test.false e c.loop-number.invariant ∙ ap (λ vlrs. Ok vlrs) (sym c.new.ensures))

pub returns-clause-count : goal.returns-clause-count
returns-clause-count g c =
    let h = reading_held c.args.kind c.args.count c.args.start c.loop-number.number c.loop-number.at c.loop-number.before _ _ _ _ _ _ c.loop-number.vlrs.items (omega arith) c.loop-number-test.false c.if-count-gt-MOST_VLRS.false c.loop-number.invariant in
    ap length c.new.ensures ∙ h.0

pub returns-clause-held : goal.returns-clause-held
returns-clause-held g c =
    let h = reading_held c.args.kind c.args.count c.args.start c.loop-number.number c.loop-number.at c.loop-number.before _ _ _ _ _ _ c.loop-number.vlrs.items (omega arith) c.loop-number-test.false c.if-count-gt-MOST_VLRS.false c.loop-number.invariant in
    subst (λ vlrs. AreHeld (IsOf c.args.kind) vlrs) (sym c.new.ensures) h.1
