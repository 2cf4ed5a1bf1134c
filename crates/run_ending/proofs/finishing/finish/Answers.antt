use Rattle.std.proofs.Common.{◌≡◌, ◌<◌, ◌+◌, ◌∙◌, length, refl, sym, subst, arith}
use Rattle.std.proofs.lemmas.Option.{slice_get_read, slice_get_within, same_Some}
use Rattle.stage_kinds.specs.Held.{faults_of}
use Rattle.run_ending.specs.Finished.{IsFinished}
use Rattle.run_ending.proofs.Finished.{later-more, kept-more, others-more, finished-more, left-more, unfinished-here}
use Rattle.run_ending.proofs.finishing.finish.Goals as goal

pub loop-i-preserved : goal.loop-i-preserved
loop-i-preserved g c =
    let now = c.loop-i.invariant in
    let lt : c.loop-i.i < length c.loop-i.works.items = (let a = c.len-i-end.ensures in let b = now.later.count in omega (arith, a, b)) in
    let v = c.index_mut.result.now in
    let here = slice_get_read c.loop-i.works.items (length c.loop-i.works.items) c.loop-i.i v refl lt c.index_mut.ensures.value in
    let was = sym (now.left c.loop-i.i (omega arith)) ∙ here in
    let bytes = g.K.Sink.bytes in
    let faults = faults_of g.S.Source.faults g.K.Sink.faults in
    record {
      later = later-more g.P.PlugFilter g.Q.PlugTally faults c.args.works.items c.loop-i.works.items c.loop-i.i v c.finish.new.self now.later here c.finish.ensures.op c.finish.ensures.cause.later c.finish.ensures.handed;
      kept = kept-more g.P.PlugFilter g.Q.PlugTally faults c.args.works.items c.loop-i.works.items c.loop-i.i v c.finish.new.self now.later here c.finish.ensures.op c.finish.ensures.cause.later c.finish.ensures.handed c.finish.ensures.keeps now.kept;
      others = others-more g.P.PlugFilter g.Q.PlugTally faults c.args.works.items c.loop-i.works.items c.loop-i.i v c.finish.new.self now.later here c.finish.ensures.op c.finish.ensures.cause.later c.finish.ensures.handed
          c.finish.ensures.others now.others;
      finished = finished-more g.P.PlugFilter g.Q.PlugTally faults c.args.works.items c.loop-i.works.items c.loop-i.i v c.finish.new.self now.later here c.finish.ensures.op c.finish.ensures.cause.later c.finish.ensures.handed
          (IsFinished bytes) 0 now.finished (λ a e. subst (λ x. IsFinished bytes x c.finish.new.self) (same_Some v a (sym was ∙ e))
          (λ form ps h. c.in-Ok.ensures.file form ps h.is h.holds h.nowhere));
      calm = finished-more g.P.PlugFilter g.Q.PlugTally faults c.args.works.items c.loop-i.works.items c.loop-i.i v c.finish.new.self now.later here c.finish.ensures.op c.finish.ensures.cause.later c.finish.ensures.handed
          (λ a b. faults b ≡ faults a) 0 now.calm (λ a e. subst (λ x. faults c.finish.new.self ≡ faults x) (same_Some v a (sym was ∙ e)) c.in-Ok.ensures.cause.calm);
      left = left-more g.P.PlugFilter g.Q.PlugTally faults c.args.works.items c.loop-i.works.items c.loop-i.i v c.finish.new.self now.later here c.finish.ensures.op c.finish.ensures.cause.later c.finish.ensures.handed
          (c.loop-i.i + 1) (omega arith) now.left;
    }

pub returns-in-Err-clause-later : goal.returns-in-Err-clause-later
returns-in-Err-clause-later g c =
    let now = c.loop-i.invariant in
    let lt : c.loop-i.i < length c.loop-i.works.items = (let a = c.len-i-end.ensures in let b = now.later.count in omega (arith, a, b)) in
    let here = slice_get_read c.loop-i.works.items (length c.loop-i.works.items) c.loop-i.i c.index_mut.result.now refl lt c.index_mut.ensures.value in
    later-more g.P.PlugFilter g.Q.PlugTally (faults_of g.S.Source.faults g.K.Sink.faults) c.args.works.items c.loop-i.works.items c.loop-i.i c.index_mut.result.now c.finish.new.self now.later here c.finish.ensures.op c.finish.ensures.cause.later c.finish.ensures.handed

pub returns-in-Err-clause-kept : goal.returns-in-Err-clause-kept
returns-in-Err-clause-kept g c =
    let now = c.loop-i.invariant in
    let lt : c.loop-i.i < length c.loop-i.works.items = (let a = c.len-i-end.ensures in let b = now.later.count in omega (arith, a, b)) in
    let here = slice_get_read c.loop-i.works.items (length c.loop-i.works.items) c.loop-i.i c.index_mut.result.now refl lt c.index_mut.ensures.value in
    kept-more g.P.PlugFilter g.Q.PlugTally (faults_of g.S.Source.faults g.K.Sink.faults) c.args.works.items c.loop-i.works.items c.loop-i.i c.index_mut.result.now c.finish.new.self now.later here c.finish.ensures.op c.finish.ensures.cause.later c.finish.ensures.handed
    c.finish.ensures.keeps now.kept

pub returns-in-Err-clause-others : goal.returns-in-Err-clause-others
returns-in-Err-clause-others g c =
    let now = c.loop-i.invariant in
    let lt : c.loop-i.i < length c.loop-i.works.items = (let a = c.len-i-end.ensures in let b = now.later.count in omega (arith, a, b)) in
    let here = slice_get_read c.loop-i.works.items (length c.loop-i.works.items) c.loop-i.i c.index_mut.result.now refl lt c.index_mut.ensures.value in
    others-more g.P.PlugFilter g.Q.PlugTally (faults_of g.S.Source.faults g.K.Sink.faults) c.args.works.items c.loop-i.works.items c.loop-i.i c.index_mut.result.now c.finish.new.self now.later here c.finish.ensures.op c.finish.ensures.cause.later c.finish.ensures.handed
    c.finish.ensures.others now.others

pub returns-in-Err-clause-err : goal.returns-in-Err-clause-err
returns-in-Err-clause-err g c =
    let now = c.loop-i.invariant in
    let lt : c.loop-i.i < length c.loop-i.works.items = (let a = c.len-i-end.ensures in let b = now.later.count in omega (arith, a, b)) in
    let v = c.index_mut.result.now in
    let here = slice_get_read c.loop-i.works.items (length c.loop-i.works.items) c.loop-i.i v refl lt c.index_mut.ensures.value in
    let was = sym (now.left c.loop-i.i (omega arith)) ∙ here in
    unfinished-here g.P.PlugFilter g.Q.PlugTally (faults_of g.S.Source.faults g.K.Sink.faults) c.args.works.items c.loop-i.works.items c.loop-i.i v c.finish.new.self now.later here c.finish.ensures.op c.finish.ensures.cause.later c.finish.ensures.handed
    c.in-Err.op was c.in-Err.ensures.named c.in-Err.ensures.cause.failed now.calm

pub returns-clause-finished : goal.returns-clause-finished
returns-clause-finished g c = λ x v w e f.
    let inside = slice_get_within c.args.works.items x v e in
    let a = c.len-i-end.ensures in
    c.loop-i.invariant.finished x v w (omega (arith, inside, a)) e f
