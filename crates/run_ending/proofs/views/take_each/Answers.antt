use Rattle.std.proofs.Common.{◌≡◌, ◌<◌, ◌+◌, ◌∙◌, ◌++◌, length, slice_get, refl, ap, sym, arith, map, drop}
use Rattle.std.proofs.lemmas.Option.{slice_get_read}
use Rattle.stage_kinds.specs.Held.{faults_of}
use Rattle.held_devices.proofs.Lists.{each-push}
use Rattle.run_ending.specs.declared.views.EachStage.{EachStage}
use Rattle.run_ending.specs.Each.{kept_from, shown_each}
use Rattle.run_ending.proofs.Finished.{later-more, left-more}
use Rattle.run_ending.proofs.Taking.{all-taken, none-taken, one-taken, others-more}
use Rattle.run_ending.proofs.views.take_each.Goals as goal

pub loop-i-preserved-in_default : goal.loop-i-preserved-in_default
loop-i-preserved-in_default g c =
    let now = c.loop-i.invariant in
    let old = c.args.works.now.items in
    let lt : c.loop-i.i < length c.loop-i.works.items = (let a = c.len-i-end.ensures in let b = c.loop-i-test.true in let d = now.later.count in omega (arith, a, b, d)) in
    let v = c.index_mut.result.now in
    let w = c.take_files.new.work in
    let here = slice_get_read c.loop-i.works.items (length c.loop-i.works.items) c.loop-i.i v refl lt c.index_mut.ensures.value in
    let was = sym (now.left c.loop-i.i (omega arith)) ∙ here in
    let faults = faults_of g.S.Source.faults g.K.Sink.faults in
    let same = c.take_files.ensures.faults in
    record {
      kept = none-taken old c.loop-i.i v was c.loop-i.each.items now.kept c.take_files.result c.take_files.ensures.kept c.in_default.is;
      inside = now.inside;
      others = others-more old c.loop-i.works.items c.loop-i.i v w was here c.take_files.result c.take_files.ensures.kept c.take_files.ensures.same now.others;
      later = later-more g.P.PlugFilter g.Q.PlugTally faults old c.loop-i.works.items c.loop-i.i v w now.later here c.take_files.ensures.op (omega (arith, same)) c.take_files.ensures.holds;
      left = left-more g.P.PlugFilter g.Q.PlugTally faults old c.loop-i.works.items c.loop-i.i v w now.later here c.take_files.ensures.op (omega (arith, same)) c.take_files.ensures.holds (c.loop-i.i + 1) (omega arith) now.left;
    }

pub loop-i-preserved : goal.loop-i-preserved
loop-i-preserved g c =
    let now = c.loop-i.invariant in
    let old = c.args.works.now.items in
    let lt : c.loop-i.i < length c.loop-i.works.items = (let a = c.len-i-end.ensures in let b = c.loop-i-test.true in let d = now.later.count in omega (arith, a, b, d)) in
    let v = c.index_mut.result.now in
    let w = c.take_files.new.work in
    let here = slice_get_read c.loop-i.works.items (length c.loop-i.works.items) c.loop-i.i v refl lt c.index_mut.ensures.value in
    let was = sym (now.left c.loop-i.i (omega arith)) ∙ here in
    let faults = faults_of g.S.Source.faults g.K.Sink.faults in
    let same = c.take_files.ensures.faults in
    let one : EachStage = record { stage = c.loop-i.i; files = c.in-Some.files } in
    let pushed = c.in_ok-push.ensures.items in
    record {
      kept = ap (λ es. map shown_each es ++ kept_from (c.loop-i.i + 1) (drop (c.loop-i.i + 1) old)) pushed
          ∙ one-taken old c.loop-i.i v was c.loop-i.each.items now.kept c.take_files.result c.take_files.ensures.kept one refl c.in-Some.is;
      inside = λ k e at. each-push (λ j d. d.stage < length old) c.loop-i.each.items one (length c.loop-i.each.items) refl now.inside (let d = now.later.count in omega (arith, lt, d)) k e (ap (λ es. slice_get es k) (sym pushed) ∙ at);
      others = others-more old c.loop-i.works.items c.loop-i.i v w was here c.take_files.result c.take_files.ensures.kept c.take_files.ensures.same now.others;
      later = later-more g.P.PlugFilter g.Q.PlugTally faults old c.loop-i.works.items c.loop-i.i v w now.later here c.take_files.ensures.op (omega (arith, same)) c.take_files.ensures.holds;
      left = left-more g.P.PlugFilter g.Q.PlugTally faults old c.loop-i.works.items c.loop-i.i v w now.later here c.take_files.ensures.op (omega (arith, same)) c.take_files.ensures.holds (c.loop-i.i + 1) (omega arith) now.left;
    }

pub returns-in_err-push-clause-others : goal.returns-in_err-push-clause-others
returns-in_err-push-clause-others g c =
    let now = c.loop-i.invariant in
    let lt : c.loop-i.i < length c.loop-i.works.items = (let a = c.len-i-end.ensures in let b = c.loop-i-test.true in let d = now.later.count in omega (arith, a, b, d)) in
    let here = slice_get_read c.loop-i.works.items (length c.loop-i.works.items) c.loop-i.i c.index_mut.result.now refl lt c.index_mut.ensures.value in
    others-more c.args.works.now.items c.loop-i.works.items c.loop-i.i c.index_mut.result.now c.take_files.new.work (sym (now.left c.loop-i.i (omega arith)) ∙ here) here c.take_files.result
    c.take_files.ensures.kept c.take_files.ensures.same now.others

pub returns-in_err-push-clause-later : goal.returns-in_err-push-clause-later
returns-in_err-push-clause-later g c =
    let now = c.loop-i.invariant in
    let lt : c.loop-i.i < length c.loop-i.works.items = (let a = c.len-i-end.ensures in let b = c.loop-i-test.true in let d = now.later.count in omega (arith, a, b, d)) in
    let here = slice_get_read c.loop-i.works.items (length c.loop-i.works.items) c.loop-i.i c.index_mut.result.now refl lt c.index_mut.ensures.value in
    let same = c.take_files.ensures.faults in
    later-more g.P.PlugFilter g.Q.PlugTally (faults_of g.S.Source.faults g.K.Sink.faults) c.args.works.now.items c.loop-i.works.items c.loop-i.i c.index_mut.result.now c.take_files.new.work now.later here
    c.take_files.ensures.op (omega (arith, same)) c.take_files.ensures.holds

pub returns-clause-kept : goal.returns-clause-kept
returns-clause-kept g c =
    let all : c.loop-i.i ≡ length c.args.works.now.items = (let a = c.len-i-end.ensures in let b = c.loop-i-test.false in let d = c.loop-i.auto.i-end in omega (arith, a, b, d)) in
    all-taken c.args.works.now.items c.loop-i.i c.loop-i.each.items all c.loop-i.invariant.kept
