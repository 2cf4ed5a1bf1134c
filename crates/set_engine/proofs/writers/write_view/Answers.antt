use Rattle.std.proofs.Common.{◌≡◌, ◌<◌, ◌+◌, ◌++◌, ◌∷◌, [], length, take, get_or, true, refl, ap, sym, subst, ◌∙◌, arith, append_assoc}
use Rattle.std.proofs.lemmas.List.{take_more}
use Rattle.std.proofs.lemmas.Option.{get_or_from_slice_get}
use Rattle.cloud_points.specs.Queue.{up_to_limit}
use Rattle.cloud_points.specs.declared.point.Point.{Point}
use Rattle.stage_kinds.specs.Files.{chosen, count_of}
use Rattle.stage_kinds.specs.Stages.{holds_chosen, only_of, why_not, writes_of}
use Rattle.stage_kinds.specs.Takes.{IsUntaken}
use Rattle.set_engine.proofs.Firsts.{refused_here, taken_more, written_more}
use Rattle.set_engine.proofs.writers.write_view.Goals as goal

pub returns-in-Err-Refused-clause-err : goal.returns-in-Err-Refused-clause-err
returns-in-Err-Refused-clause-err g c =
    let i = c.loop-k.k in
    let view = c.args.view.now in
    let w = c.loop-k.writer in
    let p = c.get.result in
    let now = c.loop-k.invariant in
    let lt : i < length view = (let test = c.loop-k-test.true in let size = c.len-k-end.ensures in omega (arith, test, size)) in
    let here : get_or view i p ≡ p = get_or_from_slice_get view i p p c.get.ensures in
    rw c.in-Err-Refused.field-0-is (λ k begun. refused_here (writes_of c.args.writer.now) (writes_of w) k _ view i i c.args.before c.loop-k.number p c.in-Err-Refused.field-0 c.in-Err-Refused.reason
    lt refl now.number now.form (now.none k begun) (now.count k begun)
    (subst (λ (q : Point). IsUntaken (why_not (writes_of w) (count_of w.file) q) c.in-Err-Refused.field-0) (sym here) c.in-Err-Refused.ensures.err) c.in-Err-Refused.field-0-is)

pub loop-k-preserved : goal.loop-k-preserved
loop-k-preserved g c =
    let i = c.loop-k.k in
    let view = c.args.view.now in
    let w = c.loop-k.writer in
    let p = c.get.result in
    let now = c.loop-k.invariant in
    let x = writes_of c.args.writer.now in
    let lt : i < length view = (let test = c.loop-k-test.true in let size = c.len-k-end.ensures in omega (arith, test, size)) in
    let here : get_or view i p ≡ p = get_or_from_slice_get view i p p c.get.ensures in
    record {
      number = (let a = c.saturating_add-number.ensures in let b = now.number in omega (arith, a, b));
      form = c.take.ensures.form ∙ now.form;
      none = λ k begun. taken_more x (writes_of w) k (count_of w.file) view i p lt now.form (now.none k begun) (now.count k begun)
          (ap (λ (q : Point). why_not (writes_of w) (count_of w.file) q) here ∙ c.in-Ok.ensures.ok);
      count = λ k begun. written_more x (writes_of w) k (count_of w.file) _ view i p lt now.form (now.count k begun)
          (c.in-Ok.ensures.count ∙ ap (λ (q : Point). up_to_limit (count_of w.file + length (chosen (only_of w) (q ∷ [])))) (sym here));
      holds = λ earlier held. subst (λ ps. holds_chosen g.K.Sink.bytes c.take.new.self ps ≡ true)
          (append_assoc earlier (take i view) (p ∷ [])
          ∙ ap (λ ps. earlier ++ ps) (ap (λ (q : Point). take i view ++ q ∷ []) (sym here) ∙ sym (take_more view i p lt)))
          (c.in-Ok.ensures.holds (earlier ++ take i view) (now.holds earlier held));
      calm = c.in-Ok.ensures.calm (λ e. cc) ∙ now.calm;
    }
