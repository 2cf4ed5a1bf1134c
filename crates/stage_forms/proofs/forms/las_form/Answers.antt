use Rattle.std.proofs.Common.{◌<◌, [], ◌∷◌, ◌++◌, Some, length, take, get_or, refl, ap, sym, subst, ◌∙◌, arith}
use Rattle.std.proofs.lemmas.List.{take_more}
use Rattle.std.proofs.lemmas.Option.{slice_get_read}
use Rattle.forward_rules.specs.Forwarded.{read_file}
use Rattle.forward_rules.specs.States.{forwarding_of}
use Rattle.forward_rules.specs.Options.{AreGoodOptions}
use Rattle.las_writer.specs.LasOutput.{IsForm}
use Rattle.las_writer.proofs.Taken.{forms_are_taken}
use Rattle.stage_forms.specs.Below.{reads_in}
use Rattle.stage_forms.proofs.Files.{reads-more, reads-same, good-reads}
use Rattle.stage_forms.proofs.forms.las_form.Goals as goal
use Rattle.stage_forms.proofs.forms.las_form.Goals.{in-Some+in_ok-add, in_default}

pub loop-number-preserved : goal.loop-number-preserved
loop-number-preserved g c =
    let readers = c.args.readers.now in
    let below = c.args.below.now in
    let k = c.loop-number.number-index in
    let lt : k < length below = (let a = c.loop-number-test.true in omega (arith, a)) in
    let j = get_or below k 0 in
    let at = slice_get_read readers (length readers) j c.index-readers-number.result refl (c.requires.inside k 0 lt) c.index-readers-number.is in
    let fields = c.args.fields.now in
    let done = take k below in
    let one_more = ap (λ js. forwarding_of fields (reads_in readers js)) (sym (take_more below k 0 lt)) in
    elim c.match-readers-number.branch [
      | in-Some+in_ok-add w ↦ (
          let r = w.in-Some.reader in
          let read = ap (λ h. read_file h w.vlrs.result.now w.evlrs.result.now) w.header.ensures.value ∙ ap (λ v. read_file r.header v w.evlrs.result.now) w.vlrs.ensures.value ∙ ap (read_file r.header r.vlrs) w.evlrs.ensures.value in
          w.forwarding-is ∙ w.in_ok-add.ensures.ok fields (reads_in readers done) c.loop-number.invariant ∙ ap (λ f. forwarding_of fields (reads_in readers done ++ f ∷ [])) read
          ∙ ap (forwarding_of fields) (sym (reads-more readers done j r (at ∙ ap Some w.in-Some.is))) ∙ one_more)
      | in_default w ↦ w.forwarding-is ∙ c.loop-number.invariant ∙ ap (forwarding_of fields) (sym (reads-same readers done j (at ∙ ap Some w.in_default.is))) ∙ one_more
    ]

pub with_fields-requires-clause-form : goal.with_fields-requires-clause-form
with_fields-requires-clause-form g c =
    let reads = reads_in c.args.readers.now (take c.loop-number.number-index c.args.below.now) in
    let good = subst AreGoodOptions c.as_options.ensures.fields c.as_options.ensures.bounded in
    subst IsForm (sym (c.form-form.ensures c.args.fields.now reads c.loop-number.invariant))
    (forms_are_taken c.args.fields.now reads good (good-reads c.args.readers.now (take c.loop-number.number-index c.args.below.now)))
