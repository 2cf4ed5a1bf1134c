use Rattle.std.proofs.Common.{◌≡◌, ◌||◌, ◌<◌, ℕ, List, Option, None, All, length, Err, IfErr, refl, ap, sym, subst, ◌∙◌, arith}
use Rattle.std.specs.Prelude.{slice_get, slice_index_or}
use Rattle.std.proofs.lemmas.Result.{err_from_is_err_and}
use Rattle.std.proofs.lemmas.Option.{get_or_from_slice_get, slice_get_read}
use Rattle.stage_kinds.specs.declared.file_form.StageForm.{StageForm}
use Rattle.answer_model.proofs.Values.{tree-down}
use Rattle.answer_model.specs.Values.{Opened, dims_at, fields_at, fields_past, found_at, gives_dim, names_at, names_past, options_at, reads_at, setting_at, unbound}
use Rattle.answer_model.specs.Rows.{Setting}
use Rattle.cloud_points.specs.declared.extra.ExtraField.{ExtraField}
use Rattle.las_reader.specs.declared.reader.LasReader.{LasReader}
use Rattle.plug_stages.specs.Handed.{Handed}
use Rattle.stage_options.specs.Roles.{is_reading}
use Rattle.stage_options.specs.declared.options.Options.{Options}
use Rattle.stage_options.specs.declared.stage.StageSpec.{StageSpec}
use Rattle.stage_forms.specs.Below.{AreBelow, AreInside, HaveReaders, IsBelow, StandsBelow, found_of, reads_in}
use Rattle.stage_forms.specs.declared.below.Below.{Below}
use Rattle.stage_forms.proofs.Joined.{behind-stage}
use Rattle.cloud_points.specs.Layouts.{holds}
use Rattle.cloud_points.specs.declared.dims.Dim.{Dim}
use Rattle.cloud_points.specs.declared.layout.Layout.{Layout}
use Rattle.stage_forms.specs.Starts.{form_for}
use Rattle.run_opening.specs.Begun.{IsFine, IsForm, IsUnbound}
use Rattle.held_devices.proofs.Lists.{each-push}
use Rattle.run_outcome.proofs.Stages.{stage-is, role-is}
use Rattle.run_opening.proofs.Binding.{bound-is, dims-are, found-is, names-more, more-bound, unbound-here}
use Rattle.run_opening.proofs.bind.bind_stages.Goals as goal

pub next_below-requires-clause-next : goal.next_below-requires-clause-next
next_below-requires-clause-next g c =
    let a = c.as_slice.ensures.len in
    let n = c.loop-i.invariant.belows_count in
    let lt = c.loop-i-test.true in
    omega (arith, a, n, lt)

pub next_below-requires-clause-behind : goal.next_below-requires-clause-behind
next_below-requires-clause-behind g c = subst (AreBelow c.args.stages.now c.args.readers.now) (sym c.as_slice.ensures.value) c.loop-i.invariant.below

pub next_below-requires-clause-inside : goal.next_below-requires-clause-inside
next_below-requires-clause-inside g c = subst (AreInside (length c.args.readers.now)) (sym c.as_slice.ensures.value) c.loop-i.invariant.inside

pub bind_stage-requires-clause-fit : goal.bind_stage-requires-clause-fit
bind_stage-requires-clause-fit g c =
    let stages = c.args.stages.now in
    let readers = c.args.readers.now in
    let i = c.loop-i.i in
    let lt : i < length stages = c.loop-i-test.true in
    let stage = c.index-stages-i.result in
    let at = slice_get_read stages (length stages) i stage refl lt c.index-stages-i.is in
    let reader = c.index-readers-i.result in
    let reader-at = slice_get_read readers (length readers) i reader refl (let n = c.requires.count in omega (arith, lt, n)) c.index-readers-i.is in
    c.requires.fit i reader reader-at ∙ ap is_reading (sym (role-is stages i stage at))

pub returns-in_err-form-clause-err : goal.returns-in_err-form-clause-err
returns-in_err-form-clause-err g c =
    let now = c.loop-i.invariant in
    let stages = c.args.stages.now in
    let readers = c.args.readers.now in
    let i = c.loop-i.i in
    let lt : i < length stages = c.loop-i-test.true in
    let stage = c.index-stages-i.result in
    let at = slice_get_read stages (length stages) i stage refl lt c.index-stages-i.is in
    let reader = c.index-readers-i.result in
    let reader-at = slice_get_read readers (length readers) i reader refl (let n = c.requires.count in omega (arith, lt, n)) c.index-readers-i.is in
    let o = ap (λ (s : StageSpec). s.options) (stage-is stages i stage at) in
    let below = c.in-Ok-next_below.below in
    let as_many : length c.as_slice.result.now ≡ i = c.as_slice.ensures.len ∙ now.belows_count in
    let stands = subst (λ k. StandsBelow stages readers k below) as_many c.in-Ok-next_below.ensures.below in
    let refusal = c.in_err-form.field-0.0 in
    let p = err_from_is_err_and c.from_residual.result c.from_residual.ensures.1 in
    let same : p.0 ≡ refusal = p.2 in
    let refused : c.from_residual.result ≡ Err refusal = p.1 ∙ ap Err same in
    subst (λ r. IfErr r (IsUnbound stages readers)) (sym refused)
    (unbound-here stages readers i (unbound i c.loop-i.names (holds below.layout) stage.options (found_of stage.options reader)) refusal lt now.bound
    (λ opened have. ap (λ p. unbound i c.loop-i.names (holds below.layout) p (found_of p reader)) (sym o)
    ∙ ap (unbound i c.loop-i.names (holds below.layout) (options_at stages i)) (found-is stages readers opened c.requires.fit have i reader reader-at)
    ∙ ap (λ n. unbound i n (holds below.layout) (options_at stages i) (found_at stages opened i)) (now.names opened have) ∙ bound-is stages readers opened i below (stands opened have))
    c.in_err-form.ensures.err)

-- where a stage stands, by what stands below it
abbrev at-setting : {S : Type 0} → Handed → List (Option (LasReader S)) → Below → List (List ℕ) → Options → List ExtraField → Setting
at-setting handed readers below names o found = record { names = names; reads = reads_in readers below.readers.items; dims = holds below.layout; fields = fields_past names o found; handed = handed }

pub loop-i-preserved : goal.loop-i-preserved
loop-i-preserved g c =
    let now = c.loop-i.invariant in
    let stages = c.args.stages.now in
    let readers = c.args.readers.now in
    let i = c.loop-i.i in
    let lt : i < length stages = c.loop-i-test.true in
    let stage = c.index-stages-i.result in
    let at = slice_get_read stages (length stages) i stage refl lt c.index-stages-i.is in
    let reader = c.index-readers-i.result in
    let reader-at = slice_get_read readers (length readers) i reader refl (let n = c.requires.count in omega (arith, lt, n)) c.index-readers-i.is in
    let o = ap (λ (s : StageSpec). s.options) (stage-is stages i stage at) in
    let below = c.in-Ok-next_below.below in
    let after = c.bind_stage.new.below in
    let done = c.in_ok-form.ensures in
    let form = c.in_ok-form.form in
    let as_many : length c.as_slice.result.now ≡ i = c.as_slice.ensures.len ∙ now.belows_count in
    let stands = subst (λ k. StandsBelow stages readers k below) as_many c.in-Ok-next_below.ensures.below in
    let size : i ≡ length c.loop-i.forms.items = (let a = now.count in let k = c.loop-i.forms.ok in omega (arith, a, k)) in
    let below_size : i ≡ length c.loop-i.belows.items = (let a = now.belows_count in let k = c.loop-i.belows.ok in omega (arith, a, k)) in
    let forms_are = c.push_reserved.ensures.items in
    let belows_are = c.push_reserved-in-loop-i.ensures.items in
    let layouts_size : i ≡ length c.loop-i.layouts.items = (let a = now.layouts_count in let k = c.loop-i.layouts.ok in omega (arith, a, k)) in
    let layouts_are = c.push_reserved-in-loop-i-2.ensures.items in
    let behind : (opened : Opened) → HaveReaders readers opened → IsBelow stages readers opened i after = λ opened have.
    behind-stage stages readers opened (tree-down stages c.requires.tree) c.requires.fit have i below after (stands opened have) (ap (λ v. v.items) done.readers)
    (λ dim. done.layout dim ∙ ap (λ a. holds below.layout dim || a) (ap (λ p. gives_dim c.loop-i.names p (found_of p reader) dim) (sym o)
    ∙ ap (λ l. gives_dim c.loop-i.names (options_at stages i) l dim) (found-is stages readers opened c.requires.fit have i reader reader-at)
    ∙ ap (λ n. gives_dim n (options_at stages i) (found_at stages opened i) dim) (now.names opened have))) in
    record {
      forms = λ opened have k x e. each-push (λ j (y : StageForm). y ≡ form_for (options_at stages j) (setting_at stages opened j)) c.loop-i.forms.items form i size (now.forms opened have)
          (done.form opened.handed ∙ ap (λ p. form_for p (at-setting opened.handed readers below c.loop-i.names p (found_of p reader))) (sym o)
          ∙ ap (λ l. form_for (options_at stages i) (at-setting opened.handed readers below c.loop-i.names (options_at stages i) l)) (found-is stages readers opened c.requires.fit have i reader reader-at)
          ∙ ap (λ n. form_for (options_at stages i) (at-setting opened.handed readers below n (options_at stages i) (found_at stages opened i))) (now.names opened have)
          ∙ ap (λ r. form_for (options_at stages i) (record { names = names_at stages opened i; reads = r; dims = holds below.layout; fields = fields_at stages opened i; handed = opened.handed })) ((stands opened have).reads)
          ∙ ap (λ d. form_for (options_at stages i) (record { names = names_at stages opened i; reads = reads_at stages opened i; dims = d; fields = fields_at stages opened i; handed = opened.handed })) (dims-are stages readers opened i below (stands opened have)))
          k x (ap (λ xs. slice_get xs k) (sym forms_are) ∙ e);
      fits = λ k x e. each-push (λ j y. IsForm (options_at stages j) y) c.loop-i.forms.items form i size now.fits
          (subst (λ p. IsForm p form) (sym o) done.fits) k x (ap (λ xs. slice_get xs k) (sym forms_are) ∙ e);
      fine = λ k x e. each-push (λ j y. IsFine (slice_index_or readers j None) y) c.loop-i.forms.items form i size now.fine
          (subst (λ r. IsFine r form) (sym (get_or_from_slice_get readers i reader None reader-at)) done.fine) k x (ap (λ xs. slice_get xs k) (sym forms_are) ∙ e);
      bound = more-bound stages readers i now.bound (λ opened have.
          sym (bound-is stages readers opened i below (stands opened have))
          ∙ ap (λ n. unbound i n (holds below.layout) (options_at stages i) (found_at stages opened i)) (sym (now.names opened have))
          ∙ ap (unbound i c.loop-i.names (holds below.layout) (options_at stages i)) (sym (found-is stages readers opened c.requires.fit have i reader reader-at))
          ∙ ap (λ p. unbound i c.loop-i.names (holds below.layout) p (found_of p reader)) o ∙ done.bound);
      names = λ opened have. done.names ∙ ap (λ p. names_past c.loop-i.names p (found_of p reader)) (sym o)
          ∙ ap (names_past c.loop-i.names (options_at stages i)) (found-is stages readers opened c.requires.fit have i reader reader-at)
          ∙ ap (λ n. names_past n (options_at stages i) (found_at stages opened i)) (now.names opened have) ∙ sym (names-more stages opened i);
      own = done.own;
      layouts = λ opened have k x e. each-push (λ j (y : Layout). (dim : Dim) → holds y dim ≡ dims_at stages opened j dim) c.loop-i.layouts.items after.layout i layouts_size (now.layouts opened have)
          (behind opened have).dims k x (ap (λ xs. slice_get xs k) (sym layouts_are) ∙ e);
      below = λ opened have k x e. each-push (λ j (y : Below). IsBelow stages readers opened j y) c.loop-i.belows.items after i below_size (now.below opened have)
          (behind opened have) k x (ap (λ xs. slice_get xs k) (sym belows_are) ∙ e);
      inside = λ k x e. each-push (λ j (y : Below). All (λ m. m < length readers) y.readers.items) c.loop-i.belows.items after i below_size now.inside
          (subst (λ v. All (λ m. m < length readers) v.items) (sym done.readers) c.in-Ok-next_below.ensures.inside) k x (ap (λ xs. slice_get xs k) (sym belows_are) ∙ e);
      count = (let a = c.push_reserved.ensures.len in let n = now.count in omega (arith, a, n));
      belows_count = (let a = c.push_reserved-in-loop-i.ensures.len in let n = now.belows_count in omega (arith, a, n));
      layouts_count = (let a = c.push_reserved-in-loop-i-2.ensures.len in let n = now.layouts_count in omega (arith, a, n));
      layouts_room = (let a = c.push_reserved-in-loop-i-2.ensures.capacity in let n = now.layouts_room in omega (arith, a, n));
      room = (let a = c.push_reserved.ensures.capacity in let n = now.room in omega (arith, a, n));
      belows_room = (let a = c.push_reserved-in-loop-i.ensures.capacity in let n = now.belows_room in omega (arith, a, n));
    }
