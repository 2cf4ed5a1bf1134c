use Rattle.std.proofs.Common.{◌≡◌, ◌∷◌, ◌+◌, ◌<◌, ◌∙◌, Err, List, [], length, take, drop, suc, slice_get, refl, ap, sym, subst, arith, rules}
use Rattle.std.proofs.lemmas.Option.{slice_get-get_or}
use Rattle.std.specs.Prelude.{Some}
use Rattle.cloud_points.specs.declared.point.Point.{Point}
use Rattle.file_devices.specs.Counts.{Rose}
use Rattle.stage_kinds.specs.declared.file_form.Writing.{Writing}
use Rattle.stage_kinds.specs.Files.{IsFileForm}
use Rattle.stage_kinds.specs.Stages.{stops_nowhere}
use Rattle.answer_model.specs.Values.{Output}
use Rattle.run_outcome.specs.Cause.{WerePut}
use Rattle.run_ending.specs.Each.{Stops, file_of, files_from}
use Rattle.run_ending.proofs.Each.{files-more, files-push, more-put, none-put, stops-among}
use Rattle.run_ending.proofs.Written.{nowhere-in}
use Rattle.run_ending.proofs.views.write_views.Goals as goal

pub loop-v-init : goal.loop-v-init
loop-v-init g c = record {
  same = refl;
  put = none-put (g.F.Files.map c.args.files.now) (g.F.Files.map c.args.files.now) refl;
  untold = λ e. e;
  lent = refl;
  later = omega arith;
}

pub write_file-requires-clause-form : goal.write_file-requires-clause-form
write_file-requires-clause-form g c = subst (λ (x : Writing). IsFileForm x.form) (sym c.loop-v.invariant.same) c.requires.form

pub write_file-requires-clause-nowhere : goal.write_file-requires-clause-nowhere
write_file-requires-clause-nowhere g c =
    let flow = c.args.views.now in
    let lt : c.loop-v.v < length flow.views = (let a = c.views-v-end.ensures in let b = c.loop-v-test.true in omega (arith, a, b)) in
    let at = slice_get-get_or flow.views c.loop-v.v flow.open_view lt in
    subst (λ (x : Writing). stops_nowhere x c.view.result.now ≡ _) (sym c.loop-v.invariant.same)
    (nowhere-in c.args.writing flow c.requires.placed c.loop-v.v c.view.result.now (at ∙ ap Some (sym c.view.ensures)))

pub loop-v-preserved : goal.loop-v-preserved
loop-v-preserved g c =
    let files = g.F.Files in
    let now = c.loop-v.invariant in
    let flow = c.args.views.now in
    let i = c.args.stage in
    let name = c.args.name.now in
    let x = c.args.writing in
    let lt : c.loop-v.v < length flow.views = (let a = c.views-v-end.ensures in let b = c.loop-v-test.true in omega (arith, a, b)) in
    let at : slice_get flow.views c.loop-v.v ≡ Some c.view.result.now = slice_get-get_or flow.views c.loop-v.v flow.open_view lt ∙ ap Some (sym c.view.ensures) in
    let here : WerePut (files.map c.loop-v.files) (file_of i name x (c.loop-v.v + 1) c.view.result.now ∷ []) (files.map c.write_file.new.files) =
    subst (λ (y : Writing). WerePut (files.map c.loop-v.files) (file_of i name y (c.loop-v.v + 1) c.view.result.now ∷ []) (files.map c.write_file.new.files)) now.same c.in_ok-writing.ensures.put in
    record {
      same = c.in_ok-writing.ensures.writing ∙ now.same;
      put = subst (λ (fs : List Output). WerePut (files.map c.args.files.now) fs (files.map c.write_file.new.files)) (sym (files-push i name x 1 c.loop-v.v flow.views c.view.result.now at))
          (more-put (files.map c.args.files.now) (files.map c.loop-v.files) (files.map c.write_file.new.files) (files_from i name x 1 (take c.loop-v.v flow.views)) (file_of i name x (c.loop-v.v + 1) c.view.result.now ∷ [])
          c.write_file.ensures.untold now.put here);
      untold = λ e. c.write_file.ensures.untold (now.untold e);
      lent = c.write_file.ensures.lent ∙ now.lent;
      later = (let a = now.later in let b = c.write_file.ensures.later in omega (arith, a, b));
    }

pub returns-in_err-writing-clause-stops : goal.returns-in_err-writing-clause-stops
returns-in_err-writing-clause-stops g c =
    let files = g.F.Files in
    let now = c.loop-v.invariant in
    let flow = c.args.views.now in
    let i = c.args.stage in
    let name = c.args.name.now in
    let x = c.args.writing in
    let refusal = c.in_err-writing.field-0.0 in
    let lt : c.loop-v.v < length flow.views = (let a = c.views-v-end.ensures in let b = c.loop-v-test.true in omega (arith, a, b)) in
    let at : slice_get flow.views c.loop-v.v ≡ Some c.view.result.now = slice_get-get_or flow.views c.loop-v.v flow.open_view lt ∙ ap Some (sym c.view.ensures) in
    let here : Stops (Rose (files.faults c.loop-v.files) (files.faults c.write_file.new.files)) (files.map c.loop-v.files) (files.map c.write_file.new.files) i x.form (file_of i name x (c.loop-v.v + 1) c.view.result.now ∷ []) refusal =
    subst (λ (y : Writing). Stops (Rose (files.faults c.loop-v.files) (files.faults c.write_file.new.files)) (files.map c.loop-v.files) (files.map c.write_file.new.files) i y.form (file_of i name y (c.loop-v.v + 1) c.view.result.now ∷ []) refusal)
    now.same c.in_err-writing.ensures.stops in
    let refused : c.from_residual.result ≡ Err refusal = search rules in
    rw refused (subst (λ (fs : List Output). Stops (Rose (files.faults c.args.files.now) (files.faults c.write_file.new.files)) (files.map c.args.files.now) (files.map c.write_file.new.files) i x.form fs refusal)
    (sym (files-more i name x 1 c.loop-v.v flow.views c.view.result.now at))
    (stops-among (files.map c.args.files.now) (files.map c.loop-v.files) (files.map c.write_file.new.files)
    (files.faults c.args.files.now) (files.faults c.loop-v.files) (files.faults c.write_file.new.files) (files.faults c.write_file.new.files) i x.form
    (files_from i name x 1 (take c.loop-v.v flow.views)) (file_of i name x (c.loop-v.v + 1) c.view.result.now ∷ []) (files_from i name x (c.loop-v.v + 1 + 1) (drop (suc c.loop-v.v) flow.views)) refusal
    now.later (omega arith) c.write_file.ensures.untold now.put here))

pub returns-clause-put : goal.returns-clause-put
returns-clause-put g c =
    let files = g.F.Files in
    let flow = c.args.views.now in
    let all : c.loop-v.v ≡ length flow.views = (let a = c.views-v-end.ensures in let b = c.loop-v-test.false in let d = c.loop-v.auto.v-end in omega (arith, a, b, d)) in
    subst (λ (vs : List (List Point)). WerePut (files.map c.args.files.now) (files_from c.args.stage c.args.name.now c.args.writing 1 vs) (files.map c.loop-v.files))
    (ap (λ n. take n flow.views) all ∙ whole flow.views) c.loop-v.invariant.put
  where
    whole : (vs : List (List Point)) → take (length vs) vs ≡ vs
    whole [] = refl
    whole (v ∷ vs) = ap (λ us. v ∷ us) (whole vs)
