use Rattle.std.proofs.Common.{◌≡◌, ◌∙◌, Err, length, refl, ap, sym, arith, rules}
use Rattle.std.proofs.lemmas.Option.{slice_get_read}
use Rattle.stage_options.specs.Roles.{role_of}
use Rattle.stage_options.specs.Seen.{role_view}
use Rattle.stage_options.specs.declared.stage.StageSpec.{StageSpec}
use Rattle.held_devices.proofs.Sums.{none-there}
use Rattle.run_outcome.proofs.Stages.{role-is}
use Rattle.run_ending.proofs.Written.{all-written, next-at, none-written, one-stops, one-written}
use Rattle.run_ending.proofs.views.write_each.Goals as goal

pub loop-one-init : goal.loop-one-init
loop-one-init g c =
    let files = g.F.Files in
    record {
      written = none-written c.args.stages.now c.args.each.items c.reverse.new.self.items (files.map c.args.files.now) (files.map c.args.files.now) c.reverse.ensures.items refl;
      untold = λ e. e;
      lent = refl;
      later = omega arith;
    }

pub bounds-stages-at : goal.bounds-stages-at
bounds-stages-at g c =
    let files = g.F.Files in
    let now = c.loop-one.invariant.written in
    c.requires.inside (length now.done) c.in-Some.one (next-at c.args.stages.now c.args.each.items c.loop-one.each.items c.pop.new.self.items c.in-Some.one (files.map c.args.files.now) (files.map c.loop-one.files) c.in-Some.ensures.items now)

pub loop-one-preserved : goal.loop-one-preserved
loop-one-preserved g c =
    let files = g.F.Files in
    let now = c.loop-one.invariant in
    let at = slice_get_read c.args.stages.now (length c.args.stages.now) c.in-Some.one.stage c.index-stages-at.result refl
    (c.requires.inside (length now.written.done) c.in-Some.one (next-at c.args.stages.now c.args.each.items c.loop-one.each.items c.pop.new.self.items c.in-Some.one (files.map c.args.files.now) (files.map c.loop-one.files) c.in-Some.ensures.items now.written)) c.index-stages-at.is in
    record {
      written = one-written c.args.stages.now c.args.each.items c.loop-one.each.items c.pop.new.self.items c.in-Some.one (files.map c.args.files.now) (files.map c.loop-one.files) c.in-Some.ensures.items now.written
          (files.map c.write_stage.new.files) (role_view c.role.result) (c.role.ensures ∙ ap (λ (s : StageSpec). role_of s.options) (sym c.index-stages-at.is) ∙ role-is c.args.stages.now c.in-Some.one.stage c.index-stages-at.result at) c.write_stage.ensures.untold c.in_ok-write_stage.ensures.put;
      untold = λ e. c.write_stage.ensures.untold (now.untold e);
      lent = c.write_stage.ensures.lent ∙ now.lent;
      later = (let a = now.later in let b = c.write_stage.ensures.later in omega (arith, a, b));
    }

pub returns-in_err-write_stage-clause-stops : goal.returns-in_err-write_stage-clause-stops
returns-in_err-write_stage-clause-stops g c =
    let files = g.F.Files in
    let now = c.loop-one.invariant in
    let at = slice_get_read c.args.stages.now (length c.args.stages.now) c.in-Some.one.stage c.index-stages-at.result refl
    (c.requires.inside (length now.written.done) c.in-Some.one (next-at c.args.stages.now c.args.each.items c.loop-one.each.items c.pop.new.self.items c.in-Some.one (files.map c.args.files.now) (files.map c.loop-one.files) c.in-Some.ensures.items now.written)) c.index-stages-at.is in
    let refused : c.from_residual.result ≡ Err c.in_err-write_stage.field-0.0 = search rules in
    rw refused (one-stops c.args.stages.now c.args.each.items c.loop-one.each.items c.pop.new.self.items c.in-Some.one (files.map c.args.files.now) (files.map c.loop-one.files) c.in-Some.ensures.items now.written
    (files.map c.write_stage.new.files) (role_view c.role.result) (c.role.ensures ∙ ap (λ (s : StageSpec). role_of s.options) (sym c.index-stages-at.is) ∙ role-is c.args.stages.now c.in-Some.one.stage c.index-stages-at.result at) c.write_stage.ensures.untold
    (files.faults c.args.files.now) (files.faults c.loop-one.files) (files.faults c.write_stage.new.files) c.in_err-write_stage.field-0.0 now.later c.in_err-write_stage.ensures.stops)

pub returns-clause-put : goal.returns-clause-put
returns-clause-put g c =
    let files = g.F.Files in
    all-written c.args.stages.now c.args.each.items c.loop-one.each.items (files.map c.args.files.now) (files.map c.loop-one.files)
    (none-there c.loop-one.each.items (let z = c.in_default.ensures.cases.0 in let k = c.loop-one.each.ok in omega (arith, z, k))) c.loop-one.invariant.written
