use Rattle.std.proofs.Common.{◌≡◌, ◌∙◌, Err, length, refl, ap, subst, inl, inr, arith}
use Rattle.std.proofs.lemmas.Result.{err_from_is_err_and}
use Rattle.file_devices.specs.Counts.{Rose}
use Rattle.stage_kinds.specs.Held.{faults_of}
use Rattle.run_outcome.proofs.Causes.{rose-within}
use Rattle.run_outcome.proofs.Results.{if-err}
use Rattle.run_outcome.specs.Cause.{WerePut}
use Rattle.run_ending.specs.Each.{AreInside, BrokeOffAt, all_files}
use Rattle.run_ending.proofs.Taken.{broke-same, broke-wider, fit-later, kept-same, on-ok-more, same-held}
use Rattle.run_ending.proofs.Placed.{filters-later, tallies-later}
use Rattle.run_ending.proofs.Putting.{always, put-same}
use Rattle.run_ending.proofs.Keeping.{untold-broke, untold-kept}
use Rattle.run_ending.proofs.all.keep_all.Goals as goal

pub keep_works-requires-clause-fit : goal.keep_works-requires-clause-fit
keep_works-requires-clause-fit g c =
    fit-later g.P.PlugFilter g.Q.PlugTally (faults_of g.F.In.Source.faults g.F.Out.Sink.faults) c.args.stages.now c.args.works.items c.take_each.new.works.items c.take_each.ensures.later c.take_each.ensures.others c.requires.fit

pub keep_works-requires-clause-count : goal.keep_works-requires-clause-count
keep_works-requires-clause-count g c = c.take_each.ensures.later.count ∙ c.requires.count

pub write_each-requires : goal.write_each-requires
write_each-requires g c = record { inside = subst (λ n. AreInside n c.in-Ok.each.items) c.requires.count c.in-Ok.ensures.inside }

pub returns-in_default-clause-err : goal.returns-in_default-clause-err
returns-in_default-clause-err g c = inl (refl, c.release_works.ensures.settles.map)

pub returns-in_default-clause-lent : goal.returns-in_default-clause-lent
returns-in_default-clause-lent g c = λ others e.
    let held = same-held g.P.PlugFilter g.Q.PlugTally (faults_of g.F.In.Source.faults g.F.Out.Sink.faults) c.args.works.items c.take_each.new.works.items c.take_each.ensures.later in
    c.release_works.ensures.settles.lent others (omega (arith, e, held))

pub returns-in_err-keep_works-clause-err : goal.returns-in_err-keep_works-clause-err
returns-in_err-keep_works-clause-err g c =
    let files = g.F.Files in
    let faults = faults_of g.F.In.Source.faults g.F.Out.Sink.faults in
    let p = err_from_is_err_and c.from_residual.result c.from_residual.ensures.1 in
    let same : p.0 ≡ c.in_err-keep_works.field-0.0 = p.2 in
    let refused : c.from_residual.result ≡ Err c.in_err-keep_works.field-0.0 = p.1 ∙ ap Err same in
    rw refused (inr (inl (broke-same g.P.PlugFilter g.Q.PlugTally faults c.args.stages.now c.args.works.items c.take_each.new.works.items c.take_each.ensures.later c.take_each.ensures.others c.requires.fit g.F.Out.Sink.bytes
    (Rose (files.faults c.args.files.now) (files.faults c.keep_works.new.files)) (files.map c.args.files.now) (files.map c.keep_works.new.files) c.in_err-keep_works.field-0.0 c.in_err-keep_works.ensures.err)))

pub returns-in_err-keep_works-clause-untold : goal.returns-in_err-keep_works-clause-untold
returns-in_err-keep_works-clause-untold g c =
    let files = g.F.Files in
    untold-broke g.F.Out.Sink.bytes (files.map c.args.files.now) (files.map c.args.files.now) (files.map c.keep_works.new.files) (Rose (files.faults c.args.files.now) (files.faults c.keep_works.new.files))
    c.args.stages.now c.take_each.new.works.items c.in_err-keep_works.field-0.0 refl c.in_err-keep_works.ensures.err

pub returns-in_err-keep_works-clause-lent : goal.returns-in_err-keep_works-clause-lent
returns-in_err-keep_works-clause-lent g c = λ others e.
    let held = same-held g.P.PlugFilter g.Q.PlugTally (faults_of g.F.In.Source.faults g.F.Out.Sink.faults) c.args.works.items c.take_each.new.works.items c.take_each.ensures.later in
    c.keep_works.ensures.lent others (omega (arith, e, held))

pub returns-clause-ok : goal.returns-clause-ok
returns-clause-ok g c =
    let files = g.F.Files in
    on-ok-more c.write_each.result c.write_each.ensures.put (λ (put : WerePut (files.map c.keep_works.new.files) (all_files c.args.stages.now _) (files.map c.write_each.new.files)). record {
      mid = files.map c.keep_works.new.files;
      plain = kept-same g.P.PlugFilter g.Q.PlugTally (faults_of g.F.In.Source.faults g.F.Out.Sink.faults) c.args.stages.now c.args.works.items c.take_each.new.works.items c.take_each.ensures.later c.take_each.ensures.others c.requires.fit g.F.Out.Sink.bytes
          (files.map c.args.files.now) (files.map c.keep_works.new.files) c.in_ok-keep_works.ensures.ok;
      lost = c.write_each.ensures.untold;
      each = subst (λ kept. WerePut (files.map c.keep_works.new.files) (all_files c.args.stages.now kept) (files.map c.write_each.new.files)) c.in-Ok.ensures.kept put;
    })

pub returns-clause-err : goal.returns-clause-err
returns-clause-err g c =
    let files = g.F.Files in
    if-err c.write_each.result c.write_each.ensures.stops (λ refusal broke. inr (inr (record {
      mid = files.map c.keep_works.new.files;
      plain = kept-same g.P.PlugFilter g.Q.PlugTally (faults_of g.F.In.Source.faults g.F.Out.Sink.faults) c.args.stages.now c.args.works.items c.take_each.new.works.items c.take_each.ensures.later c.take_each.ensures.others c.requires.fit g.F.Out.Sink.bytes
          (files.map c.args.files.now) (files.map c.keep_works.new.files) c.in_ok-keep_works.ensures.ok;
      lost = c.write_each.ensures.untold;
      broke = broke-wider (rose-within (files.faults c.args.files.now) (files.faults c.keep_works.new.files) (files.faults c.write_each.new.files) (files.faults c.write_each.new.files) c.keep_works.ensures.later (omega arith))
          (files.map c.keep_works.new.files) (files.map c.write_each.new.files) c.args.stages.now _ refusal
          (subst (λ kept. BrokeOffAt (Rose (files.faults c.keep_works.new.files) (files.faults c.write_each.new.files)) (files.map c.keep_works.new.files) (files.map c.write_each.new.files) c.args.stages.now kept refusal) c.in-Ok.ensures.kept broke);
    })))

pub returns-clause-put : goal.returns-clause-put
returns-clause-put g c = always c.write_each.result (put-same g.P.PlugFilter g.Q.PlugTally (faults_of g.F.In.Source.faults g.F.Out.Sink.faults) c.args.works.items c.take_each.new.works.items c.take_each.ensures.later c.take_each.ensures.others
    c.in_ok-keep_works.ensures.put)

pub returns-clause-untold : goal.returns-clause-untold
returns-clause-untold g c = λ none.
    let files = g.F.Files in
    c.write_each.ensures.untold (untold-kept g.F.Out.Sink.bytes (length c.take_each.new.works.items) (files.map c.args.files.now) (files.map c.args.files.now) (files.map c.keep_works.new.files)
    c.args.stages.now c.take_each.new.works.items refl c.in_ok-keep_works.ensures.ok none)

pub returns-clause-lent : goal.returns-clause-lent
returns-clause-lent g c = λ others e.
    let held = same-held g.P.PlugFilter g.Q.PlugTally (faults_of g.F.In.Source.faults g.F.Out.Sink.faults) c.args.works.items c.take_each.new.works.items c.take_each.ensures.later in
    c.write_each.ensures.lent ∙ c.keep_works.ensures.lent others (omega (arith, e, held))

pub returns-in_default-clause-filters : goal.returns-in_default-clause-filters
returns-in_default-clause-filters g c = λ used before are. c.release_works.ensures.filters used before
    (filters-later g.P.PlugFilter g.Q.PlugTally (faults_of g.F.In.Source.faults g.F.Out.Sink.faults) c.args.works.items c.take_each.new.works.items c.take_each.ensures.later used before
    c.args.places.now.filters.items are)

pub returns-in_default-clause-tallies : goal.returns-in_default-clause-tallies
returns-in_default-clause-tallies g c = λ used before are. c.release_works.ensures.tallies used before
    (tallies-later g.P.PlugFilter g.Q.PlugTally (faults_of g.F.In.Source.faults g.F.Out.Sink.faults) c.args.works.items c.take_each.new.works.items c.take_each.ensures.later used before
    c.args.places.now.tallies.items are)

pub returns-in_err-keep_works-clause-filters : goal.returns-in_err-keep_works-clause-filters
returns-in_err-keep_works-clause-filters g c = λ used before are. c.keep_works.ensures.filters used before
    (filters-later g.P.PlugFilter g.Q.PlugTally (faults_of g.F.In.Source.faults g.F.Out.Sink.faults) c.args.works.items c.take_each.new.works.items c.take_each.ensures.later used before
    c.args.places.now.filters.items are)

pub returns-in_err-keep_works-clause-tallies : goal.returns-in_err-keep_works-clause-tallies
returns-in_err-keep_works-clause-tallies g c = λ used before are. c.keep_works.ensures.tallies used before
    (tallies-later g.P.PlugFilter g.Q.PlugTally (faults_of g.F.In.Source.faults g.F.Out.Sink.faults) c.args.works.items c.take_each.new.works.items c.take_each.ensures.later used before
    c.args.places.now.tallies.items are)

pub returns-clause-filters : goal.returns-clause-filters
returns-clause-filters g c = λ used before are. c.keep_works.ensures.filters used before
    (filters-later g.P.PlugFilter g.Q.PlugTally (faults_of g.F.In.Source.faults g.F.Out.Sink.faults) c.args.works.items c.take_each.new.works.items c.take_each.ensures.later used before
    c.args.places.now.filters.items are)

pub returns-clause-tallies : goal.returns-clause-tallies
returns-clause-tallies g c = λ used before are. c.keep_works.ensures.tallies used before
    (tallies-later g.P.PlugFilter g.Q.PlugTally (faults_of g.F.In.Source.faults g.F.Out.Sink.faults) c.args.works.items c.take_each.new.works.items c.take_each.ensures.later used before
    c.args.places.now.tallies.items are)
