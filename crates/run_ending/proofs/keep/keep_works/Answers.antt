use Rattle.std.proofs.Common.{◌≡◌, ◌+◌, [], ◌∷◌, length, reverse, vec_len, refl, ap, sym, ◌∙◌, arith}
use Rattle.std.proofs.lemmas.List.{reverse-append, reverse-reverse}
use Rattle.std.proofs.lemmas.Option.{slice_get_read}
use Rattle.stage_kinds.specs.Held.{op_of}
use Rattle.stage_options.specs.Roles.{role_of}
use Rattle.held_devices.specs.Holding.{there, all_held}
use Rattle.run_ending.specs.Keeping.{kept_first}
use Rattle.run_ending.specs.Putting.{with_filters, with_tallies}
use Rattle.held_devices.proofs.Lists.{popped, one_less, none_left}
use Rattle.held_devices.proofs.Sums.{sum-pop, sum-reverse, none-there}
use Rattle.run_outcome.proofs.Stages.{role-is}
use Rattle.held_devices.proofs.Handing.{filter-back, filters-done, tallies-done, tally-back}
use Rattle.run_ending.proofs.Keeping.{kept-next, broke-off}
use Rattle.run_ending.proofs.Placed.{filters-turned, tallies-turned}
use Rattle.run_ending.proofs.keep.keep_works.Goals as goal
use Rattle.answer_model.specs.Values.{op_for}

pub loop-work-init : goal.loop-work-init
loop-work-init g c = record {
  left = ap reverse c.reverse.ensures.items ∙ reverse-reverse c.args.works.items;
  count = (let a = c.reverse.ensures.len in let k = c.args.works.ok in omega (arith, a, k));
  kept = refl;
  lent = λ others e. (let a = ap all_held c.reverse.ensures.items ∙ sum-reverse (λ w. there (op_of w)) c.args.works.items in omega (arith, a, e));
  later = omega arith;
  put_filters = ap (λ ws. with_filters ws c.args.places.now.filters.items) (ap reverse c.reverse.ensures.items ∙ reverse-reverse c.args.works.items);
  put_tallies = ap (λ ws. with_tallies ws c.args.places.now.tallies.items) (ap reverse c.reverse.ensures.items ∙ reverse-reverse c.args.works.items);
  filters = λ used before are. filters-turned c.args.works.items c.reverse.new.self.items c.reverse.ensures.items used g.P.PlugFilter before c.args.places.now.filters.items are;
  tallies = λ used before are. tallies-turned c.args.works.items c.reverse.new.self.items c.reverse.ensures.items used g.Q.PlugTally before c.args.places.now.tallies.items are;
}

pub keep_work-requires : goal.keep_work-requires
keep_work-requires g c =
    let now = c.loop-work.invariant in
    let p = popped c.args.works.items c.loop-work.works.items c.pop.new.self.items c.loop-work.at c.in-Some.work now.left c.in-Some.ensures.items in
    let n = one_less c.loop-work.at (vec_len c.loop-work.works) (vec_len c.pop.new.self) (length c.args.works.items) now.count c.in-Some.ensures.cases in
    let at = slice_get_read c.args.stages.now (length c.args.stages.now) c.loop-work.at c.index-stages-at.result refl (let a = n.0 in let b = c.requires.count in omega (arith, a, b)) c.index-stages-at.is in
    c.requires.fit c.loop-work.at c.in-Some.work p.0 ∙ ap op_for (sym (role-is c.args.stages.now c.loop-work.at c.index-stages-at.result at))

pub returns-in-Err-clause-err : goal.returns-in-Err-clause-err
returns-in-Err-clause-err g c =
    let files = g.F.Files in
    let now = c.loop-work.invariant in
    let p = popped c.args.works.items c.loop-work.works.items c.pop.new.self.items c.loop-work.at c.in-Some.work now.left c.in-Some.ensures.items in
    let n = one_less c.loop-work.at (vec_len c.loop-work.works) (vec_len c.pop.new.self) (length c.args.works.items) now.count c.in-Some.ensures.cases in
    let at = slice_get_read c.args.stages.now (length c.args.stages.now) c.loop-work.at c.index-stages-at.result refl (let a = n.0 in let b = c.requires.count in omega (arith, a, b)) c.index-stages-at.is in
    broke-off g.F.Out.Sink.bytes (files.map c.args.files.now) (files.map c.loop-work.files) (files.map c.keep_work.new.files) (files.map c.release_works.new.files)
    (files.faults c.args.files.now) (files.faults c.loop-work.files) (files.faults c.keep_work.new.files) (files.faults c.release_works.new.files)
    c.args.stages.now c.args.works.items c.loop-work.at c.in-Some.work (role_of c.index-stages-at.result.options) c.in-Err.refusal
    (role-is c.args.stages.now c.loop-work.at c.index-stages-at.result at) p.0 n.0 now.kept now.later c.release_works.ensures.settles.later c.release_works.ensures.settles.map c.in-Err.ensures.err

pub returns-in-Err-clause-lent : goal.returns-in-Err-clause-lent
returns-in-Err-clause-lent g c = λ others e.
    let sum = sum-pop (λ w. there (op_of w)) c.loop-work.works.items c.pop.new.self.items c.in-Some.work c.in-Some.ensures.items in
    let a = c.loop-work.invariant.lent others e in
    let b = c.keep_work.ensures.lent (others + all_held c.pop.new.self.items) (omega (arith, a, sum)) in
    c.release_works.ensures.settles.lent others b

pub loop-work-preserved : goal.loop-work-preserved
loop-work-preserved g c =
    let files = g.F.Files in
    let now = c.loop-work.invariant in
    let p = popped c.args.works.items c.loop-work.works.items c.pop.new.self.items c.loop-work.at c.in-Some.work now.left c.in-Some.ensures.items in
    let n = one_less c.loop-work.at (vec_len c.loop-work.works) (vec_len c.pop.new.self) (length c.args.works.items) now.count c.in-Some.ensures.cases in
    let at = slice_get_read c.args.stages.now (length c.args.stages.now) c.loop-work.at c.index-stages-at.result refl (let a = n.0 in let b = c.requires.count in omega (arith, a, b)) c.index-stages-at.is in
    let sum = sum-pop (λ w. there (op_of w)) c.loop-work.works.items c.pop.new.self.items c.in-Some.work c.in-Some.ensures.items in
    let turned : reverse c.loop-work.works.items ≡ c.in-Some.work ∷ reverse c.pop.new.self.items = ap reverse c.in-Some.ensures.items ∙ reverse-append c.pop.new.self.items (c.in-Some.work ∷ []) in
    record {
      left = p.1;
      count = n.1;
      kept = kept-next g.F.Out.Sink.bytes (files.map c.args.files.now) (files.map c.loop-work.files) (files.map c.keep_work.new.files) c.args.stages.now c.args.works.items c.loop-work.at c.in-Some.work
          (role_of c.index-stages-at.result.options) (role-is c.args.stages.now c.loop-work.at c.index-stages-at.result at) p.0 now.kept c.in-Ok.ensures.ok;
      lent = λ others e. (let a = now.lent others e in c.keep_work.ensures.lent (others + all_held c.pop.new.self.items) (omega (arith, a, sum)));
      later = (let a = now.later in let b = c.keep_work.ensures.later in omega (arith, a, b));
      put_filters = ap (with_filters (reverse c.pop.new.self.items)) c.keep_work.ensures.filters ∙ ap (λ ws. with_filters ws c.loop-work.places.filters.items) (sym turned) ∙ now.put_filters;
      put_tallies = ap (with_tallies (reverse c.pop.new.self.items)) c.keep_work.ensures.tallies ∙ ap (λ ws. with_tallies ws c.loop-work.places.tallies.items) (sym turned) ∙ now.put_tallies;
      filters = λ used before are. filter-back c.loop-work.works.items c.pop.new.self.items c.in-Some.work c.in-Some.ensures.items used g.P.PlugFilter before c.loop-work.places.filters.items
          c.keep_work.new.places.filters.items c.keep_work.ensures.filters (now.filters used before are);
      tallies = λ used before are. tally-back c.loop-work.works.items c.pop.new.self.items c.in-Some.work c.in-Some.ensures.items used g.Q.PlugTally before c.loop-work.places.tallies.items
          c.keep_work.new.places.tallies.items c.keep_work.ensures.tallies (now.tallies used before are);
    }

pub returns-in-Err-clause-filters : goal.returns-in-Err-clause-filters
returns-in-Err-clause-filters g c = λ used before are. c.release_works.ensures.filters used before
    (filter-back c.loop-work.works.items c.pop.new.self.items c.in-Some.work c.in-Some.ensures.items used g.P.PlugFilter before c.loop-work.places.filters.items
    c.keep_work.new.places.filters.items c.keep_work.ensures.filters (c.loop-work.invariant.filters used before are))

pub returns-in-Err-clause-tallies : goal.returns-in-Err-clause-tallies
returns-in-Err-clause-tallies g c = λ used before are. c.release_works.ensures.tallies used before
    (tally-back c.loop-work.works.items c.pop.new.self.items c.in-Some.work c.in-Some.ensures.items used g.Q.PlugTally before c.loop-work.places.tallies.items
    c.keep_work.new.places.tallies.items c.keep_work.ensures.tallies (c.loop-work.invariant.tallies used before are))

pub returns-clause-filters : goal.returns-clause-filters
returns-clause-filters g c = λ used before are. filters-done c.args.works.items c.loop-work.works.items
    (none-there c.loop-work.works.items (let z = c.in_default.ensures.cases.0 in let k = c.loop-work.works.ok in omega (arith, z, k))) used g.P.PlugFilter
    c.args.places.now.filters.items c.loop-work.places.filters.items before c.loop-work.invariant.filters are

pub returns-clause-tallies : goal.returns-clause-tallies
returns-clause-tallies g c = λ used before are. tallies-done c.args.works.items c.loop-work.works.items
    (none-there c.loop-work.works.items (let z = c.in_default.ensures.cases.0 in let k = c.loop-work.works.ok in omega (arith, z, k))) used g.Q.PlugTally
    c.args.places.now.tallies.items c.loop-work.places.tallies.items before c.loop-work.invariant.tallies are

pub returns-clause-put : goal.returns-clause-put
returns-clause-put g c =
    let now = c.loop-work.invariant in
    let none = none-there c.loop-work.works.items (let z = c.in_default.ensures.cases.0 in let k = c.loop-work.works.ok in omega (arith, z, k)) in
    record {
      filters = ap (λ ws. with_filters (reverse ws) c.loop-work.places.filters.items) (sym none) ∙ now.put_filters;
      tallies = ap (λ ws. with_tallies (reverse ws) c.loop-work.places.tallies.items) (sym none) ∙ now.put_tallies;
    }

pub returns-clause-lent : goal.returns-clause-lent
returns-clause-lent g c = λ others e.
    let none = none-there c.loop-work.works.items (let z = c.in_default.ensures.cases.0 in let k = c.loop-work.works.ok in omega (arith, z, k)) in
    let a = c.loop-work.invariant.lent others e in
    let b : all_held c.loop-work.works.items ≡ 0 = ap all_held none in
    omega (arith, a, b)

pub returns-clause-ok : goal.returns-clause-ok
returns-clause-ok g c =
    let now = c.loop-work.invariant in
    let all = none_left (length c.args.works.items) c.loop-work.at (vec_len c.loop-work.works) now.count c.in_default.ensures.cases.0 in
    now.kept ∙ ap (λ n. kept_first g.F.Out.Sink.bytes n (g.F.Files.map c.args.files.now) c.args.stages.now c.args.works.items) all
