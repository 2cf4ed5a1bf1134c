use Rattle.std.proofs.Common.{◌≡◌, ◌+◌, refl, ap, ◌∙◌, arith}
use Rattle.held_devices.proofs.Handing.{filter-back, filters-done, tallies-done, tally-back}
use Rattle.stage_kinds.specs.Held.{held_by, op_of}
use Rattle.held_devices.specs.Holding.{there, all_held, count_on}
use Rattle.held_devices.proofs.Sums.{sum-pop, none-there}
use Rattle.stage_kinds.specs.Leads.{reached_of}
use Rattle.held_devices.proofs.Releasing.{none-released, one-released, all-released, read-one, read-all, told-one, told-all}
use Rattle.held_devices.proofs.release.release_works.Goals as goal

pub loop-work-init : goal.loop-work-init
loop-work-init g c = record {
  map = refl;
  lent = λ others e. e;
  later = omega arith;
  read = λ x e. (x, e, refl);
  told = λ xs e. (xs, e, refl);
  filters = λ used before are. are;
  tallies = λ used before are. are;
  released = none-released g.F.In.Source.faults g.F.Out.Sink.faults c.args.works.items (g.F.Files.faults c.args.files.now) (g.F.Files.faults c.args.files.now);
}

pub loop-work-preserved : goal.loop-work-preserved
loop-work-preserved g c =
    let now = c.loop-work.invariant in
    let done = c.release_work.ensures in
    let sum = sum-pop (λ w. there (op_of w)) c.loop-work.works.items c.pop.new.self.items c.in-Some.work c.in-Some.ensures.items in
    record {
      map = done.settles.map ∙ now.map;
      lent = λ others e. done.settles.lent (others + all_held c.pop.new.self.items) (let a = now.lent others e in omega (arith, a, sum));
      later = (let a = now.later in let b = done.settles.later in omega (arith, a, b));
      read = λ x e. read-one (g.F.Files.read_to c.args.files.now) (g.F.Files.read_to c.loop-work.files) (g.F.Files.read_to c.release_work.new.files) (reached_of g.F.In.Source.reached) c.args.works.items
          c.loop-work.works.items c.pop.new.self.items c.in-Some.work c.in-Some.ensures.items now.read done.read x e;
      told = told-one (g.F.Files.counts c.args.files.now) (g.F.Files.counts c.loop-work.files) (g.F.Files.counts c.release_work.new.files) (λ w. count_on g.F.In.Source.faults g.F.Out.Sink.faults (held_by w)) c.args.works.items
          c.loop-work.works.items c.pop.new.self.items c.in-Some.work c.in-Some.ensures.items now.told done.told;
      filters = λ used before are. filter-back c.loop-work.works.items c.pop.new.self.items c.in-Some.work c.in-Some.ensures.items used g.P.PlugFilter before c.loop-work.places.filters.items
          c.release_work.new.places.filters.items done.filters (now.filters used before are);
      tallies = λ used before are. tally-back c.loop-work.works.items c.pop.new.self.items c.in-Some.work c.in-Some.ensures.items used g.Q.PlugTally before c.loop-work.places.tallies.items
          c.release_work.new.places.tallies.items done.tallies (now.tallies used before are);
      released = one-released g.F.In.Source.faults g.F.Out.Sink.faults c.args.works.items (g.F.Files.faults c.args.files.now) c.loop-work.works.items c.pop.new.self.items c.in-Some.work
          (g.F.Files.faults c.loop-work.files) (g.F.Files.faults c.release_work.new.files) c.in-Some.ensures.items now.later done.settles.later done.counted now.released;
    }

pub returns-clause-settles : goal.returns-clause-settles
returns-clause-settles g c =
    let now = c.loop-work.invariant in
    let none = none-there c.loop-work.works.items (let z = c.in_default.ensures.cases.0 in let k = c.loop-work.works.ok in omega (arith, z, k)) in
    let b : all_held c.loop-work.works.items ≡ 0 = ap all_held none in
    record { map = now.map; later = now.later; lent = λ others e. (let a = now.lent others e in omega (arith, a, b)) }

pub returns-clause-counted : goal.returns-clause-counted
returns-clause-counted g c = all-released g.F.In.Source.faults g.F.Out.Sink.faults c.args.works.items (g.F.Files.faults c.args.files.now) c.loop-work.works.items (g.F.Files.faults c.loop-work.files)
    (none-there c.loop-work.works.items (let z = c.in_default.ensures.cases.0 in let k = c.loop-work.works.ok in omega (arith, z, k))) c.loop-work.invariant.released

pub returns-clause-read : goal.returns-clause-read
returns-clause-read g c = read-all (g.F.Files.read_to c.args.files.now) (g.F.Files.read_to c.loop-work.files) (reached_of g.F.In.Source.reached) c.args.works.items c.loop-work.works.items
    (none-there c.loop-work.works.items (let z = c.in_default.ensures.cases.0 in let k = c.loop-work.works.ok in omega (arith, z, k))) c.loop-work.invariant.read

pub returns-clause-filters : goal.returns-clause-filters
returns-clause-filters g c = λ used before are. filters-done c.args.works.items c.loop-work.works.items
    (none-there c.loop-work.works.items (let z = c.in_default.ensures.cases.0 in let k = c.loop-work.works.ok in omega (arith, z, k))) used g.P.PlugFilter
    c.args.places.now.filters.items c.loop-work.places.filters.items before c.loop-work.invariant.filters are

pub returns-clause-tallies : goal.returns-clause-tallies
returns-clause-tallies g c = λ used before are. tallies-done c.args.works.items c.loop-work.works.items
    (none-there c.loop-work.works.items (let z = c.in_default.ensures.cases.0 in let k = c.loop-work.works.ok in omega (arith, z, k))) used g.Q.PlugTally
    c.args.places.now.tallies.items c.loop-work.places.tallies.items before c.loop-work.invariant.tallies are

pub returns-clause-told : goal.returns-clause-told
returns-clause-told g c = told-all (g.F.Files.counts c.args.files.now) (g.F.Files.counts c.loop-work.files) (λ w. count_on g.F.In.Source.faults g.F.Out.Sink.faults (held_by w)) c.args.works.items c.loop-work.works.items
    (none-there c.loop-work.works.items (let z = c.in_default.ensures.cases.0 in let k = c.loop-work.works.ok in omega (arith, z, k))) c.loop-work.invariant.told
