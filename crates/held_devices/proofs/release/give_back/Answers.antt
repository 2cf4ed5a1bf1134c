use Rattle.std.proofs.Common.{◌≡◌, ◌∷◌, ◌++◌, ap, sym, subst, ◌∙◌, arith}
use Rattle.std.specs.Prelude.{option_map}
use Rattle.file_devices.specs.Counts.{listed}
use Rattle.file_devices.specs.Told.{IsAsTold}
use Rattle.held_devices.proofs.Releasing.{told-all, told-none, told-one}
use Rattle.held_devices.specs.Holding.{there, all_there}
use Rattle.held_devices.proofs.Sums.{sum-pop, none-there}
use Rattle.held_devices.proofs.release.give_back.Goals as goal

pub loop-reader-preserved-in-Some-reader : goal.loop-reader-preserved-in-Some-reader
loop-reader-preserved-in-Some-reader g c =
    let now = c.loop-reader.invariant in
    let done = c.done_in.ensures in
    let sum = sum-pop there c.loop-reader.readers.items c.pop.new.self.items c.in-Some.reader c.in-Some.ensures.items in
    let one : there c.in-Some.reader ≡ 1 = ap there c.in-Some-reader.is in
    record {
      map = done.map ∙ now.map;
      lent = λ others e. (let a = now.lent others e in let d = done.lent in omega (arith, a, d, sum, one));
      later = (let a = now.later in let b = done.later in omega (arith, a, b));
      told = told-one (g.F.Files.counts c.args.files.now) (g.F.Files.counts c.loop-reader.files) (g.F.Files.counts c.done_in.new.self) (option_map (λ r. g.F.In.Source.faults r.source)) c.args.readers.items
          c.loop-reader.readers.items c.pop.new.self.items c.in-Some.reader c.in-Some.ensures.items now.told
          (subst (λ o. IsAsTold (g.F.Files.counts c.done_in.new.self) (option_map (λ cs. listed (option_map (λ r. g.F.In.Source.faults r.source) o) ++ cs) (g.F.Files.counts c.loop-reader.files))) (sym c.in-Some-reader.is)
          (subst (λ x. IsAsTold (g.F.Files.counts c.done_in.new.self) (option_map (λ cs. g.F.In.Source.faults x ∷ cs) (g.F.Files.counts c.loop-reader.files))) c.release.ensures done.counts));
    }

pub loop-reader-preserved : goal.loop-reader-preserved
loop-reader-preserved g c =
    let now = c.loop-reader.invariant in
    let sum = sum-pop there c.loop-reader.readers.items c.pop.new.self.items c.in-Some.reader c.in-Some.ensures.items in
    let none : there c.in-Some.reader ≡ 0 = ap there c.in-None.is in
    record {
      map = now.map;
      lent = λ others e. (let a = now.lent others e in omega (arith, a, sum, none));
      later = now.later;
      told = told-none (g.F.Files.counts c.args.files.now) (g.F.Files.counts c.loop-reader.files) (option_map (λ r. g.F.In.Source.faults r.source)) c.args.readers.items c.loop-reader.readers.items c.pop.new.self.items c.in-Some.reader
          c.in-Some.ensures.items (ap (option_map (λ r. g.F.In.Source.faults r.source)) c.in-None.is) now.told;
    }

pub returns-clause-settles : goal.returns-clause-settles
returns-clause-settles g c =
    let now = c.loop-reader.invariant in
    let none = none-there c.loop-reader.readers.items (let z = c.in_default.ensures.cases.0 in let k = c.loop-reader.readers.ok in omega (arith, z, k)) in
    let b : all_there c.loop-reader.readers.items ≡ 0 = ap all_there none in
    record { map = now.map; later = now.later; lent = λ others e. (let a = now.lent others e in omega (arith, a, b)) }

pub returns-clause-told : goal.returns-clause-told
returns-clause-told g c = told-all (g.F.Files.counts c.args.files.now) (g.F.Files.counts c.loop-reader.files) (option_map (λ r. g.F.In.Source.faults r.source)) c.args.readers.items c.loop-reader.readers.items
    (none-there c.loop-reader.readers.items (let z = c.in_default.ensures.cases.0 in let k = c.loop-reader.readers.ok in omega (arith, z, k))) c.loop-reader.invariant.told
