use Rattle.std.proofs.Common.{refl, ap}
use Rattle.run_opening.proofs.begin.read_with.Goals as goal

pub returns : goal.returns
returns g c =
    let same = c.set_fields.ensures.1 in
    record {
      with_fields = c.set_fields.new.self;
      is = refl;
      source = ap (λ r. r.source) same;
      header = ap (λ r. r.header) same;
      lists = (ap (λ r. r.vlrs) same, ap (λ r. r.evlrs) same);
      start = ap (λ r. r.progress) same;
      taken = ap (λ r. r.fields) same;
    }
