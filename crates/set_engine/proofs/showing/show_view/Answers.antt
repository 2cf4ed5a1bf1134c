use Rattle.std.proofs.Common.{◌≡◌, ◌<◌, ◌+◌, length, take, is_some, true, false, refl, sym, subst, ◌∙◌, arith}
use Rattle.set_engine.proofs.Shown.{Came, all-came, no-device, none-came, none-is, plain-still, shown-here}
use Rattle.set_engine.proofs.showing.show_view.Goals as goal

pub loop-k-init : goal.loop-k-init
loop-k-init g c =
    let work = g.W.Work in
    let first = c.args.work.now in
    record {
      meaning = refl;
      plain = c.requires;
      came = none-came (work.meaning first) (g.met.W.Work.cutting first) (work.state first) c.args.given.now;
    }

pub returns-then-is_some : goal.returns-then-is_some
returns-then-is_some g c =
    let work = g.W.Work in
    let law = g.met.W.Work.cutting c.args.work.now in
    let view = c.args.view.now in
    let now = c.loop-k.invariant in
    let new = c.on_chunk-fault.new.self in
    let ensures = c.on_chunk-fault.ensures in
    let lt : c.loop-k.k < length view = (let test = c.loop-k-test.true in let size = c.len-k-end.ensures in omega (arith, test, size)) in
    let came =
    shown-here work c.args.work.now c.loop-k.work new now.plain now.meaning ensures.meaning law view c.loop-k.k c.get.result lt c.get.ensures c.args.given.now c.loop-k.given c.push_all.new.self now.came
    c.put_points.new.into.items c.on_chunk-fault.new.points.items c.put_points.ensures c.on_chunk-fault.result ensures.named ensures.state ensures.points ensures.fault
    c.as_slice.result.now c.in_ok-push_all.ensures.ok c.as_slice.ensures.value in
    let faulty : is_some c.on_chunk-fault.result ≡ true = sym c.is_some.ensures ∙ c.if-is_some.true in
    let whole = all-came (work.meaning c.args.work.now) law (work.state c.args.work.now) view (c.loop-k.k + 1) c.args.given.now c.push_all.new.self (work.state new) c.on_chunk-fault.result faulty came in
    record {
      points = whole.gave;
      state = whole.after;
      fault = whole.faults;
      no_device = no-device (work.op c.loop-k.work) c.on_chunk-fault.result now.plain.op ensures.named;
      meaning = ensures.meaning ∙ now.meaning;
      plain = plain-still work c.args.work.now c.loop-k.work new now.plain now.meaning ensures.meaning ensures.leaf ensures.op;
    }

pub loop-k-preserved : goal.loop-k-preserved
loop-k-preserved g c =
    let work = g.W.Work in
    let law = g.met.W.Work.cutting c.args.work.now in
    let view = c.args.view.now in
    let now = c.loop-k.invariant in
    let new = c.on_chunk-fault.new.self in
    let ensures = c.on_chunk-fault.ensures in
    let lt : c.loop-k.k < length view = (let test = c.loop-k-test.true in let size = c.len-k-end.ensures in omega (arith, test, size)) in
    let came =
    shown-here work c.args.work.now c.loop-k.work new now.plain now.meaning ensures.meaning law view c.loop-k.k c.get.result lt c.get.ensures c.args.given.now c.loop-k.given c.push_all.new.self now.came
    c.put_points.new.into.items c.on_chunk-fault.new.points.items c.put_points.ensures c.on_chunk-fault.result ensures.named ensures.state ensures.points ensures.fault
    c.as_slice.result.now c.in_ok-push_all.ensures.ok c.as_slice.ensures.value in
    let none : is_some c.on_chunk-fault.result ≡ false = sym c.is_some.ensures ∙ c.if-is_some.false in
    record {
      meaning = ensures.meaning ∙ now.meaning;
      plain = plain-still work c.args.work.now c.loop-k.work new now.plain now.meaning ensures.meaning ensures.leaf ensures.op;
      came = subst (Came (work.meaning c.args.work.now) (work.state c.args.work.now) (take (c.loop-k.k + 1) view) c.args.given.now c.push_all.new.self (work.state new)) (none-is c.on_chunk-fault.result none) came;
    }
