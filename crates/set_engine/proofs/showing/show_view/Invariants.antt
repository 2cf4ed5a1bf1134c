use Rattle.std.proofs.Common.{◌≡◌, take, None}
use Rattle.set_engine.specs.Showing.{IsPlain}
use Rattle.set_engine.proofs.Shown.{Came}
use Rattle.set_engine.proofs.showing.show_view.Given as goal

-- the points before this one were shown, and there was no fault at them
abbrev pub invariant-loop-k : goal.invariant-loop-k
invariant-loop-k g l =
    let work = g.W.Work in
    record {
      meaning : work.meaning l.work ≡ work.meaning l.fn.work;
      plain : IsPlain work l.work;
      came : Came (work.meaning l.fn.work) (work.state l.fn.work) (take l.k l.view) l.fn.given l.given (work.state l.work) None;
    }
