use Rattle.std.proofs.Common.{◌≡◌, take, false, None}
use Rattle.cloud_points.specs.Marks.{view_marks}
use Rattle.set_engine.specs.Showing.{IsPlain, WasShown}
use Rattle.set_engine.proofs.showing.show_pieces.Given as goal

-- the views before this one were shown, and there was no fault in them
abbrev pub invariant-loop-v : goal.invariant-loop-v
invariant-loop-v g l =
    let work = g.W.Work in
    let means = work.meaning l.fn.work in
    let before = view_marks (take l.v l.taken.views) in
    record {
      meaning : work.meaning l.work ≡ means;
      plain : IsPlain work l.work;
      shown : WasShown means (work.state l.fn.work) before l.views (work.state l.work) None;
      uncut : l.views.cut ≡ false;
    }
