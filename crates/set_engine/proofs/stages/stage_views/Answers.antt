use Rattle.std.proofs.Common.{◌≡◌, true, ap, inl, inr}
use Rattle.stage_kinds.specs.Stages.{is_leaf}
use Rattle.set_engine.proofs.OfCaller.{bare, caller-after, caller-calm, caller-gave, caller-kept, is_of_caller, none-caused, stays-bare}
use Rattle.set_engine.proofs.StageGiving.{writer-gave, leaf-gave, leaf-kept}
use Rattle.set_engine.proofs.stages.stage_views.Goals as goal

pub returns-in-Reader-clause-ok : goal.returns-in-Reader-clause-ok
returns-in-Reader-clause-ok g c =
    let leaf : is_leaf c.args.work.now ≡ true = elim c.in-Reader.is [ inl r ↦ ap is_leaf r.1 | inr (inl h) ↦ ap is_leaf h.1 | inr (inr t) ↦ ap is_leaf t.1 ] in
    let ensures = c.leaf_views.ensures in
    leaf-gave g.P.PlugFilter g.Q.PlugTally g.S.Source.bytes g.K.Sink.bytes c.args.taken c.args.work.now c.leaf_views.new.leaf c.leaf_views.result leaf ensures.leaf ensures.meaning ensures.ok ensures.fault

pub returns-in-Reader-clause-keeps : goal.returns-in-Reader-clause-keeps
returns-in-Reader-clause-keeps g c =
    let leaf : is_leaf c.args.work.now ≡ true = elim c.in-Reader.is [ inl r ↦ ap is_leaf r.1 | inr (inl h) ↦ ap is_leaf h.1 | inr (inr t) ↦ ap is_leaf t.1 ] in
    leaf-kept g.P.PlugFilter g.Q.PlugTally c.args.work.now c.leaf_views.new.leaf c.leaf_views.result leaf c.leaf_views.ensures.meaning

pub returns-in-Writer-clause-ok : goal.returns-in-Writer-clause-ok
returns-in-Writer-clause-ok g c =
    let ensures = c.written_views.ensures in
    writer-gave g.P.PlugFilter g.Q.PlugTally g.S.Source.bytes g.K.Sink.bytes c.args.taken c.args.work.now c.in-Writer.writer c.written_views.new.writer c.written_views.result c.in-Writer.is ensures.form ensures.fault ensures.value ensures.holds

pub shown_views-requires : goal.shown_views-requires
shown_views-requires g c =
    let fs = g.P.PlugFilter in
    let ts = g.Q.PlugTally in
    let work = c.args.work.now in
    let of : is_of_caller fs ts work ≡ true = elim c.in-Plug.is [ inl p ↦ ap (is_of_caller fs ts) p.1 | inr t ↦ ap (is_of_caller fs ts) t.1 ] in
    record {
      inner = (bare fs ts work of).inner;
      op = (bare fs ts work of).op;
      ample = λ v e. (bare fs ts v (stays-bare fs ts work v of e)).ample;
    }

pub returns-in-Plug : goal.returns-in-Plug
returns-in-Plug g c =
    let fs = g.P.PlugFilter in
    let ts = g.Q.PlugTally in
    let work = c.args.work.now in
    let of : is_of_caller fs ts work ≡ true = elim c.in-Plug.is [ inl p ↦ ap (is_of_caller fs ts) p.1 | inr t ↦ ap (is_of_caller fs ts) t.1 ] in
    let ensures = c.shown_views.ensures in
    let new = c.shown_views.new.work in
    record {
      ok = caller-gave fs ts g.K.Sink.bytes c.args.taken work new of ensures.meaning g.S.Source.bytes c.shown_views.result ensures.value ensures.fault ensures.state;
      caused = none-caused _ _ _ c.shown_views.result ensures.no_device (caller-calm fs ts g.S.Source.faults g.K.Sink.faults work new of ensures.meaning);
      keeps = caller-kept fs ts work new c.shown_views.result of ensures.meaning;
      after = caller-after fs ts g.S.Source.faults g.K.Sink.faults work new of ensures.meaning;
    }
