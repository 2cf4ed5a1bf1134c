use Rattle.std.proofs.Common.{◌≡◌, ◌<◌, [], ◌∷◌, ◌++◌, map, reverse, take, length, vec_len, ap, sym, subst, ◌∙◌, arith}
use Rattle.std.proofs.Math.Seq.{take-length}
use Rattle.std.proofs.lemmas.List.{map-append, reverse-reverse}
use Rattle.std.specs.Prelude.{slice_get}
use Rattle.network_core.specs.Shown.{work_of}
use Rattle.answer_model.specs.Values.{stage_at}
use Rattle.stage_forms.specs.Starts.{AreAtStart}
use Rattle.stage_forms.proofs.AtStart.{somehow}
use Rattle.held_devices.proofs.Lists.{each-push, popped, one_less, none_left, take-more}
use Rattle.run_engine.proofs.Inputs.{leaf-at}
use Rattle.run_engine.proofs.NewNodes.{IsNew}
use Rattle.run_engine.proofs.nodes.nodes_over.Goals as goal

pub loop-work-init : goal.loop-work-init
loop-work-init g c =
    let turned = c.reverse.ensures.items in
    let empty = c.requires.empty in
    record {
      left = ap reverse turned ∙ reverse-reverse c.args.works.items;
      count = (let a = c.reverse.ensures.len in let k = c.args.works.ok in omega (arith, a, k));
      moved = ap (map work_of) empty;
      nodes = (let k = c.args.room.ok in let z = ap (λ xs. length xs) empty in omega (arith, k, z));
      room = c.requires.room;
      new = λ i n e. (let none = sym (ap (λ xs. slice_get xs i) empty) ∙ e in cc);
    }

pub inputs_of-requires-clause-inside : goal.inputs_of-requires-clause-inside
inputs_of-requires-clause-inside g c =
    let n = one_less c.loop-work.at (vec_len c.loop-work.works) (vec_len c.pop.new.self) (length c.args.works.items) c.loop-work.invariant.count c.in-Some.ensures.cases in
    let a = n.0 in
    let b = c.requires.count in
    omega (arith, a, b)

pub new-requires-clause-leaf : goal.new-requires-clause-leaf
new-requires-clause-leaf g c =
    let now = c.loop-work.invariant in
    let p = popped c.args.works.items c.loop-work.works.items c.pop.new.self.items c.loop-work.at c.in-Some.work now.left c.in-Some.ensures.items in
    let n = one_less c.loop-work.at (vec_len c.loop-work.works) (vec_len c.pop.new.self) (length c.args.works.items) now.count c.in-Some.ensures.cases in
    let lt : c.loop-work.at < length c.args.stages.now = (let a = n.0 in let b = c.requires.count in omega (arith, a, b)) in
    let start = somehow g.K.Sink.bytes c.args.stages.now c.args.works.items c.requires.starts c.loop-work.at c.in-Some.work p.0 in
    let leaf = leaf-at g.S.Source g.K.Sink.bytes c.args.stages.now c.loop-work.at c.in-Some.work start.0 c.requires.tree lt start.1 in
    (λ h. c.inputs_of.ensures ∙ leaf.0 h, λ h. leaf.1 (sym c.inputs_of.ensures ∙ h))

pub loop-work-preserved : goal.loop-work-preserved
loop-work-preserved g c =
    let now = c.loop-work.invariant in
    let p = popped c.args.works.items c.loop-work.works.items c.pop.new.self.items c.loop-work.at c.in-Some.work now.left c.in-Some.ensures.items in
    let n = one_less c.loop-work.at (vec_len c.loop-work.works) (vec_len c.pop.new.self) (length c.args.works.items) now.count c.in-Some.ensures.cases in
    let pushed = c.push_reserved.ensures.items in
    let size : c.loop-work.at ≡ length c.loop-work.nodes.items = (let a = now.nodes in let k = c.loop-work.nodes.ok in omega (arith, a, k)) in
    let one : IsNew g.S.Source g.K.Sink g.P.PlugFilter g.Q.PlugTally c.args.stages.now c.args.chunk c.loop-work.at c.new.result = record {
      fresh = c.new.ensures.fresh ((stage_at c.args.stages.now c.loop-work.at).ins) (sym c.inputs_of.ensures);
      chunk_is = ap (λ x. x.chunk) (c.new.ensures.shown []);
    } in
    record {
      left = p.1;
      count = n.1;
      moved = ap (map work_of) pushed ∙ map-append work_of c.loop-work.nodes.items (c.new.result ∷ []) ∙ ap (λ xs. xs ++ work_of c.new.result ∷ []) now.moved
          ∙ ap (λ w. take c.loop-work.at c.args.works.items ++ w ∷ []) c.new.ensures.work ∙ sym (take-more c.args.works.items c.loop-work.at c.in-Some.work p.0);
      nodes = (let a = c.push_reserved.ensures.len in let b = now.nodes in omega (arith, a, b));
      room = (let a = c.push_reserved.ensures.capacity in let b = now.room in omega (arith, a, b));
      new = λ i m e. each-push (λ j x. IsNew g.S.Source g.K.Sink g.P.PlugFilter g.Q.PlugTally c.args.stages.now c.args.chunk j x) c.loop-work.nodes.items c.new.result c.loop-work.at size now.new one i m (ap (λ xs. slice_get xs i) (sym pushed) ∙ e);
    }

pub returns-clause-new : goal.returns-clause-new
returns-clause-new g c =
    let now = c.loop-work.invariant in
    let all = none_left (length c.args.works.items) c.loop-work.at (vec_len c.loop-work.works) now.count c.in_default.ensures.cases.0 in
    record {
      count = (let a = now.nodes in let k = c.loop-work.nodes.ok in let b = c.requires.count in omega (arith, a, k, b, all));
      fresh = λ i n e. (now.new i n e).fresh;
      works = subst (AreAtStart g.K.Sink.bytes c.args.stages.now)
          (sym (now.moved ∙ ap (λ n. take n c.args.works.items) all ∙ take-length c.args.works.items)) c.requires.starts;
    }

pub returns-clause-works : goal.returns-clause-works
returns-clause-works g c =
    let now = c.loop-work.invariant in
    let all = none_left (length c.args.works.items) c.loop-work.at (vec_len c.loop-work.works) now.count c.in_default.ensures.cases.0 in
    now.moved ∙ ap (λ n. take n c.args.works.items) all ∙ take-length c.args.works.items

pub returns-clause-chunk : goal.returns-clause-chunk
returns-clause-chunk g c = λ i n e. (c.loop-work.invariant.new i n e).chunk_is
