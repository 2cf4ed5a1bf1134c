use Rattle.std.proofs.Common.{◌≡◌, ◌+◌, ◌-◌, ◌++◌, length, take, drop, arith, ◌∙◌, ap, length-take, length-drop}
use Rattle.std.proofs.lemmas.Grind.{common_steps}
use Rattle.file_devices.specs.Filled.{Fills}
use Rattle.file_devices.proofs.Filling.{front_is, cut_off}
use Rattle.file_devices.proofs.whole.read_more.Goals as goal

pub returns-clause-items : goal.returns-clause-items
returns-clause-items g c = λ b e.
    let old = c.args.bytes.now.items in
    let start = c.len-start.result in
    let xs = c.deref_mut.result.now in
    let len : length xs ≡ start + c.args.most = grind (arith, common_steps, c.in_ok-resize.ensures.items, c.deref_mut.ensures.value) in
    let front : take start xs ≡ old = grind (arith, common_steps, c.in_ok-resize.ensures.items, c.deref_mut.ensures.value) in
    let room : length (take (length xs - start) (drop start xs)) ≡ c.args.most = omega (arith, length-take (length xs - start) (drop start xs), length-drop start xs, len) in
    let fills : Fills (g.S.Source.bytes c.args.source.now) start c.in-Ok.count (take (length xs - start) (drop start xs)) c.fill.new.into = c.in-Ok.ensures.filled in
    let read = front_is (g.S.Source.bytes c.args.source.now) b (take (length xs - start) (drop start xs)) c.fill.new.into start c.in-Ok.count c.args.most room fills e in
    let now : c.truncate.new.self.items ≡ old ++ take c.in-Ok.count c.fill.new.into = c.truncate.ensures.items ∙ cut_off xs c.fill.new.into old _ start c.in-Ok.count c.resize.new.self.len front (omega arith) (omega (arith, c.fill.auto.into, room)) (omega (arith, c.deref_mut.ensures.len)) in
    now ∙ ap (λ l. old ++ l) read ∙ ap (λ n. old ++ take c.args.most (drop n b)) (omega arith)
