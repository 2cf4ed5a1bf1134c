use Rattle.std.proofs.Common.{◌≡◌, ◌+◌, ◌<◌, ◌++◌, [], ◌∷◌, length, take, get_or, ap, sym, ◌∙◌, append-nil, arith}
use Rattle.std.proofs.lemmas.List.{length-append}
use Rattle.plug_stages.specs.Classes.{came_from, spaced}
use Rattle.plug_stages.specs.Printing.{are_printable}
use Rattle.plug_stages.proofs.Coming.{came_then, came_none, came_some}
use Rattle.plug_stages.proofs.classes.Classes.put_first.Goals.{then-self-class-gt0, else-self-class-gt0}
use Rattle.plug_stages.proofs.classes.Classes.put_first.Goals as goal

pub loop-class-preserved : goal.loop-class-preserved
loop-class-preserved c =
    let xs = c.args.self.now.counts in
    let at = c.loop-class.class in
    let cs = came_from 0 (take at xs) in
    let count = get_or xs at 0 in
    let so = c.loop-class.invariant in
    let inside : at < length xs = omega (arith, c.loop-class-test.true, c.type_inv.self) in
    elim c.if-self-class-gt0.branch [
      | then-self-class-gt0 w ↦
          let then : came_from 0 (take (at + 1) xs) ≡ cs ++ (at, count) ∷ [] = came_then xs at 0 inside ∙ ap (λ z. cs ++ z) (came_some at count w.if-self-class-gt0.true) in
          let more : length (cs ++ (at, count) ∷ []) ≡ length cs + 1 = length-append cs ((at, count) ∷ []) in
          let few = so.2 in
          let out = w.put_class.ensures in (
            ap (λ z. z.bytes) w.out-is ∙ out.bytes cs (sym so.1) so.0 ∙ ap (λ z. spaced (take 8 z)) (sym then),
            w.came-is ∙ ap (λ n. n + 1) so.1 ∙ sym more ∙ ap length (sym then),
            rw (w.out-is, w.came-is) out.len,
            rw w.came-is (omega (arith, so.3)),
            ap (λ z. are_printable z.bytes) w.out-is ∙ out.printable ∙ so.4,
          )
      | else-self-class-gt0 w ↦
          let none : count ≡ 0 = omega (arith, w.if-self-class-gt0.false) in
          let then : came_from 0 (take (at + 1) xs) ≡ cs = came_then xs at 0 inside ∙ ap (λ z. cs ++ z) (came_none at count none) ∙ append-nil cs in (
            ap (λ z. z.bytes) w.out-is ∙ so.0 ∙ ap (λ z. spaced (take 8 z)) (sym then),
            w.came-is ∙ so.1 ∙ ap length (sym then),
            rw (w.out-is, w.came-is) so.2,
            rw w.came-is (omega (arith, so.3)),
            ap (λ z. are_printable z.bytes) w.out-is ∙ so.4,
          )
    ]
