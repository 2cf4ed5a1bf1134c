use Rattle.std.proofs.Common.{rules, ap, ◌∙◌, refl}
use Rattle.network_core.specs.declared.turned.Turned.TheVariants.{Made}
use Rattle.network_core.specs.Shown.{shown, left, choice}
use Rattle.network_core.proofs.Rows.{end_row}
use Rattle.network_core.proofs.node.Node.begin.Goals as goal

pub returns-then-self-2-clause-begins : goal.returns-then-self-2-clause-begins
returns-then-self-2-clause-begins g c = (
  search rules,
  λ ins root cap input out. ap (λ n. left n input out Made) (c.make_end.ensures.made ins)
      ∙ end_row root cap (choice g.W.Work c.args.self.now c.make_end.new.self) (shown g.W.Work ins c.args.self.now) input out c.if-self.false c.if-self-2.true,
  record { above = λ root ns number. refl; left = λ ns. refl },
)
