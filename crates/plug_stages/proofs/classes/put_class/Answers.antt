use Rattle.std.proofs.Common.{◌<◌, ◌++◌, refl, ap, ◌∙◌, arith}
use Rattle.std.specs.Prelude.{codes}
use Rattle.plug_stages.specs.Classes.{class_text}
use Rattle.plug_stages.specs.Printing.{are_printable}
use Rattle.plug_stages.proofs.Coming.{told_first, told_next}
use Rattle.plug_stages.proofs.Printable.{printable_behind}
use Rattle.plug_stages.proofs.classes.put_class.Goals.{then-before-gt0, else-before-gt0}
use Rattle.plug_stages.proofs.classes.put_class.Goals as goal

pub returns-after-before-gt0-clause-bytes : goal.returns-after-before-gt0-clause-bytes
returns-after-before-gt0-clause-bytes c others len is =
    let class = class_text (c.args.class, c.args.count) in
    let below : c.args.before < 8 = c.if-before-lt-MOST_TOLD.true in
    elim c.if-before-gt0.branch [
      | then-before-gt0 w ↦ c.push_class.ensures.bytes
          ∙ ap (λ z. z ++ class) (ap (λ z. z.bytes) w.out-is ∙ w.push_str.ensures.bytes ∙ ap (λ z. z ++ codes " ") is)
          ∙ told_next others (c.args.class, c.args.count) (let some = w.if-before-gt0.true in omega (arith, len, some)) (omega (arith, len, below))
      | else-before-gt0 w ↦ c.push_class.ensures.bytes
          ∙ ap (λ z. z ++ class) (ap (λ z. z.bytes) w.out-is ∙ is)
          ∙ told_first others (c.args.class, c.args.count) (let none = w.if-before-gt0.false in omega (arith, len, none))
    ]

pub returns-after-before-gt0-clause-printable : goal.returns-after-before-gt0-clause-printable
returns-after-before-gt0-clause-printable c = elim c.if-before-gt0.branch [
  | then-before-gt0 w ↦ c.push_class.ensures.printable
      ∙ ap are_printable (ap (λ z. z.bytes) w.out-is ∙ w.push_str.ensures.bytes) ∙ printable_behind c.args.out.now.bytes (codes " ") refl
  | else-before-gt0 w ↦ c.push_class.ensures.printable ∙ ap (λ z. are_printable z.bytes) w.out-is
]
