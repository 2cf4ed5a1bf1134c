use Rattle.std.proofs.Common.{arith, ap, subst, sym, ◌∙◌, inl, inr, ◌≡◌, ◌+◌, ◌-◌}
use Rattle.std.proofs.lemmas.Str.{IsCharBoundary-after_ascii}
use Rattle.std.specs.Str.{IsCharBoundary}
use Rattle.limits_text.proofs.Keywords.{unread}
use Rattle.std.specs.Prelude.{slice_range}
use Rattle.std.proofs.Common.{Err}
use Rattle.decimal_coords.specs.DecimalOfText.{decimal_of_text}
use Rattle.limits_text.proofs.Exits.{number_unheld, number_stops}
use Rattle.limits_text.proofs.steps.read_number.Goals as goal

pub range-requires-clause-end_boundary : goal.range-requires-clause-end_boundary
range-requires-clause-end_boundary c =
    let z : c.args.end - 1 + 1 ≡ c.args.end = omega arith in
    subst (IsCharBoundary c.args.text.now) z (IsCharBoundary-after_ascii c.args.text.now (c.args.end - 1) c.utf8.text (omega arith) c.requires.ascii)

pub returns-in-Err-clause-fault : goal.returns-in-Err-clause-fault
returns-in-Err-clause-fault c =
    inr (inl (number_unheld c.args.start c.args.control c.args.text.now c.args.place c.args.end (Err c.in-Err.fault) c.requires.before c.requires.low c.requires.within c.requires.word
    c.requires.cut c.requires.number c.requires.may c.requires.spaced c.requires.lives (ap decimal_of_text (sym c.range.ensures.value) ∙ sym c.in-Err.ensures.value)
    (sym c.is_unheld.ensures ∙ c.if-is_unheld.true)))

pub returns-in-Err-2-clause-fault : goal.returns-in-Err-2-clause-fault
returns-in-Err-2-clause-fault c =
    let value = ap decimal_of_text (sym c.range.ensures.value) ∙ sym c.in-Err.ensures.value in
    let unheld = sym c.is_unheld.ensures ∙ c.if-is_unheld.false in
    inl (number_stops c.args.start c.args.control c.args.text.now c.args.place c.args.end (Err c.in-Err.fault) c.requires.before c.requires.low c.requires.within c.requires.word
    c.requires.cut c.requires.number c.requires.may c.requires.spaced c.requires.lives value unheld
    (unread (slice_range c.args.text.now c.args.place c.args.end) c.in-Err.fault value unheld))
