use Rattle.std.proofs.Common.{sym, ◌∙◌, lit<, rules}
use Rattle.option_texts.proofs.Reading.{next_read, next_refused, all_read, last_refused}
use Rattle.option_texts.proofs.parts.read_all.Goals as goal

pub returns-in-None : goal.returns-in-None
returns-in-None g c =
    sym (next_refused g.P.ListPart.read c.args.text.now c.loop-part.list.items c.loop-part.rest.now c.in-Some.part.now c.in-Some.behind.now
    (c.in-Some.ensures.byte (lit< tt) (λ w o h. h)) (sym c.in_ok-read.ensures ∙ c.in-None.is) c.loop-part.invariant)

pub returns-in-None-2 : goal.returns-in-None-2
returns-in-None-2 g c =
    sym (last_refused g.P.ListPart.read c.args.text.now c.loop-part.list.items c.loop-part.rest.now
    (c.in_default.ensures.byte (lit< tt) (λ w o h. h)) (sym c.in_ok-read-2.ensures ∙ c.in-None-2.is) c.loop-part.invariant)

pub returns : goal.returns
returns g c =
    sym (all_read g.P.ListPart.read c.args.text.now c.loop-part.list.items c.push-in-Some-3.new.self.items c.loop-part.rest.now c.in-Some-3.read
    (c.in_default.ensures.byte (lit< tt) (λ w o h. h)) (sym c.in_ok-read-2.ensures ∙ c.in-Some-3.is) c.in_ok-push-in-Some-3.ensures.items c.loop-part.invariant)

pub loop-part-preserved : goal.loop-part-preserved
loop-part-preserved g c =
    next_read g.P.ListPart.read c.args.text.now c.loop-part.list.items c.push.new.self.items c.loop-part.rest.now c.in-Some.part.now c.in-Some.behind.now c.in-Some-2.read
    (search rules) (c.in-Some.ensures.byte (lit< tt) (λ w o h. h)) (sym c.in_ok-read.ensures ∙ c.in-Some-2.is) c.in_ok-push-in-Some-2.ensures.items c.loop-part.invariant
