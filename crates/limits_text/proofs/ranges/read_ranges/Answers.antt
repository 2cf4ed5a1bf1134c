use Rattle.std.proofs.Common.{arith, rules, ap, sym, refl, ◌∙◌, ◌≡◌, Ok, length}
use Rattle.std.proofs.lemmas.Str.{IsCharBoundary-start}
use Rattle.limits_text.specs.Ranges.{are_full}
use Rattle.limits_text.proofs.RangeSteps.{range_taken, range_right, range_named, range_whole, range_past}
use Rattle.limits_text.proofs.ranges.read_ranges.Goals as goal

pub loop-alloc-init : goal.loop-alloc-init
loop-alloc-init c = record {
  reached = search rules;
  right = refl;
  named = (omega arith, omega arith, IsCharBoundary-start c.args.text.now c.utf8.text, IsCharBoundary-start c.args.text.now c.utf8.text);
  shown = search rules;
}

pub past_limit-requires-clause-past : goal.past_limit-requires-clause-past
past_limit-requires-clause-past c =
    let l = c.loop-alloc in
    let n : c.len.result ≡ length l.draft.ranges.items = search rules in
    range_past l.control l.draft.ranges.items l.draft.interval _ _ l.invariant.shown l.invariant.reached.next ∙ ap (are_full l.control) (sym n) ∙ sym c.are_full.ensures ∙ c.if-are_full.true

pub next_word-requires-clause-room : goal.next_word-requires-clause-room
next_word-requires-clause-room c =
    let l = c.loop-alloc in
    let n : c.len.result ≡ length l.draft.ranges.items = search rules in
    range_past l.control l.draft.ranges.items l.draft.interval _ _ l.invariant.shown l.invariant.reached.next ∙ ap (are_full l.control) (sym n) ∙ sym c.are_full.ensures ∙ c.if-are_full.false

pub loop-alloc-preserved : goal.loop-alloc-preserved
loop-alloc-preserved c =
    let l = c.loop-alloc in
    let text = c.args.text.now in
    let t = c.in_ok-step.ensures.word c.in-Some.step (ap Ok c.in-Some.is) in
    let n : c.len.result ≡ length l.draft.ranges.items = search rules in
    let f = ap (are_full l.control) (sym n) ∙ sym c.are_full.ensures ∙ c.if-are_full.false in
    record {
      reached = t.reached;
      right = range_right l.control text l.at l.draft.ranges.items l.draft.interval _ c.in-Some.step t l.invariant.shown l.invariant.reached.next f l.invariant.right;
      named = rw (c.in_ok-add_word.ensures.from, c.in_ok-add_word.ensures.to) (range_named l.control text l.at l.draft.from l.draft.to c.in-Some.step c.utf8.text t l.invariant.named);
      shown = rw (c.in_ok-add_word.ensures.ranges, c.in_ok-add_word.ensures.interval, c.in_ok-add_word.ensures.name)
          (range_taken l.control text l.at l.draft.ranges.items l.draft.interval _ c.in-Some.step t l.invariant.shown f);
    }

pub returns-in_default-clause-ok : goal.returns-in_default-clause-ok
returns-in_default-clause-ok c =
    let l = c.loop-alloc in
    let w = c.in_ok-step.ensures.whole (ap Ok c.in_default.is) in
    range_whole l.control c.args.text.now l.at l.draft.ranges.items l.draft.interval _ w.1 w.2 l.invariant.shown
