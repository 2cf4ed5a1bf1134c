use Rattle.std.proofs.Common.{arith, rules, ap, sym, ◌∙◌, ◌≡◌, Ok, length}
use Rattle.std.specs.Prelude.{◌&&◌, not}
use Rattle.limits_text.specs.Wrong.{is_ring}
use Rattle.limits_text.specs.Rings.{is_full, ends_ring}
use Rattle.limits_text.proofs.RingSteps.{ring_taken, ring_right, ring_fault, ring_whole, past_is}
use Rattle.limits_text.proofs.polygon.read_corners.Goals as goal

pub past_limit-requires-clause-past : goal.past_limit-requires-clause-past
past_limit-requires-clause-past c =
    let l = c.loop-control in
    let n : c.len.result ≡ length l.ring.corners.items = search rules in
    past_is l.control l.ring.corners.items l.ring.x l.ring.corner _ l.invariant.shown l.invariant.reached.next ∙ ap (is_full l.control) (sym n) ∙ sym c.is_full.ensures ∙ c.if-is_full.true

pub next_word-requires-clause-room : goal.next_word-requires-clause-room
next_word-requires-clause-room c =
    let l = c.loop-control in
    let n : c.len.result ≡ length l.ring.corners.items = search rules in
    past_is l.control l.ring.corners.items l.ring.x l.ring.corner _ l.invariant.shown l.invariant.reached.next ∙ ap (is_full l.control) (sym n) ∙ sym c.is_full.ensures ∙ c.if-is_full.false

pub returns-then-is_broken-clause-fault : goal.returns-then-is_broken-clause-fault
returns-then-is_broken-clause-fault c =
    let l = c.loop-control in
    let t = c.in_ok-step.ensures.word c.in-Some.step (ap Ok c.in-Some.is) in
    let n : c.len.result ≡ length l.ring.corners.items = search rules in
    let f = ap (is_full l.control) (sym n) ∙ sym c.is_full.ensures ∙ c.if-is_full.false in
    let r = ap (λ ps. ends_ring l.control c.in-Some.step.kind && not (is_ring ps)) (sym c.as_slice.ensures.value) ∙ sym c.is_broken.ensures ∙ c.if-is_broken.true in
    ring_fault l.control c.args.text.now l.at l.ring.corners.items l.ring.x l.ring.corner c.in-Some.step t l.invariant.shown l.invariant.reached.next f r l.invariant.right

pub loop-control-smaller : goal.loop-control-smaller
loop-control-smaller c =
    let t = c.in_ok-step.ensures.word c.in-Some.step (ap Ok c.in-Some.is) in
    omega (arith, t.from, t.low, t.within)

pub loop-control-preserved : goal.loop-control-preserved
loop-control-preserved c =
    let l = c.loop-control in
    let t = c.in_ok-step.ensures.word c.in-Some.step (ap Ok c.in-Some.is) in
    let n : c.len.result ≡ length l.ring.corners.items = search rules in
    let f = ap (is_full l.control) (sym n) ∙ sym c.is_full.ensures ∙ c.if-is_full.false in
    let r = ap (λ ps. ends_ring l.control c.in-Some.step.kind && not (is_ring ps)) (sym c.as_slice.ensures.value) ∙ sym c.is_broken.ensures ∙ c.if-is_broken.false in
    record {
      reached = t.reached;
      right = ring_right l.control c.args.text.now l.at l.ring.corners.items l.ring.x l.ring.corner c.in-Some.step t l.invariant.shown l.invariant.reached.next f r l.invariant.right;
      shown = rw (c.in_ok-add_word.ensures.corners, c.in_ok-add_word.ensures.x, c.in_ok-add_word.ensures.corner)
          (ring_taken l.control c.args.text.now l.at l.ring.corners.items l.ring.x l.ring.corner c.in-Some.step t l.invariant.shown f r);
    }

pub returns-in_default-clause-ok : goal.returns-in_default-clause-ok
returns-in_default-clause-ok c =
    let l = c.loop-control in
    let w = c.in_ok-step.ensures.whole (ap Ok c.in_default.is) in
    ring_whole l.control c.args.text.now l.at l.ring.corners.items l.ring.x l.ring.corner w.1 w.2 l.invariant.shown
