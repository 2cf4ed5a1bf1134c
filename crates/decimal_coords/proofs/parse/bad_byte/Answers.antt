use Rattle.std.proofs.Common.{arith, ◌≡◌, ℕ, ◌+◌, ◌<◌, ◌≤◌, take, length, List, sym, ap, ◌∙◌, refl, get_or}
use Rattle.std.proofs.lemmas.List.{take_more, take_all}
use Rattle.std.proofs.lemmas.Bool.{true≢false}
use Rattle.decimal_coords.specs.Scanning.{run, after, accepts}
use Rattle.decimal_coords.specs.declared.scan.Scan.{Scan}
use Rattle.decimal_coords.specs.declared.scan.Scan.TheVariants.{Start}
use Rattle.decimal_coords.proofs.Scanned.{run-append, alive, gone, accepted, decimal_if}
use Rattle.decimal_coords.proofs.parse.bad_byte.Goals as goal

one_more : (text : List ℕ) (i : ℕ) (s : Scan) → i < length text → s ≡ run Start (take i text) → after s (get_or text i 0) ≡ run Start (take (i + 1) text)
one_more text i s h e = rw (take_more text i 0 h, run-append Start (take i text), ← e) refl

whole_run : (text : List ℕ) (i : ℕ) → length text ≤ i → run Start (take i text) ≡ run Start text
whole_run text i h = ap (run Start) (take_all i text h)

pub returns-then-is_dead-clause-some : goal.returns-then-is_dead-clause-some
returns-then-is_dead-clause-some c = record {
  within = omega arith;
  front = alive (take c.loop-i.i c.args.text.now) (λ e. c.loop-i.invariant.alive (c.loop-i.invariant.reached ∙ e));
  stops = λ h. gone (take (c.loop-i.i + 1) c.args.text.now)
      (sym (one_more c.args.text.now c.loop-i.i c.loop-i.state h c.loop-i.invariant.reached) ∙ sym c.after_byte-next.ensures ∙ c.if-is_dead.ensures.0 refl);
  early = λ e d. absurd (omega arith);
}

pub loop-i-preserved : goal.loop-i-preserved
loop-i-preserved c = record {
  reached = c.after_byte-next.ensures ∙ one_more c.args.text.now c.loop-i.i c.loop-i.state c.loop-i-test.true c.loop-i.invariant.reached;
  alive = λ e. true≢false (sym (c.if-is_dead.ensures.1 e));
}

pub returns-then-is_whole-clause-none : goal.returns-then-is_whole-clause-none
returns-then-is_whole-clause-none c =
    decimal_if c.args.text.now (ap accepts (sym (c.loop-i.invariant.reached ∙ whole_run c.args.text.now c.loop-i.i (omega arith))) ∙ sym c.is_whole.ensures ∙ c.if-is_whole.true)

pub returns-else-is_whole-clause-some : goal.returns-else-is_whole-clause-some
returns-else-is_whole-clause-some c =
    let all = c.loop-i.invariant.reached ∙ whole_run c.args.text.now c.loop-i.i (omega arith) in
    record {
      within = omega arith;
      front = alive (take (length c.args.text.now) c.args.text.now)
          (λ e. c.loop-i.invariant.alive (all ∙ sym (whole_run c.args.text.now (length c.args.text.now) (omega arith)) ∙ e));
      stops = λ h. absurd (omega arith);
      early = λ e d. true≢false (sym (accepted c.args.text.now d) ∙ ap accepts (sym all) ∙ sym c.is_whole.ensures ∙ c.if-is_whole.false);
    }
