use Rattle.std.proofs.Common.{◌≡◌, [], ◌∷◌, arith, length, drop, get_or, sym, ap, ◌∙◌, append-nil, append_assoc, true, false}
use Rattle.std.proofs.lemmas.List.{drop_all}
use Rattle.expr_lang.specs.Lexical.{at_end}
use Rattle.text_bytes.specs.Bytes.{is_space}
use Rattle.expr_lang.proofs.Spans.{space_on, token_on}
use Rattle.expr_lang.proofs.split.lexed.Goals as goal

pub loop-at-preserved-then-is_space : goal.loop-at-preserved-then-is_space
loop-at-preserved-then-is_space c =
    let e : length c.as_bytes-bytes.result.now ≡ length c.args.text.now = ap length c.as_bytes-bytes.ensures.value in
    let y : is_space (get_or c.args.text.now c.loop-at.at 0) ≡ true =
    ap (λ bs. is_space (get_or bs c.loop-at.at 0)) (sym c.as_bytes-bytes.ensures.value) ∙ sym c.is_space.ensures ∙ c.if-is_space.true in
    record { within = omega arith; rest = λ ts w. c.loop-at.invariant.rest ts (space_on c.args.text.now c.loop-at.at ts (omega arith) y w) }

pub loop-at-preserved : goal.loop-at-preserved
loop-at-preserved c =
    let e : length c.as_bytes-bytes.result.now ≡ length c.args.text.now = ap length c.as_bytes-bytes.ensures.value in
    let n : is_space (get_or c.args.text.now c.loop-at.at 0) ≡ false =
    ap (λ bs. is_space (get_or bs c.loop-at.at 0)) (sym c.as_bytes-bytes.ensures.value) ∙ sym c.is_space.ensures ∙ c.if-is_space.false in
    record {
      within = c.in_ok-first.ensures.within;
      rest = λ ts w. rw (c.in_ok-push.ensures.items, append_assoc) (c.loop-at.invariant.rest
          (record { at = c.loop-at.at; token = c.in_ok-first.first.token } ∷ ts)
          (token_on c.args.text.now c.loop-at.at c.in_ok-first.first ts (omega arith) n c.in_ok-first.ensures.token w));
    }

pub returns : goal.returns
returns c =
    let e : length c.as_bytes-bytes.result.now ≡ length c.args.text.now = ap length c.as_bytes-bytes.ensures.value in
    let none : drop c.loop-at.at c.args.text.now ≡ [] = drop_all c.loop-at.at c.args.text.now (omega arith) in
    rw append-nil at (c.loop-at.invariant.rest [] (rw none at_end))
