use Rattle.std.proofs.Common.{◌≡◌, arith, ap, ◌∙◌}
use Rattle.expr_lang.specs.Seen.{openers_in}
use Rattle.std.proofs.lemmas.Bool.{lt-ltb, ltb-true}
use Rattle.expr_lang.proofs.Depth.{openers_nest}
use Rattle.expr_lang.proofs.nesting.is_deep.Goals as goal

pub returns : goal.returns
returns c = let e = openers_nest c.args.frames.now.items in let k : c.openers.result ≡ openers_in c.args.frames.now.items = c.openers.ensures ∙ ap openers_in c.as_slice.ensures.value in
    ((λ t. let b = ltb-true 64 c.openers.result t in omega (arith, b, e, k)), (λ h. lt-ltb 64 c.openers.result (omega (arith, h, e, k))))
