use Rattle.std.proofs.Common.{◌≤◌, ◌-◌, ◌++◌, List, length, drop}
use Rattle.expr_lang.specs.declared.token.Placed.{Placed}
use Rattle.expr_lang.specs.Lexical.{IsLexed}
use Rattle.expr_lang.proofs.split.lexed.Given as goal

abbrev pub decreases-loop-at : goal.decreases-loop-at
decreases-loop-at l = length l.initial.text - l.at

-- whatever the rest is, it completes the text
abbrev pub invariant-loop-at : goal.invariant-loop-at
invariant-loop-at l = record {
  within : l.at ≤ length l.text;
  rest : (ts : List Placed) → IsLexed l.at (drop l.at l.text) ts → IsLexed 0 l.text (l.out.items ++ ts);
}
