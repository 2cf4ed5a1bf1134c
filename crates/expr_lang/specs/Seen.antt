-- What the program's values stand for.
use Rattle.std.specs.Prelude.{List, [], ◌∷◌, map, reverse, Option, Some, None, ℕ, ◌+◌, cond, Bool, true, false}
use Rattle.expr_lang.specs.declared.frame.OperandTree.{OperandTree}
use Rattle.expr_lang.specs.declared.frame.Pending.{Pending}
use Rattle.expr_lang.specs.declared.frame.Pending.TheVariants as frame
use Rattle.expr_lang.specs.Grammar.{Operand}
use Rattle.expr_lang.specs.Machine.{Waiting, State}
use Rattle.expr_lang.specs.Trees.{formula_of}
use Rattle.expr_lang.specs.Machine as machine

abbrev pub operand_of : OperandTree → Operand
operand_of p = record { formula = formula_of p.tree; wrong = p.wrong }

abbrev pub waiting_of : Pending → Waiting
waiting_of frame.Bracket = machine.bracket
waiting_of (frame.Sign at) = machine.sign at
waiting_of (frame.Denial at) = machine.denial at
waiting_of (frame.Left e at o) = machine.left (operand_of e) at o

-- the last frame is the innermost
abbrev pub waits : List Pending → List Waiting
waits fs = map waiting_of (reverse fs)

abbrev pub state_of : List Pending → Option OperandTree → State
state_of fs None = machine.wants (waits fs)
state_of fs (Some e) = machine.has (waits fs) (operand_of e)

abbrev pub is_opener : Waiting → Bool
is_opener machine.bracket = true
is_opener (machine.sign at) = true
is_opener (machine.denial at) = true
is_opener (machine.left l at o) = false

abbrev pub openers_in : List Pending → ℕ
openers_in [] = 0
openers_in (f ∷ fs) = cond (is_opener (waiting_of f)) 1 0 + openers_in fs
