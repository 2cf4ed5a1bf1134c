-- What a text says, as a function.
use Rattle.std.specs.Prelude.{ℕ, List, length, nat_lt, if◌then◌else◌, Option, Some, None, option_map}
use Rattle.expr_lang.specs.declared.expr.Assign.{Assign}
use Rattle.expr_lang.specs.declared.token.Placed.{Placed}
use Rattle.expr_lang.specs.Formula.{Formula}
use Rattle.expr_lang.specs.Machine.{start}
use Rattle.expr_lang.specs.Reading.{Reading, operand, fault, reading, AssignReading, parts, unread, assign_reading}
use Rattle.expr_lang.specs.Texts.{most_bytes, condition_sorts, assignment_sorts, formula_in}
use Rattle.expr_lang.specs.Tokens.{tokens_of}

-- what is said, where no operand is of the wrong sort
abbrev pub where_sound : {A : Type 0} → Option ℕ → A → Option A
where_sound None x = Some x
where_sound (Some at) x = None

-- ---- conditions

-- a condition that has all of these tokens, and each of its operands of its sort
abbrev pub condition_read : List Placed → Reading → Option (Formula (List ℕ))
condition_read ts (fault k kind) = None
condition_read ts (operand e k) = if nat_lt k (length ts) then None else where_sound (condition_sorts ts e) e.formula

-- the condition that tokens say
abbrev pub condition_in : List Placed → Option (Formula (List ℕ))
condition_in ts = condition_read ts (reading start 0 ts)

-- the condition that a text says; None where it has a fault
unfoldable pub condition_of : List ℕ → Option (Formula (List ℕ))
condition_of text = if nat_lt most_bytes (length text) then None else condition_in (tokens_of text)

-- ---- assignments

-- an assignment, with each of its operands of its sort
abbrev pub assignment_read : List Placed → AssignReading → Option Assign
assignment_read ts (unread k kind) = None
assignment_read ts (parts n v k only) =
    where_sound (assignment_sorts ts k v only) (record { target = n; value = v.formula; only = option_map formula_in only })

-- the assignment that tokens say
abbrev pub assignment_in : List Placed → Option Assign
assignment_in ts = assignment_read ts (assign_reading ts)

-- the assignment that a text says; None where it has a fault
unfoldable pub assignment_of_text : List ℕ → Option Assign
assignment_of_text text = if nat_lt most_bytes (length text) then None else assignment_in (tokens_of text)
