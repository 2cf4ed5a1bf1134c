-- The expressions that values of JSON are.
use Rattle.std.specs.Prelude.{ℕ, ◌&&◌, nat_le, List, [], ◌∷◌, length, Option, Some, None, option_map, option_and_then, if◌then◌else◌}
use Rattle.serde_json.specs.Data.{Data, array, Items, no_items, item}
use Rattle.serde_json.specs.Find.{as_str}
use Rattle.expr_lang.specs.Formula.{Formula}
use Rattle.expr_lang.specs.Said.{condition_of, assignment_of_text}
use Rattle.expr_lang.specs.declared.expr.Assign.{Assign}

-- a condition is a text
abbrev pub condition_with : Data → Option (Formula (List ℕ))
condition_with d = option_and_then condition_of (as_str d)

-- so is an assignment
abbrev pub assignment_with : Data → Option Assign
assignment_with d = option_and_then assignment_of_text (as_str d)

-- each of these is one
abbrev pub and_more : Option Assign → Option (List Assign) → Option (List Assign)
and_more (Some a) (Some more) = Some (a ∷ more)
and_more _ _ = None

abbrev pub all_assignments : Items → Option (List Assign)
all_assignments no_items = Some []
all_assignments (item d ds) = and_more (assignment_with d) (all_assignments ds)

-- one to 64 of them
abbrev pub some_and_few : List Assign → Option (List Assign)
some_and_few list = if nat_le 1 (length list) && nat_le (length list) 64 then Some list else None

-- the assignments of a text, or of an array of 1 to 64 texts
abbrev pub assignments_with : Data → Option (List Assign)
assignments_with (array ds) = option_and_then some_and_few (all_assignments ds)
assignments_with d = option_map (λ a. a ∷ []) (assignment_with d)
