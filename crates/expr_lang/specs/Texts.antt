-- What a text says, or its first fault.
use Rattle.std.specs.Prelude.{◌≡◌, ℕ, ◌+◌, ◌<◌, ◌≤◌, ◌⊎◌, List, [], ◌∷◌, ◌++◌, length, slice_get, option_map, Bool, false, not as opposite, Option, Some, None}
use Rattle.expr_lang.specs.declared.fault.ExprKind.{ExprKind}
use Rattle.expr_lang.specs.declared.fault.ExprKind.TheVariants.{Unexpected, TooLong}
use Rattle.expr_lang.specs.declared.expr.Assign.{Assign}
use Rattle.expr_lang.specs.declared.fault.ExprFault.{ExprFault}
use Rattle.expr_lang.specs.declared.token.Token.TheVariants as token
use Rattle.expr_lang.specs.declared.token.Placed.{Placed}
use Rattle.expr_lang.specs.Faults.{Language, IsFirstFault, HasNoFault}
use Rattle.expr_lang.specs.Formula.{Formula, is_condition}
use Rattle.expr_lang.specs.Fronts.{IsTooDeep}
use Rattle.expr_lang.specs.Grammar.{Operand, placed, IsWritten, IsExpression, first_place, place_if}
use Rattle.expr_lang.specs.Lexical.{IsLexed}

-- the most bytes of a text
abbrev pub most_bytes : ℕ
most_bytes = 4096

-- the place of a token, or of the end of the text
abbrev pub place_at : ℕ → Option Placed → ℕ
place_at size None = size
place_at size (Some p) = p.at

-- ---- texts of any language

-- a language by what its tokens say, and the place of their first fault of sorts
abbrev pub Saying : Type 0 → Type 1
Saying X = List Placed → X → Option ℕ → Type 0

abbrev pub language : {X : Type 0} → Saying X → (List Placed → Type 0) → Language
language {X = X} says deep = record { IsWhole = λ ts. (x : X) × (wrong : Option ℕ) × says ts x wrong; IsDeep = deep }

-- the text says this: no token has a fault, and each operand is of its sort
pub record Says {X : Type 0} (says : Saying X) (deep : List Placed → Type 0) (text : List ℕ) (x : X) : Type 0 where
  pub size : length text ≤ most_bytes
  pub tokens : List Placed
  pub lexed : IsLexed 0 text tokens
  pub none : HasNoFault (language says deep) tokens
  pub said : says tokens x None

-- the first fault of tokens: that of the first token that has one, then that of sorts; the end is at `size`
pub data HasTokenFault {X : Type 0} (says : Saying X) (deep : List Placed → Type 0) (size : ℕ) (ts : List Placed) : ℕ → ExprKind → Type 0 where
  at_a_token : {kind : ExprKind} (k : ℕ) → IsFirstFault (language says deep) ts k kind → HasTokenFault says deep size ts (place_at size (slice_get ts k)) kind
  of_a_sort : {at : ℕ} (x : X) → HasNoFault (language says deep) ts → says ts x (Some at) → HasTokenFault says deep size ts at Unexpected

-- the first fault of a text: its length, then that of its tokens
pub data HasTextFault {X : Type 0} (says : Saying X) (deep : List Placed → Type 0) (text : List ℕ) : ℕ → ExprKind → Type 0 where
  too_long : most_bytes < length text → HasTextFault says deep text most_bytes TooLong
  in_tokens : {at : ℕ} {kind : ExprKind} (ts : List Placed) → length text ≤ most_bytes → IsLexed 0 text ts → HasTokenFault says deep (length text) ts at kind
      → HasTextFault says deep text at kind

-- ---- conditions

-- the first fault of sorts of a condition: the first operator with an operand of the wrong sort, or else, where all is a value, its first byte
abbrev pub condition_sorts : List Placed → Operand → Option ℕ
condition_sorts ts e = first_place e.wrong (place_if (opposite (is_condition e.formula)) (place_at 0 (slice_get ts 0)))

pub record IsConditionSaid (ts : List Placed) (f : Formula (List ℕ)) (wrong : Option ℕ) : Type 0 where
  pub own : Operand
  pub written : IsWritten 1 ts own
  pub formula : f ≡ own.formula
  pub sorts : wrong ≡ condition_sorts ts own

abbrev pub SaysCondition : List ℕ → Formula (List ℕ) → Type 0
SaysCondition text f = Says IsConditionSaid IsTooDeep text f

abbrev pub HasConditionFault : List ℕ → ExprFault → Type 0
HasConditionFault text fault = HasTextFault IsConditionSaid IsTooDeep text fault.at fault.kind

-- ---- assignments

abbrev pub formula_in : Operand → Formula (List ℕ)
formula_in e = e.formula

-- nothing, or WHERE and an operand
abbrev pub IsOnly : List Placed → Option Operand → Type 0
IsOnly rest None = rest ≡ []
IsOnly rest (Some c) = (at : ℕ) × (us : List Placed) × (rest ≡ placed at token.Where ∷ us) × IsWritten 1 us c

abbrev pub only_wrong : Option Operand → Option ℕ
only_wrong None = None
only_wrong (Some c) = c.wrong

-- whether a value stands behind WHERE
abbrev pub is_only_misfit : Option Operand → Bool
is_only_misfit None = false
is_only_misfit (Some c) = opposite (is_condition c.formula)

-- the first fault of sorts, where the value has `size` tokens: the first operator with an operand of the wrong sort, or else the first byte
-- of the first whole of the wrong sort; the value begins at token 2, and what is behind WHERE at token `size + 3`
abbrev pub assignment_sorts : List Placed → ℕ → Operand → Option Operand → Option ℕ
assignment_sorts ts size v only = first_place v.wrong (first_place (only_wrong only)
    (first_place (place_if (is_condition v.formula) (place_at 0 (slice_get ts 2))) (place_if (is_only_misfit only) (place_at 0 (slice_get ts (size + 3))))))

-- the tokens say an assignment: a name, `=`, an operand, and perhaps WHERE and an operand
pub record IsAssignmentSaid (ts : List Placed) (a : Assign) (wrong : Option ℕ) : Type 0 where
  pub name_at : ℕ
  pub assign_at : ℕ
  pub own : List Placed
  pub rest : List Placed
  pub value : Operand
  pub only : Option Operand
  pub shown : ts ≡ placed name_at (token.Name a.target) ∷ placed assign_at token.Assign ∷ own ++ rest
  pub written : IsWritten 1 own value
  pub where_so : IsOnly rest only
  pub value_is : a.value ≡ value.formula
  pub only_is : a.only ≡ option_map formula_in only
  pub sorts : wrong ≡ assignment_sorts ts (length own) value only

-- the tokens before an operand of an assignment
pub record IsLead (lead : List Placed) : Type 0 where
  pub name_at : ℕ
  pub target : List ℕ
  pub assign_at : ℕ
  pub value : List Placed
  pub shown : lead ≡ placed name_at (token.Name target) ∷ placed assign_at token.Assign ∷ value
  pub value_is : (value ≡ []) ⊎ ((own : List Placed) × (where_at : ℕ) × (value ≡ own ++ placed where_at token.Where ∷ []) × IsExpression own)

-- in one of its operands more than 64 are open behind these tokens
abbrev pub IsTooDeepAssignment : List Placed → Type 0
IsTooDeepAssignment ts = (lead : List Placed) × (us : List Placed) × (ts ≡ lead ++ us) × IsLead lead × IsTooDeep us

abbrev pub SaysAssignment : List ℕ → Assign → Type 0
SaysAssignment text a = Says IsAssignmentSaid IsTooDeepAssignment text a

abbrev pub HasAssignmentFault : List ℕ → ExprFault → Type 0
HasAssignmentFault text fault = HasTextFault IsAssignmentSaid IsTooDeepAssignment text fault.at fault.kind
