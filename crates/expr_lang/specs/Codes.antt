-- How the logic stores a formula: its parts in postfix order, which a stack reads back.
use Rattle.std.specs.Prelude.{◌≡◌, ℕ, ℤ, pos, ◌==◌, if◌then◌else◌, ◌⊎◌, List, [], ◌∷◌, ◌++◌}
use Rattle.std.proofs.Common.{refl, ap, sym, ◌∙◌, inl, inr, append_assoc, append-nil}
use Rattle.std.specs.Coded.{Coded, code_by, coded⊎, coded_ℕ, coded_ℤ, coded_list}
use Rattle.expr_lang.specs.declared.op.BinaryOp.{BinaryOp}
use Rattle.expr_lang.specs.declared.op.BinaryOp.TheVariants.{Or, And, Equal, Different, AtMost, AtLeast, Below, Above, Plus, Minus, Times, Over}
use Rattle.expr_lang.specs.Formula.{Formula, number, name, minus, not, binary}

abbrev op_number : BinaryOp → ℕ
op_number Or = 2
op_number And = 3
op_number Equal = 4
op_number Different = 5
op_number AtMost = 6
op_number AtLeast = 7
op_number Below = 8
op_number Above = 9
op_number Plus = 10
op_number Minus = 11
op_number Times = 12
op_number Over = 13

abbrev op_numbered : ℕ → BinaryOp
op_numbered n = if n == 2 then Or
    else (if n == 3 then And
    else (if n == 4 then Equal
    else (if n == 5 then Different
    else (if n == 6 then AtMost
    else (if n == 7 then AtLeast
    else (if n == 8 then Below
    else (if n == 9 then Above
    else (if n == 10 then Plus
    else (if n == 11 then Minus
    else (if n == 12 then Times
    else Over))))))))))

-- a number, a name or an operator: 0 is the minus before one operand, 1 the `!`, the rest stand between two
abbrev Part : Type 0 → Type 0
Part N = (ℤ ⊎ N) ⊎ ℕ

module _ {N : Type 0} where
  abbrev parts_of : Formula N → List (Part N)
  parts_of (number n) = inl (inl n) ∷ []
  parts_of (name n) = inl (inr n) ∷ []
  parts_of (minus a) = parts_of a ++ inr 0 ∷ []
  parts_of (not a) = parts_of a ++ inr 1 ∷ []
  parts_of (binary o a b) = parts_of a ++ (parts_of b ++ inr (op_number o) ∷ [])

  abbrev one_taken : (Formula N → Formula N) → List (Formula N) → List (Formula N)
  one_taken f [] = []
  one_taken f (a ∷ st) = f a ∷ st

  abbrev two_taken : BinaryOp → List (Formula N) → List (Formula N)
  two_taken o [] = []
  two_taken o (b ∷ []) = []
  two_taken o (b ∷ a ∷ st) = binary o a b ∷ st

  abbrev read_part : Part N → List (Formula N) → List (Formula N)
  read_part (inl (inl n)) st = number n ∷ st
  read_part (inl (inr n)) st = name n ∷ st
  read_part (inr n) st = if n == 0 then one_taken minus st else (if n == 1 then one_taken not st else two_taken (op_numbered n) st)

  abbrev read_parts : List (Part N) → List (Formula N) → List (Formula N)
  read_parts [] st = st
  read_parts (p ∷ ps) st = read_parts ps (read_part p st)

  abbrev last_read : List (Formula N) → Formula N
  last_read [] = number (pos 0)
  last_read (f ∷ st) = f

  operator_read : (o : BinaryOp) (a b : Formula N) (st : List (Formula N)) → read_part (inr (op_number o)) (b ∷ a ∷ st) ≡ binary o a b ∷ st
  operator_read Or a b st = refl
  operator_read And a b st = refl
  operator_read Equal a b st = refl
  operator_read Different a b st = refl
  operator_read AtMost a b st = refl
  operator_read AtLeast a b st = refl
  operator_read Below a b st = refl
  operator_read Above a b st = refl
  operator_read Plus a b st = refl
  operator_read Minus a b st = refl
  operator_read Times a b st = refl
  operator_read Over a b st = refl

  pub formula_read : (f : Formula N) (ps : List (Part N)) (st : List (Formula N)) → read_parts (parts_of f ++ ps) st ≡ read_parts ps (f ∷ st)
  formula_read (number n) ps st = refl
  formula_read (name n) ps st = refl
  formula_read (minus a) ps st = ap (λ z. read_parts z st) (append_assoc (parts_of a) (inr 0 ∷ []) ps) ∙ formula_read a (inr 0 ∷ ps) st
  formula_read (not a) ps st = ap (λ z. read_parts z st) (append_assoc (parts_of a) (inr 1 ∷ []) ps) ∙ formula_read a (inr 1 ∷ ps) st
  formula_read (binary o a b) ps st =
      ap (λ z. read_parts z st) (append_assoc (parts_of a) (parts_of b ++ inr (op_number o) ∷ []) ps)
      ∙ formula_read a ((parts_of b ++ inr (op_number o) ∷ []) ++ ps) st
      ∙ ap (λ z. read_parts z (a ∷ st)) (append_assoc (parts_of b) (inr (op_number o) ∷ []) ps)
      ∙ formula_read b (inr (op_number o) ∷ ps) (a ∷ st)
      ∙ ap (read_parts ps) (operator_read o a b st)

  pub formula_back : (f : Formula N) → last_read (read_parts (parts_of f) []) ≡ f
  formula_back f = ap (λ z. last_read (read_parts z [])) (sym (append-nil (parts_of f))) ∙ ap last_read (formula_read f [] [])

  -- the code of formulas over names that have a code
  abbrev pub formula_code : Coded N → Coded (Formula N)
  formula_code names = code_by (List (Part N)) (coded_list (coded⊎ (coded⊎ coded_ℤ names) coded_ℕ)) parts_of (λ ps. last_read (read_parts ps [])) formula_back
