-- An assignment as a pair of parts, by which assignments are told apart.
use Rattle.std.specs.Prelude.{ℕ, List, Option, refl}
use Rattle.std.specs.Coded.{Coded, code_by, coded×, coded_list, coded_option, coded_ℕ}
use Rattle.expr_lang.specs.Codes.{formula_code}
use Rattle.expr_lang.specs.Formula.{Formula}
use Rattle.expr_lang.specs.declared.expr.Assign.{Assign}

abbrev pub name_code : Coded (List ℕ)
name_code = coded_list coded_ℕ

abbrev pub expression_code : Coded (Formula (List ℕ))
expression_code = formula_code name_code

abbrev pub assign_code : Coded Assign
assign_code =
    code_by (List ℕ × (Formula (List ℕ) × Option (Formula (List ℕ)))) (coded× name_code (coded× expression_code (coded_option expression_code)))
    (λ a. (a.target, (a.value, a.only))) (λ t. record { target = t.0; value = t.1.0; only = t.1.1 }) (λ _. refl)
