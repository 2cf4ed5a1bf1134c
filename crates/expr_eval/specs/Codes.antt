-- An assignment as a pair of parts, by which assignments are told apart.
use Rattle.std.specs.Prelude.{Option, refl}
use Rattle.std.specs.Coded.{Coded, code_by, coded×, coded_option}
use Rattle.cloud_points.specs.declared.dims.Dim.{Dim}
use Rattle.expr_lang.specs.Codes.{formula_code}
use Rattle.expr_lang.specs.Formula.{Formula}
use Rattle.expr_eval.specs.DimCodes.{dim_code}
use Rattle.expr_eval.specs.declared.assignment.Assignment.{Assignment}

abbrev pub expression_code : Coded (Formula Dim)
expression_code = formula_code dim_code

abbrev pub assignment_code : Coded Assignment
assignment_code =
    code_by (Dim × (Formula Dim × Option (Formula Dim))) (coded× dim_code (coded× expression_code (coded_option expression_code)))
    (λ a. (a.target, (a.value, a.only))) (λ t. record { target = t.0; value = t.1.0; only = t.1.1 }) (λ _. refl)
