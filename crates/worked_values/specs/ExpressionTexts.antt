-- Texts and what they say, by the definitions alone.
use Rattle.std.specs.Prelude.{◌≡◌, pos, [], true, Some, None, Ok, codes}
use Rattle.std.proofs.Common.{refl}
use Rattle.cloud_points.specs.Points.{zero_point}
use Rattle.decimal_coords.specs.DecimalOfText.{decimal_of_text}
use Rattle.expr_eval.specs.Bindings.{dim_of}
use Rattle.expr_eval.specs.Values.{holds_at, value_of}
use Rattle.expr_lang.specs.declared.op.BinaryOp.TheVariants.{Or, And, Above, Equal, Times, Over}
use Rattle.expr_lang.specs.Formula.{number, name, not, binary, renamed}
use Rattle.expr_lang.specs.Said.{condition_of, assignment_of_text}

-- `&&` binds tighter than `||`
tighter : condition_of (codes "!(X>1.5)||a==b&&2>c")
    ≡ Some (binary Or (not (binary Above (name (codes "X")) (number (pos 1500000000)))) (binary And (binary Equal (name (codes "a")) (name (codes "b"))) (binary Above (number (pos 2000000000)) (name (codes "c")))))
unfolding condition_of decimal_of_text
tighter = refl

no_condition : condition_of (codes "(Z) && X > 1") ≡ None
unfolding condition_of decimal_of_text
no_condition = refl

assignment : assignment_of_text (codes "Z = 2 * Z WHERE X > 0") ≡ Some (record {
  target = codes "Z";
  value = binary Times (number (pos 2000000000)) (name (codes "Z"));
  only = Some (binary Above (name (codes "X")) (number (pos 0)));
})
unfolding assignment_of_text decimal_of_text
assignment = refl

-- 2 / 3
rounded : value_of (binary Over (number (pos 2000000000)) (number (pos 3000000000))) zero_point ≡ Ok (pos 666666667)
rounded = refl

-- a divisor of 0 stands behind what decides
decided : holds_at (renamed (dim_of []) (binary Or (binary Equal (name (codes "x")) (number (pos 0))) (binary Above (binary Over (name (codes "x")) (number (pos 0))) (number (pos 1))))) zero_point ≡ Ok true
decided = refl
