use Rattle.std.proofs.Common.{◌≡◌, ◌++◌, ◌∙◌, ℕ, List, ap, codes, decimal, append_assoc}
use Rattle.cloud_points.specs.Dims.{name_of}
use Rattle.run_report.specs.Faults.{point_text}
use Rattle.run_report.proofs.faults.push_point_fault.Goals as goal

-- a text and two pieces behind it
two_pieces : (old first all a b : List ℕ) → first ≡ old ++ a → all ≡ first ++ b → all ≡ old ++ (a ++ b)
two_pieces old first all a b p q = q ∙ ap (λ xs. xs ++ b) p ∙ append_assoc old a b

pub returns-in-Cut-clause-bytes : goal.returns-in-Cut-clause-bytes
returns-in-Cut-clause-bytes c =
    rw c.in-Cut.is (two_pieces c.args.text.now.bytes c.push_str.new.self.bytes c.push_number.new.text.bytes (codes "file ends before record ") (decimal c.in-Cut.number) c.push_str.ensures.bytes c.push_number.ensures.bytes)

pub returns-in-NotHeld-clause-bytes : goal.returns-in-NotHeld-clause-bytes
returns-in-NotHeld-clause-bytes c =
    let named = two_pieces c.args.text.now.bytes c.push_point.new.text.bytes c.push_str-in-NotHeld.new.self.bytes (point_text c.in-NotHeld.number) (name_of c.in-NotHeld.dim) c.push_point.ensures.bytes
    (c.push_str-in-NotHeld.ensures.bytes ∙ ap (λ xs. c.push_point.new.text.bytes ++ xs) c.name.ensures.name) in
    rw c.in-NotHeld.is (two_pieces c.args.text.now.bytes c.push_str-in-NotHeld.new.self.bytes c.push_str-in-NotHeld-2.new.self.bytes (point_text c.in-NotHeld.number ++ name_of c.in-NotHeld.dim) (codes " not held by the scale") named c.push_str-in-NotHeld-2.ensures.bytes)

pub returns-in-DivideByZero-clause-bytes : goal.returns-in-DivideByZero-clause-bytes
returns-in-DivideByZero-clause-bytes c =
    rw c.in-DivideByZero.is (two_pieces c.args.text.now.bytes c.push_point-in-DivideByZero.new.text.bytes c.push_str-in-DivideByZero.new.self.bytes (point_text c.in-DivideByZero.number) (codes "division by zero") c.push_point-in-DivideByZero.ensures.bytes c.push_str-in-DivideByZero.ensures.bytes)

pub returns-in-TooMany-clause-bytes : goal.returns-in-TooMany-clause-bytes
returns-in-TooMany-clause-bytes c =
    rw c.in-TooMany.is (two_pieces c.args.text.now.bytes c.push_point-in-TooMany.new.text.bytes c.push_str-in-TooMany.new.self.bytes (point_text c.in-TooMany.number) (codes "more than 4294967295 points") c.push_point-in-TooMany.ensures.bytes c.push_str-in-TooMany.ensures.bytes)
