-- A text has one answer.
use Rattle.std.specs.Prelude.{◌≡◌, ◌↔◌, ℕ, List, Option, Some, None}
use Rattle.expr_lang.specs.declared.fault.ExprFault.{ExprFault}
use Rattle.expr_lang.specs.declared.token.Placed.{Placed}
use Rattle.expr_lang.specs.Texts.{Saying, Says, HasTextFault}

-- tokens say one thing, with one first fault of sorts
abbrev pub IsOneSaying : {X : Type 0} → Saying X → Type 0
IsOneSaying {X = X} says = (ts : List Placed) (x y : X) (s r : Option ℕ) → says ts x s → says ts y r → (x ≡ y) × (s ≡ r)

-- a text says one thing or has one first fault, and never both
pub record HaveOneAnswer {X : Type 0} (says : Saying X) (deep : List Placed → Type 0) : Type 0 where
  pub one : (text : List ℕ) (x y : X) → Says says deep text x → Says says deep text y → x ≡ y
  pub either : (text : List ℕ) (x : X) (f : ExprFault) → Says says deep text x → HasTextFault says deep text f.at f.kind → ⊥
  pub first : (text : List ℕ) (f g : ExprFault) → HasTextFault says deep text f.at f.kind → HasTextFault says deep text g.at g.kind → f ≡ g

-- a text says exactly what the function gives, and has a fault exactly where it gives nothing
pub record IsReadBy {X : Type 0} (says : Saying X) (deep : List Placed → Type 0) (read : List ℕ → Option X) : Type 0 where
  pub said : (text : List ℕ) (x : X) → Says says deep text x ↔ (read text ≡ Some x)
  pub faulty : (text : List ℕ) → ((f : ExprFault) × HasTextFault says deep text f.at f.kind) ↔ (read text ≡ None)
