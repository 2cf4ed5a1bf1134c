-- What a formula is bound to.
use Rattle.std.proofs.Common.{◌≡◌, ℕ, refl, ap, ◌∙◌, List, Bool, true, false, if◌then◌else◌, Option, Some, None, Result, Ok, Err}
use Rattle.std.specs.Option.{unwrap_or}
use Rattle.cloud_points.specs.Dims.{kind_of}
use Rattle.cloud_points.specs.ExtraNames.{dim_in}
use Rattle.cloud_points.specs.declared.dims.Dim.{Dim}
use Rattle.cloud_points.specs.declared.dims.Dim.TheVariants.{X}
use Rattle.cloud_points.specs.declared.dims.Kind.{Kind}
use Rattle.cloud_points.specs.declared.dims.Kind.TheVariants.{Fixed, Whole, Word}
use Rattle.text_bytes.specs.Steps.{and_then}
use Rattle.expr_lang.specs.Formula.{Formula, number, name, minus, not, binary, renamed}
use Rattle.expr_eval.specs.declared.bind.BindErr.{BindErr}
use Rattle.expr_eval.specs.declared.bind.BindErr.TheVariants.{Unknown}
use Rattle.expr_eval.specs.Bindings.{numeric_dim, held_dim, bound_dim, bound_in, dim_of}

-- the dimension that a name is bound to
pub dim_bound : (has : Dim → Bool) (names : List (List ℕ)) (n : List ℕ) (d : Dim) → bound_dim has names n ≡ Ok d → d ≡ dim_of names n
dim_bound has names n d = go (dim_in n names)
  where
    numeric : (x : Dim) (k : Kind) → numeric_dim n x k ≡ Ok d → d ≡ x
    numeric x Word h = absurd (cc)
    numeric x Fixed h = cc
    numeric x Whole h = cc

    held : (b : Bool) (x : Dim) → (if b then numeric_dim n x (kind_of x) else Err (Unknown n)) ≡ Ok d → d ≡ x
    held true x h = numeric x (kind_of x) h
    held false x h = absurd (cc)

    go : (o : Option Dim) → held_dim has n o ≡ Ok d → d ≡ unwrap_or o X
    go (Some x) h = held (has x) x h
    go None h = absurd (cc)

-- the value of a result that is there has a property that each value of it has
abbrev Gives : {A : Type 0} → Result A BindErr → A → Type 0
Gives {A} r y = (x : A) → r ≡ Ok x → x ≡ y

one_more : {A B : Type 0} (f : A → B) (r : Result A BindErr) (y : A) → Gives r y → Gives (and_then r (λ x. Ok (f x))) (f y)
one_more f (Ok x) y g b h = let e : b ≡ f x = cc in e ∙ ap f (g x refl)
one_more f (Err e) y g b h = absurd (cc)

two_more : {A B : Type 0} (f : A → A → B) (r s : Result A BindErr) (y z : A) → Gives r y → Gives s z → Gives (and_then r (λ x. and_then s (λ v. Ok (f x v)))) (f y z)
two_more f (Ok x) s y z g k b h = one_more (f x) s z k b h ∙ ap (λ w. f w z) (g x refl)
two_more f (Err e) s y z g k b h = absurd (cc)

-- a formula that is bound has the dimension of each name in its place
pub bound_renamed : (has : Dim → Bool) (names : List (List ℕ)) (f : Formula (List ℕ)) (b : Formula Dim) → bound_in has names f ≡ Ok b → b ≡ renamed (dim_of names) f
bound_renamed has names (number n) = λ b h. cc
bound_renamed has names (name n) = one_more name (bound_dim has names n) (dim_of names n) (dim_bound has names n)
bound_renamed has names (minus a) = one_more minus (bound_in has names a) (renamed (dim_of names) a) (bound_renamed has names a)
bound_renamed has names (not a) = one_more not (bound_in has names a) (renamed (dim_of names) a) (bound_renamed has names a)
bound_renamed has names (binary o a b) =
    two_more (binary o) (bound_in has names a) (bound_in has names b) (renamed (dim_of names) a) (renamed (dim_of names) b) (bound_renamed has names a) (bound_renamed has names b)
