-- Dimensions that are put into a set one after another.
use Rattle.std.proofs.Common.{◌≡◌, ℕ, ◌+◌, ◌<◌, Bool, true, false, ◌||◌, List, [], ◌∷◌, ◌++◌, length, take, get_or, refl, ap, sym, ◌∙◌}
use Rattle.std.proofs.lemmas.List.{take_more}
use Rattle.cloud_points.specs.declared.dims.Dim.{Dim}
use Rattle.cloud_points.specs.declared.dims.Dim.TheVariants.{X}
use Rattle.cloud_points.specs.Layouts.{is_same}
use Rattle.point_formats.specs.Layouts.{is_among}

or-assoc : (a b c : Bool) → (a || (b || c)) ≡ ((a || b) || c)
or-assoc true b c = refl
or-assoc false b c = refl

or-false : (a : Bool) → (a || false) ≡ a
or-false true = refl
or-false false = refl

or-swap : (a b c : Bool) → (a || (b || c)) ≡ ((b || a) || c)
or-swap true true c = refl
or-swap true false c = refl
or-swap false true c = refl
or-swap false false c = refl

pub among-append : (dim : Dim) (a b : List Dim) → is_among dim (a ++ b) ≡ (is_among dim a || is_among dim b)
among-append dim [] b = refl
among-append dim (first ∷ rest) b = ap (λ t. is_same first dim || t) (among-append dim rest b) ∙ or-assoc (is_same first dim) (is_among dim rest) (is_among dim b)

-- the first i dimensions are in the set, and what was there
abbrev pub Adding : List Dim → ℕ → (Dim → Bool) → (Dim → Bool) → Type 0
Adding dims i before now = (dim : Dim) → now dim ≡ (is_among dim (take i dims) || before dim)

pub adding_more : (dims : List Dim) (i : ℕ) (added : Dim) (before now after : Dim → Bool) → i < length dims → added ≡ get_or dims i X
    → ((dim : Dim) → after dim ≡ (is_same added dim || now dim)) → Adding dims i before now → Adding dims (i + 1) before after
adding_more dims i added before now after inside is put was = λ dim.
    let front = is_among dim (take i dims) in
    let one : is_among dim (take (i + 1) dims) ≡ (front || is_same added dim) =
    ap (is_among dim) (take_more dims i X inside) ∙ among-append dim (take i dims) (get_or dims i X ∷ []) ∙ ap (λ t. front || t) (or-false (is_same (get_or dims i X) dim) ∙ ap (λ d. is_same d dim) (sym is)) in
    put dim ∙ ap (λ t. is_same added dim || t) (was dim) ∙ or-swap (is_same added dim) front (before dim) ∙ ap (λ t. t || before dim) (sym one)
