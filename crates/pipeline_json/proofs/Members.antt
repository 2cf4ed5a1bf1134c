-- Elements and members of JSON beside the lists that they stand for.
use Rattle.std.proofs.Common.{ℕ, ◌≡◌, ◌∙◌, option_map, sym, Vec, Some, None, if◌then◌else◌, List, [], ◌∷◌, map, filter, not, Bool, true, false, cond, ◌&&◌, String, Global, string_bytes, is_some, refl, ap}
use Rattle.std.specs.Bool.{Decides}
use Rattle.std.specs.Str.{bytes_eq}
use Rattle.std.proofs.lemmas.Slice.Eq.{bytes_eq-Decides}
use Rattle.std.specs.List.{list_all, AllZip}
use Rattle.serde_json.specs.Data.{Data, member}
use Rattle.serde_json.specs.View.{view, items_of, items_view, members_view}
use Rattle.serde_json.specs.declared.value.Value.{Value, Array}
use Rattle.serde_json.specs.Find.{as_str, as_array}
use Rattle.serde_json.proofs.Views.{view-Array}
use Rattle.pipeline_json.specs.Trees.{array_in}
use Rattle.pipeline_json.specs.Stages.{elements, inputs_in, is_own, without_own}

elements-items_of : (ds : List Data) → elements (items_of ds) ≡ ds
elements-items_of [] = refl
elements-items_of (d ∷ ds) = ap (λ x. d ∷ x) (elements-items_of ds)

-- the elements that an array of values stands for
pub elements-items_view : (vs : List Value) → elements (items_view vs) ≡ map view vs
elements-items_view vs = elements-items_of (map view vs)

pub list_all-map : {X Y : Type 0} (p : Y → Bool) (f : X → Y) (xs : List X) → list_all p (map f xs) ≡ list_all (λ x. p (f x)) xs
list_all-map p f [] = refl
list_all-map p f (x ∷ xs) = ap (λ b. p (f x) && b) (list_all-map p f xs)

kept : (b : Bool) (e : String Global × Value) (es : List (String Global × Value))
    → members_view (cond (not b) (e ∷ es) es) ≡ cond b (members_view es) (member (string_bytes e.0) (view e.1) (members_view es))
kept true e es = refl
kept false e es = refl

-- the options among the entries of a map
pub options_kept : (es : List (String Global × Value)) → members_view (filter (λ e. not (is_own (string_bytes e.0))) es) ≡ without_own (members_view es)
options_kept [] = refl
options_kept (e ∷ es) = rw (kept (is_own (string_bytes e.0)) e (filter (λ e. not (is_own (string_bytes e.0))) es), options_kept es) refl

all_or_none : (b : Bool) (vs : List Value) → (if b then Some (elements (items_view vs)) else None) ≡ (if b then Some (map view vs) else None)
all_or_none true vs = ap Some (elements-items_view vs)
all_or_none false vs = refl

-- the inputs that an array of values is
pub array_inputs : (v : Vec Value Global) (b : Bool) → b ≡ list_all (λ x. is_some (as_str (view x))) v.items → inputs_in (view (Array v)) ≡ (if b then Some (map view v.items) else None)
array_inputs v b is =
    ap inputs_in (view-Array v)
    ∙ ap (λ ds. if list_all (λ d. is_some (as_str d)) ds then Some (elements (items_view v.items)) else None) (elements-items_view v.items)
    ∙ ap (λ t. if t then Some (elements (items_view v.items)) else None) (list_all-map (λ d. is_some (as_str d)) view v.items ∙ sym is)
    ∙ all_or_none b v.items

-- the members of a clone
pub cloned_members : (es fs : List (String Global × Value)) → AllZip (λ p q. (string_bytes q.0 ≡ string_bytes p.0) × (view q.1 ≡ view p.1)) es fs → members_view fs ≡ members_view es
cloned_members [] [] h = refl
cloned_members [] (f ∷ fs) h = absurd h
cloned_members (e ∷ es) [] h = absurd h
cloned_members (e ∷ es) (f ∷ fs) h = rw (h.0.0, h.0.1, cloned_members es fs h.1) refl

same_decision : {P : Type 0} (a b : Bool) → Decides a P → Decides b P → a ≡ b
same_decision true true f g = refl
same_decision true false f g = sym (g.1 (f.0 refl))
same_decision false true f g = f.1 (g.0 refl)
same_decision false false f g = refl

-- a test of bytes that holds exactly where they are equal
pub is_bytes_eq : (b : Bool) (xs ys : List ℕ) → Decides b (xs ≡ ys) → b ≡ bytes_eq xs ys
is_bytes_eq b xs ys f = same_decision b (bytes_eq xs ys) f (bytes_eq-Decides xs ys)

-- the elements of an array, as a list and as the array of a pipeline
pub array_items : (v : Vec Value Global) → option_map elements (as_array (view (Array v))) ≡ Some (map view v.items)
array_items v = ap (λ d. option_map elements (as_array d)) (view-Array v) ∙ ap Some (elements-items_view v.items)

pub array_whole : (v : Vec Value Global) → option_map elements (as_array (view (Array v))) ≡ array_in (view (Array v))
array_whole v = rw (view-Array v) refl
