-- A sort of entries stands for a sort of their points.
use Rattle.std.proofs.Common.{◌≡◌, ℕ, ◌+◌, ◌<◌, Bool, true, false, cond, List, [], ◌∷◌, ◌++◌, length, length-append, get_or, map, ⊎_elim, refl, ap, sym, ◌∙◌, subst, arith}
use Rattle.std.specs.Prelude.{ℤ, int_lt, pos, ◌+ℤ◌, ◌-ℤ◌, slice_get, Some}
use Rattle.std.specs.Cmp.{IsStrictWeakOrder}
use Rattle.std.specs.List.{range_with_len}
use Rattle.std.specs.List.Sorted.{IsPermutation}
use Rattle.std.proofs.lemmas.Bool.{cases_eq}
use Rattle.std.proofs.lemmas.List.{same_lists, get_or-map, get_or_default, get_or_push, get_or_append_left, length-map, map-id}
use Rattle.std.proofs.lemmas.Option.{get_or_from_slice_get}
use Rattle.std.proofs.lemmas.List.FromFn.{fill_by_all}
use Rattle.std.proofs.lemmas.List.Sorted.{IsPermutation-map}
use Rattle.std.proofs.lemmas.Int.{ints}
use Rattle.cloud_points.specs.Points.{key_of}
use Rattle.cloud_points.specs.declared.dims.Dim.{Dim}
use Rattle.cloud_points.specs.declared.point.Point.{Point}
use Rattle.whole_filters.specs.Whole.{before, insert_by, sorted_by}
use Rattle.packed_chunk.specs.Keys.{middle_of, short_key}
use Rattle.whole_filters.specs.Places.{AreKeyed, turned}
use Rattle.whole_filters.specs.declared.places.Entry.{Entry}
use Rattle.whole_filters.proofs.Sorting.{Each, each_at, each-sorted, before-order}

pub map-map : {A B C : Type 0} (f : B → C) (g : A → B) (xs : List A) → map f (map g xs) ≡ map (λ x. f (g x)) xs
map-map f g [] = refl
map-map f g (x ∷ xs) = ap (λ z. f (g x) ∷ z) (map-map f g xs)

module _ {E P : Type 0} (f : E → P) (lt : E → E → Bool) (order : IsStrictWeakOrder lt) (less : P → P → Bool) (Q : E → Type 0) (agree : (a b : E) → Q a → Q b → less (f a) (f b) ≡ lt a b) where
  insert_by-map : (e : E) (es : List E) → Q e → Each Q es → insert_by less (f e) (map f es) ≡ map f (insert_by lt e es)
  insert_by-map e [] q qs = refl
  insert_by-map e (x ∷ xs) q qs =
      ap (λ b. cond b (f x ∷ insert_by less (f e) (map f xs)) (f e ∷ f x ∷ map f xs)) (agree x e qs.0 q) ∙ go (lt x e) (insert_by-map e xs q qs.1)
    where
      go : (b : Bool) → insert_by less (f e) (map f xs) ≡ map f (insert_by lt e xs) → cond b (f x ∷ insert_by less (f e) (map f xs)) (f e ∷ f x ∷ map f xs) ≡ map f (cond b (x ∷ insert_by lt e xs) (e ∷ x ∷ xs))
      go true ih = ap (λ z. f x ∷ z) ih
      go false ih = refl

  sorted_by-map : (es : List E) → Each Q es → sorted_by less (map f es) ≡ map f (sorted_by lt es)
  sorted_by-map [] qs = refl
  sorted_by-map (e ∷ es) qs = ap (insert_by less (f e)) (sorted_by-map es qs.1) ∙ insert_by-map e (sorted_by lt es) qs.0 (each-sorted lt order Q es qs.1)

-- numbers stand as they do once the same is taken from each, and the other way round once they are turned
moved : (m : ℕ) (a b : ℤ) → int_lt (a -ℤ pos m) (b -ℤ pos m) ≡ int_lt a b
moved m a b = grind (arith, ints)

moved_up : (off a b : ℤ) → int_lt (a +ℤ off) (b +ℤ off) ≡ int_lt a b
moved_up off a b = grind (arith, ints)

turned_round : (a b : ℤ) → int_lt (turned true a) (turned true b) ≡ int_lt b a
turned_round a b = grind (arith, ints)

shifted : (down : Bool) (m : ℕ) (a b : ℤ) → int_lt (turned down (a -ℤ pos m)) (turned down (b -ℤ pos m)) ≡ cond down (int_lt b a) (int_lt a b)
shifted true m a b = turned_round (a -ℤ pos m) (b -ℤ pos m) ∙ moved m b a
shifted false m a b = moved m a b

-- entries of points as in `AreKeyed`, but their keys are all moved by one number
pub record AreMoved (dim : Dim) (down : Bool) (points : List Point) (off : ℤ) (entries : List Entry) : Type 0 where
  pub each : length entries ≡ length points
  pub key : (k : ℕ) (d : Point) (e : Entry) → k < length points → (get_or entries k e).key ≡ turned down (short_key dim (key_of (get_or points k d) dim)) +ℤ off
  pub place : (k : ℕ) (e : Entry) → k < length points → (get_or entries k e).place ≡ k

no_move : (z : ℤ) → z +ℤ pos 0 ≡ z
no_move z = grind (arith, ints)

pub not_moved : (dim : Dim) (down : Bool) (points : List Point) (es : List Entry) → AreKeyed dim down points (length points) es → AreMoved dim down points (pos 0) es
not_moved dim down points es keyed = record {
  each = keyed.each;
  key = λ k d e l. keyed.key k d e l ∙ sym (no_move (turned down (short_key dim (key_of (get_or points k d) dim))));
  place = keyed.place;
}

-- the entry of the next point behind the others
pub keyed_next : (dim : Dim) (down : Bool) (points : List Point) (n : ℕ) (es : List Entry) → AreKeyed dim down points n es → (p : Point) → slice_get points n ≡ Some p
    → (entry : Entry) → entry.key ≡ turned down (short_key dim (key_of p dim)) → entry.place ≡ n → (more : List Entry) → more ≡ es ++ entry ∷ [] → AreKeyed dim down points (n + 1) more
keyed_next dim down points n es keyed p here entry key place more behind = record {
  each = omega (arith, ap length behind, length-append es (entry ∷ []), keyed.each);
  key = λ k d e l. ⊎_elim
      (λ q. ap (λ (x : Entry). x.key) (last k e q) ∙ key ∙ ap (λ z. turned down (short_key dim (key_of z dim))) (sym (ap (λ j. get_or points j d) q ∙ get_or_from_slice_get points n p d here)))
      (λ q. ap (λ (x : Entry). x.key) (first k e l q) ∙ keyed.key k d e (omega (arith, l, q)))
      (cases_eq k n);
  place = λ k e l. ⊎_elim
      (λ q. ap (λ (x : Entry). x.place) (last k e q) ∙ place ∙ sym q)
      (λ q. ap (λ (x : Entry). x.place) (first k e l q) ∙ keyed.place k e (omega (arith, l, q)))
      (cases_eq k n);
}
  where
    last : (k : ℕ) (e : Entry) → k ≡ n → get_or more k e ≡ entry
    last k e q = ap (λ z. get_or z k e) behind ∙ get_or_push es entry e k (keyed.each ∙ sym q)

    first : (k : ℕ) (e : Entry) → k < n + 1 → (k ≡ n → ⊥) → get_or more k e ≡ get_or es k e
    first k e l q = ap (λ z. get_or z k e) behind ∙ get_or_append_left es (entry ∷ []) e k (omega (arith, l, q, keyed.each))

none : Entry
none = record { key = pos 0; place = 0 }

module _ (dim : Dim) (down : Bool) (points : List Point) (off : ℤ) (es : List Entry) (keyed : AreMoved dim down points off es) where
  places_are : map (λ (e : Entry). e.place) es ≡ range_with_len 0 (length points)
  places_are = fill_by_all (λ k. k) (map (λ (e : Entry). e.place) es) (length points) 0 (length-map es (λ (e : Entry). e.place) ∙ keyed.each)
      (λ k l. get_or-map (λ (e : Entry). e.place) es k none 0 (omega (arith, keyed.each, l)) ∙ keyed.place k none l)
      ∙ map-id (range_with_len 0 (length points))

  -- a list with the same entries names each place once
  pub each_place : (sorted : List Entry) → IsPermutation es sorted → IsPermutation (range_with_len 0 (length points)) (map (λ (e : Entry). e.place) sorted)
  each_place sorted moved = subst (λ z. IsPermutation z (map (λ (e : Entry). e.place) sorted)) places_are (IsPermutation-map (λ (e : Entry). e.place) es sorted moved)

  module _ (d : Point) where
    abbrev point_of : Entry → Point
    point_of e = get_or points e.place d

    abbrev KeyOf : Entry → Type 0
    KeyOf e = e.key ≡ turned down (short_key dim (key_of (point_of e) dim)) +ℤ off

    points_are : map point_of es ≡ points
    points_are = same_lists _ _ (length-map es point_of ∙ keyed.each)
        (λ k e l. let in_es : k < length es = omega (arith, length-map es point_of, l) in let in_points : k < length points = omega (arith, keyed.each, in_es) in
        get_or-map point_of es k none e in_es ∙ ap (λ z. get_or points z d) (keyed.place k none in_points) ∙ get_or_default points k d e in_points)

    keys_are : Each KeyOf es
    keys_are = each_at KeyOf es (λ k e l. let in_points : k < length points = omega (arith, keyed.each, l) in
        keyed.key k d e in_points ∙ ap (λ z. turned down (short_key dim (key_of (get_or points z d) dim)) +ℤ off) (sym (keyed.place k e in_points)))

    agree : (a b : Entry) → KeyOf a → KeyOf b → before (λ (p : Point). key_of p dim) down (point_of a) (point_of b) ≡ before (λ (e : Entry). e.key) false a b
    agree a b p q = sym (shifted down (middle_of dim) (key_of (point_of a) dim) (key_of (point_of b) dim))
        ∙ sym (moved_up off (turned down (short_key dim (key_of (point_of a) dim))) (turned down (short_key dim (key_of (point_of b) dim))))
        ∙ ap (λ z. int_lt z (turned down (short_key dim (key_of (point_of b) dim)) +ℤ off)) (sym p) ∙ ap (λ z. int_lt a.key z) (sym q)

    -- and in the order of the keys, the points in that order
    pub places_in_order : (sorted : List Entry) → sorted ≡ sorted_by (before (λ (e : Entry). e.key) false) es
        → map (λ k. get_or points k d) (map (λ (e : Entry). e.place) sorted) ≡ sorted_by (before (λ (p : Point). key_of p dim) down) points
    places_in_order sorted e =
        map-map (λ k. get_or points k d) (λ (x : Entry). x.place) sorted ∙ ap (map point_of) e
        ∙ sym (sorted_by-map point_of (before (λ (x : Entry). x.key) false) (before-order (λ (x : Entry). x.key) false) (before (λ (p : Point). key_of p dim) down) KeyOf agree es keys_are)
        ∙ ap (sorted_by (before (λ (p : Point). key_of p dim) down)) points_are
