-- Groups by keys that are all moved alike.
use Rattle.std.proofs.Common.{◌≡◌, ℤ, ◌-ℤ◌, Bool, true, false, not, cond, List, [], ◌∷◌, map, refl, ap, ◌∙◌, arith}
use Rattle.std.specs.Prelude.{filter}
use Rattle.std.specs.Ordering.{int_eq}
use Rattle.std.proofs.lemmas.Int.{ints}
use Rattle.whole_filters.specs.Whole.{distinct, group, groups}

module _ {K : Type 0} (same : K → K → Bool) (moved : K → K) (alike : (a b : K) → same (moved a) (moved b) ≡ same a b) where
  map_moved : {J : Type 0} (f : K → J) (ks : List K) → map f (map moved ks) ≡ map (λ k. f (moved k)) ks
  map_moved f [] = refl
  map_moved f (k ∷ ks) = ap (λ z. f (moved k) ∷ z) (map_moved f ks)

  filter_moved : (t u : K → Bool) → ((k : K) → t (moved k) ≡ u k) → (ks : List K) → filter t (map moved ks) ≡ map moved (filter u ks)
  filter_moved t u agree [] = refl
  filter_moved t u agree (k ∷ ks) =
      ap (λ b. cond b (moved k ∷ filter t (map moved ks)) (filter t (map moved ks))) (agree k) ∙ go (u k) (filter_moved t u agree ks)
    where
      go : (b : Bool) → filter t (map moved ks) ≡ map moved (filter u ks)
          → cond b (moved k ∷ filter t (map moved ks)) (filter t (map moved ks)) ≡ map moved (cond b (k ∷ filter u ks) (filter u ks))
      go true ih = ap (λ z. moved k ∷ z) ih
      go false ih = ih

  distinct_moved : (ks : List K) → distinct same (map moved ks) ≡ map moved (distinct same ks)
  distinct_moved [] = refl
  distinct_moved (k ∷ ks) =
      ap (λ z. moved k ∷ filter (λ w. not (same (moved k) w)) z) (distinct_moved ks)
      ∙ ap (λ z. moved k ∷ z) (filter_moved (λ w. not (same (moved k) w)) (λ w. not (same k w)) (λ w. ap not (alike k w)) (distinct same ks))

  pub groups_moved : {P : Type 0} (key : P → K) (view : List P) → groups same (λ p. moved (key p)) view ≡ groups same key view
  groups_moved {P = P} key view =
      let ks = distinct same (map key view) in
      ap (λ z. map (group same (λ p. moved (key p)) view) (distinct same z)) (map_key view)
      ∙ ap (map (group same (λ p. moved (key p)) view)) (distinct_moved (map key view))
      ∙ map_moved (group same (λ p. moved (key p)) view) ks
      ∙ (λ i. map (λ k. filter (λ p. alike k (key p) i) view) ks)
    where
      map_key : (ps : List P) → map (λ p. moved (key p)) ps ≡ map moved (map key ps)
      map_key [] = refl
      map_key (p ∷ ps) = ap (λ z. moved (key p) ∷ z) (map_key ps)

int_eq_moved : (c a b : ℤ) → int_eq (a -ℤ c) (b -ℤ c) ≡ int_eq a b
int_eq_moved c a b = grind (arith, ints)

-- by keys that are less by one number
pub groups_less : {P : Type 0} (key : P → ℤ) (c : ℤ) (view : List P) → groups int_eq (λ p. key p -ℤ c) view ≡ groups int_eq key view
groups_less key c view = groups_moved int_eq (λ a. a -ℤ c) (int_eq_moved c) key view
