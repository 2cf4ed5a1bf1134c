-- Which nodes of a part's net are its own.
use Rattle.std.proofs.Common.{◌≡◌, ℕ, ◌+◌, ◌<◌, ◌==◌, ◌||◌, Bool, true, false, List, [], ◌∷◌, ◌++◌, length, map, refl, ap, sym, ◌∙◌, inl, inr, arith}
use Rattle.std.specs.List.{range_with_len}
use Rattle.std.proofs.lemmas.Bool.{eq-eqb}
use Rattle.std.proofs.lemmas.Bool.Decides.{eqb_tells}
use Rattle.std.proofs.lemmas.List.FromFn.{length-map-range_with_len, map-range_with_len_more}
use Rattle.stage_parts.specs.Parts.{is_of}
use Rattle.stage_runs.specs.Parts.{is_own}
use Rattle.stage_runs.specs.Rooms.{own_of}

not-root : (place root : ℕ) → place < root → (place == root) ≡ false
not-root place root l = elim (eqb_tells place root) [
  | inl p ↦ absurd (let e = p.1 in omega (arith, l, e))
  | inr p ↦ p.0
]

module _ (homes : List ℕ) (home root : ℕ) where
  pub own-count : length (own_of homes home root) ≡ root + 1
  own-count = length-map-range_with_len (is_own homes home root) 0 (root + 1)

  -- a node before the root
  pub one-owns : (own later : List Bool) (place : ℕ) (is : Bool) → place < root → own ≡ map (is_own homes home root) (range_with_len 0 place) → is ≡ is_of homes home place → later ≡ own ++ is ∷ []
      → later ≡ map (is_own homes home root) (range_with_len 0 (place + 1))
  one-owns own later place is before made says pushed =
      let here : is ≡ is_own homes home root place = says ∙ sym (ap (λ b. b || is_of homes home place) (not-root place root before)) in
      pushed ∙ ap (λ xs. xs ++ is ∷ []) made ∙ ap (λ b. map (is_own homes home root) (range_with_len 0 place) ++ b ∷ []) here
      ∙ sym (map-range_with_len_more (is_own homes home root) 0 place place (omega arith))

  -- and the root
  pub root-owns : (own later : List Bool) (place : ℕ) → place ≡ root → own ≡ map (is_own homes home root) (range_with_len 0 place) → later ≡ own ++ true ∷ [] → later ≡ own_of homes home root
  root-owns own later place last made pushed =
      let here : true ≡ is_own homes home root root = sym (ap (λ b. b || is_of homes home root) (eq-eqb root root refl)) in
      pushed ∙ ap (λ xs. xs ++ true ∷ []) (made ∙ ap (λ n. map (is_own homes home root) (range_with_len 0 n)) last) ∙ ap (λ b. map (is_own homes home root) (range_with_len 0 root) ++ b ∷ []) here
      ∙ sym (map-range_with_len_more (is_own homes home root) 0 root root (omega arith))
