-- Classes that are told one after the other.
use Rattle.std.proofs.Common.{◌≡◌, ℕ, zero, suc, ◌+◌, ◌<◌, ◌≤◌, ◌==◌, Bool, true, false, cond, List, [], ◌∷◌, ◌++◌, length, take, get_or, refl, ap, sym, ◌∙◌, append_assoc, arith}
use Rattle.std.specs.Prelude.{codes}
use Rattle.std.proofs.lemmas.Bool.{eq-eqb, ne_eqb}
use Rattle.std.proofs.lemmas.List.{length-append, take-append-le, take_all}
use Rattle.plug_stages.specs.Classes.{class_text, spaced, came_from}

-- class k with this number of points, if it came
abbrev pub came_one : ℕ → ℕ → List (ℕ × ℕ)
came_one k n = came_from k (n ∷ [])

pub came_next : (k : ℕ) (xs : List ℕ) (i d : ℕ) → i < length xs → came_from k (take (suc i) xs) ≡ came_from k (take i xs) ++ came_one (k + i) (get_or xs i d)
came_next k [] i d inside = absurd (omega (arith, inside))
came_next k (x ∷ xs) zero d inside = ap (λ j. came_one j x) (let z : k ≡ k + 0 = omega arith in z)
came_next k (x ∷ xs) (suc i) d inside = go (x == 0) (came_next (k + 1) xs i d (omega (arith, inside)) ∙ ap (λ j. came_from (k + 1) (take i xs) ++ came_one j (get_or xs i d)) (let z : k + 1 + i ≡ k + suc i = omega arith in z))
  where
    go : (b : Bool) → came_from (k + 1) (take (suc i) xs) ≡ came_from (k + 1) (take i xs) ++ came_one (k + suc i) (get_or xs i d)
        → cond b (came_from (k + 1) (take (suc i) xs)) ((k, x) ∷ came_from (k + 1) (take (suc i) xs))
        ≡ cond b (came_from (k + 1) (take i xs)) ((k, x) ∷ came_from (k + 1) (take i xs)) ++ came_one (k + suc i) (get_or xs i d)
    go true ih = ih
    go false ih = ap (λ z. (k, x) ∷ z) ih

apart : (a b g c : List ℕ) → a ++ (b ++ g ++ c) ≡ a ++ b ++ g ++ c
apart a b g c = sym (append_assoc a (b ++ g) c) ∙ ap (λ z. z ++ c) (sym (append_assoc a b g))

-- behind a first one
spaced_behind : (b : ℕ × ℕ) (cs : List (ℕ × ℕ)) (c : ℕ × ℕ) → spaced (b ∷ (cs ++ c ∷ [])) ≡ spaced (b ∷ cs) ++ codes " " ++ class_text c
spaced_behind b [] c = refl
spaced_behind b (d ∷ cs) c = ap (λ z. class_text b ++ codes " " ++ z) (spaced_behind d cs c)
    ∙ apart (class_text b ++ codes " ") (spaced (d ∷ cs)) (codes " ") (class_text c)

module _ (others : List (ℕ × ℕ)) (c : ℕ × ℕ) where
  pub told_skip : 8 ≤ length others → spaced (take 8 (others ++ c ∷ [])) ≡ spaced (take 8 others)
  told_skip h = ap spaced (take-append-le 8 others (c ∷ []) h)

  few : length others < 8 → take 8 (others ++ c ∷ []) ≡ others ++ c ∷ []
  few h = take_all 8 (others ++ c ∷ []) (omega (arith, h, length-append others (c ∷ [])))

pub told_first : (others : List (ℕ × ℕ)) (c : ℕ × ℕ) → length others ≡ 0 → spaced (take 8 others) ++ class_text c ≡ spaced (take 8 (others ++ c ∷ []))
told_first [] c h = refl
told_first (o ∷ others) c h = absurd (omega (arith, h))

pub told_next : (others : List (ℕ × ℕ)) (c : ℕ × ℕ) → 0 < length others → length others < 8
    → spaced (take 8 others) ++ codes " " ++ class_text c ≡ spaced (take 8 (others ++ c ∷ []))
told_next [] c some h = absurd (omega (arith, some))
told_next (o ∷ others) c some h = ap (λ z. spaced z ++ codes " " ++ class_text c) (take_all 8 (o ∷ others) (omega (arith, h)))
    ∙ sym (spaced_behind o others c) ∙ ap spaced (sym (few (o ∷ others) c h))

pub came_none : (k n : ℕ) → n ≡ 0 → came_one k n ≡ []
came_none k n e = rw (eq-eqb n 0 e) refl

pub came_some : (k n : ℕ) → 0 < n → came_one k n ≡ (k, n) ∷ []
came_some k n h = rw (ne_eqb n 0 (λ e. omega (arith, h, e))) refl

-- one class further
pub came_then : (xs : List ℕ) (at d : ℕ) → at < length xs → came_from 0 (take (at + 1) xs) ≡ came_from 0 (take at xs) ++ came_one at (get_or xs at d)
came_then xs at d inside = ap (λ k. came_from 0 (take k xs)) (let z : at + 1 ≡ suc at = omega arith in z)
    ∙ came_next 0 xs at d inside ∙ ap (λ k. came_from 0 (take at xs) ++ came_one k (get_or xs at d)) (let z : 0 + at ≡ at = omega arith in z)
