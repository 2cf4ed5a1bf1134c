-- Whole steps that compute, on pairs of a name and a key.
use Rattle.std.specs.Prelude.{◌≡◌, ℕ, ℤ, pos, true, false, List, [], ◌∷◌, map, refl}
use Rattle.std.specs.Ordering.{int_eq}
use Rattle.cloud_points.specs.Flows.{Flow}
use Rattle.whole_filters.specs.Whole.{whole_set, sorted, last_of, groups, first_of_each}

abbrev one : List (ℕ × ℤ)
one = (1, pos 5) ∷ (2, pos 1) ∷ []

abbrev other : List (ℕ × ℤ)
other = (3, pos 5) ∷ (4, pos 3) ∷ []

abbrev both : List (ℕ × ℤ)
both = (1, pos 5) ∷ (2, pos 1) ∷ (3, pos 5) ∷ (4, pos 3) ∷ []

abbrev flow : List (List (ℕ × ℤ)) → Flow (ℕ × ℤ)
flow views = record { views = views; open_view = []; cut = false }

abbrev names : Flow (ℕ × ℤ) → List (List ℕ)
names f = map (map (λ p. p.0)) f.views

pub upwards : names (whole_set (sorted (λ p. p.1) false) (flow (both ∷ []))) ≡ (2 ∷ 4 ∷ 1 ∷ 3 ∷ []) ∷ []
upwards = refl

-- those of one key stay in their order
pub downwards : names (whole_set (sorted (λ p. p.1) true) (flow (both ∷ []))) ≡ (1 ∷ 3 ∷ 4 ∷ 2 ∷ []) ∷ []
downwards = refl

pub apart : names (whole_set (sorted (λ p. p.1) false) (flow (one ∷ other ∷ []))) ≡ (2 ∷ 1 ∷ []) ∷ (4 ∷ 3 ∷ []) ∷ []
apart = refl

pub tails : names (whole_set (last_of 1) (flow (one ∷ [] ∷ other ∷ [])))
    ≡ (2 ∷ []) ∷ [] ∷ (4 ∷ []) ∷ []
tails = refl

-- a view without points gives none
pub parted : names (whole_set (groups int_eq (λ p. p.1)) (flow (both ∷ [] ∷ other ∷ [])))
    ≡ (1 ∷ 3 ∷ []) ∷ (2 ∷ []) ∷ (4 ∷ []) ∷ (3 ∷ []) ∷ (4 ∷ []) ∷ []
parted = refl

-- the first point of each key; a view without points stays
pub thinned : names (whole_set (first_of_each int_eq (λ p. p.1)) (flow (both ∷ [] ∷ other ∷ [])))
    ≡ (1 ∷ 2 ∷ 4 ∷ []) ∷ [] ∷ (3 ∷ 4 ∷ []) ∷ []
thinned = refl

pub cut_off : whole_set (sorted (λ p. p.1) false) (record { views = one ∷ []; open_view = other; cut = true })
    ≡ record { views = []; open_view = []; cut = true }
cut_off = refl
