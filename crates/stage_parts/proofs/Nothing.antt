-- Flows of nothing behind others add nothing.
use Rattle.std.proofs.Common.{◌≡◌, ℕ, List, [], ◌∷◌, ◌++◌, map, refl, ap, ◌∙◌}
use Rattle.cloud_points.specs.Flows.{Flow, empty_flow, join, join_all}
use Rattle.network_theory.specs.Shape.{Each}

nothing-joined : {P : Type 0} (value : ℕ → Flow P) (others : List ℕ) → Each (λ j. value j ≡ empty_flow) others → join_all (map value others) ≡ empty_flow
nothing-joined value [] h = refl
nothing-joined value (j ∷ js) h = ap (λ f. join f (join_all (map value js))) h.0 ∙ ap (λ f. join empty_flow f) (nothing-joined value js h.1)

pub nothing_more : {P : Type 0} (value : ℕ → Flow P) (own others : List ℕ) → Each (λ j. value j ≡ empty_flow) others
    → join_all (map value (own ++ others)) ≡ join_all (map value own)
nothing_more value [] others h = nothing-joined value others h
nothing_more value (j ∷ js) others h = ap (join (value j)) (nothing_more value js others h)
