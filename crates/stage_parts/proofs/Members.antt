-- The children of the root of a part and of its other nodes.
use Rattle.std.proofs.Common.{◌≡◌, ◌≢◌, ℕ, ◌&&◌, not, cond, Bool, List, [], ◌++◌, refl, eq-eqb, ne_eqb}
use Rattle.network_theory.specs.Forest.{children}
use Rattle.stage_parts.specs.Parts.{gathers_at, is_of, strangers, part_children}

module _ (gathers : List Bool) (ins : List (List ℕ)) (homes : List ℕ) (home root : ℕ) where
  pub part_children-root : part_children gathers ins homes home root root ≡ children ins root ++ strangers homes home root
  part_children-root = rw (eq-eqb root root refl)

  pub part_children-other : (k : ℕ) → k ≢ root → part_children gathers ins homes home root k ≡ cond (is_of homes home k && not (gathers_at gathers k)) (children ins k) []
  part_children-other k ne = rw (ne_eqb k root ne)
