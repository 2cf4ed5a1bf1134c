-- The parts of a tree of nodes: each node that gathers is the root of a part, and so is the last one, where it doesn't.
use Rattle.std.specs.Prelude.{◌≡◌, ℕ, ◌+◌, ◌-◌, ◌==◌, ◌&&◌, not, if◌then◌else◌, Bool, false, List, [], ◌++◌, length, map, filter, slice_index_or}
use Rattle.std.specs.List.{range_with_len}
use Rattle.network_theory.specs.Shape.{In}
use Rattle.network_theory.specs.Forest.{children}

-- whether node k gathers
abbrev pub gathers_at : List Bool → ℕ → Bool
gathers_at gathers k = slice_index_or gathers k false

-- the home of node j
abbrev pub home_at : List ℕ → ℕ → ℕ
home_at homes j = slice_index_or homes j 0

-- the home of each node: the first node above it that gathers, or the number of nodes where none does
pub record AreHomes (gathers : List Bool) (ins : List (List ℕ)) (homes : List ℕ) : Type 0 where
  pub count : length homes ≡ length ins
  pub root : home_at homes (length ins - 1) ≡ length ins
  pub below : (k j : ℕ) → In j (children ins k) → home_at homes j ≡ (if gathers_at gathers k then k else home_at homes k)

-- whether node j has this home
abbrev pub is_of : List ℕ → ℕ → ℕ → Bool
is_of homes home j = home_at homes j == home

-- the nodes before the root that have another home, ascending
abbrev pub strangers : List ℕ → ℕ → ℕ → List ℕ
strangers homes home root = filter (λ j. not (is_of homes home j)) (range_with_len 0 root)

-- the children of node k in the part of a home: behind its own the root has the strangers; these and what gathers are leaves
abbrev pub part_children : List Bool → List (List ℕ) → List ℕ → ℕ → ℕ → ℕ → List ℕ
part_children gathers ins homes home root k =
    if k == root then children ins root ++ strangers homes home root
    else (if is_of homes home k && not (gathers_at gathers k) then children ins k else [])

-- the children of each of the nodes 0 ..= root in this part
abbrev pub part_ins : List Bool → List (List ℕ) → List ℕ → ℕ → ℕ → List (List ℕ)
part_ins gathers ins homes home root = map (part_children gathers ins homes home root) (range_with_len 0 (root + 1))
