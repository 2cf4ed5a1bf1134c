-- The homes of nodes lie above them.
use Rattle.std.proofs.Common.{◌≡◌, ℕ, zero, suc, ◌+◌, ◌-◌, ◌≤◌, ◌<◌, Bool, true, false, cond, inl, inr, List, length, refl, ap, ◌∙◌, arith}
use Rattle.std.proofs.lemmas.Bool.Decides.{eqb_tells}
use Rattle.network_theory.specs.Shape.{In}
use Rattle.network_theory.specs.Forest.{children, IsForest}
use Rattle.network_theory.proofs.Forests.{forest-tree}
use Rattle.stage_parts.specs.Parts.{gathers_at, home_at, AreHomes}

pub near : (gathers : List Bool) (ins : List (List ℕ)) (homes : List ℕ) (home k j : ℕ) → AreHomes gathers ins homes
    → gathers_at gathers k ≡ false → home_at homes k ≡ home → In j (children ins k) → home_at homes j ≡ home
near gathers ins homes home k j are g e i = are.below k j i ∙ ap (λ b. cond b k (home_at homes k)) g ∙ e

pub near_root : (gathers : List Bool) (ins : List (List ℕ)) (homes : List ℕ) (k j : ℕ) → AreHomes gathers ins homes
    → gathers_at gathers k ≡ true → In j (children ins k) → home_at homes j ≡ k
near_root gathers ins homes k j are g i = are.below k j i ∙ ap (λ b. cond b k (home_at homes k)) g

-- the home of node j lies above it, and it gathers or is the number of nodes
pub record IsHome (gathers : List Bool) (ins : List (List ℕ)) (homes : List ℕ) (j : ℕ) : Type 0 where
  pub above : j < home_at homes j
  pub most : home_at homes j ≤ length ins
  pub gathering : home_at homes j < length ins → gathers_at gathers (home_at homes j) ≡ true

module _ (gathers : List Bool) (ins : List (List ℕ)) (homes : List ℕ) (forest : IsForest ins (length ins - 1)) (are : AreHomes gathers ins homes) where
  at_last : (j : ℕ) → j < length ins → j ≡ length ins - 1 → IsHome gathers ins homes j
  at_last j b e =
      let h : home_at homes j ≡ length ins = ap (home_at homes) e ∙ are.root in
      record { above = omega (arith, h); most = omega (arith, h); gathering = λ l. absurd (omega (arith, h, l)) }

  by_parent : (j p : ℕ) → In j (children ins p) → j < p → p < length ins → IsHome gathers ins homes p → IsHome gathers ins homes j
  by_parent j p i l b up = by_test (gathers_at gathers p) refl
    where
      by_test : (g : Bool) → gathers_at gathers p ≡ g → IsHome gathers ins homes j
      by_test true g =
          let h = near_root gathers ins homes p j are g i in
          record { above = omega (arith, h); most = omega (arith, h); gathering = λ _. ap (gathers_at gathers) h ∙ g }
      by_test false g =
          let h = near gathers ins homes (home_at homes p) p j are g refl i in
          let a = up.above in
          let m = up.most in
          record {
            above = omega (arith, h, a);
            most = omega (arith, h, m);
            gathering = λ z. ap (gathers_at gathers) h ∙ up.gathering (omega (arith, h, z));
          }

  climbs : (d j : ℕ) → j < length ins → length ins ≤ j + 1 + d → IsHome gathers ins homes j
  climbs zero j b g = at_last j b (omega arith)
  climbs (suc d) j b g = elim (eqb_tells j (length ins - 1)) [
    | inl p ↦ at_last j b p.1
    | inr p ↦ (let tree = forest-tree ins (length ins - 1) forest in
        let c = tree.child j (let q = p.1 in omega arith) in
        by_parent j (tree.parent j) c.2 c.0 (let u = c.1 in omega arith) (climbs d (tree.parent j) (let u = c.1 in omega arith) (let u = c.0 in omega arith)))
  ]

  pub homes-above : (j : ℕ) → j < length ins → IsHome gathers ins homes j
  homes-above j b = climbs (length ins) j b (omega arith)
