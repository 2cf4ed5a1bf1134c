-- Nodes that are given a home, one after another.
use Rattle.std.proofs.Common.{◌≡◌, ◌≢◌, ℕ, zero, suc, ◌+◌, ◌<◌, inl, inr, List, [], ◌∷◌, ◌++◌, length, get_or, set, take, drop, append-nil, refl, ap, subst, sym, ◌∙◌, arith, get_or-set_other, get_or-set_same, length-set}
use Rattle.std.proofs.lemmas.Bool.Decides.{eqb_tells}
use Rattle.std.proofs.lemmas.List.{take_more, take_all, drop_all}
use Rattle.network_theory.specs.Shape.{Each, In}
use Rattle.stage_parts.specs.Parts.{home_at}

-- these nodes have this home now, and all others that of before
pub record Led (before now nodes : List ℕ) (home : ℕ) : Type 0 where
  pub size : length now ≡ length before
  pub led : (j : ℕ) → In j nodes → home_at now j ≡ home
  pub others : (j : ℕ) → (In j nodes → ⊥) → home_at now j ≡ home_at before j

pub each-at : (Q : ℕ → Type 0) (xs : List ℕ) (i : ℕ) → i < length xs → Each Q xs → Q (get_or xs i 0)
each-at Q [] i h e = absurd (omega arith)
each-at Q (x ∷ xs) zero h e = e.0
each-at Q (x ∷ xs) (suc i) h e = each-at Q xs i (omega arith) e.1

in-front : (j : ℕ) (xs ys : List ℕ) → In j xs → In j (xs ++ ys)
in-front j [] ys h = absurd h
in-front j (x ∷ xs) ys (inl e) = inl e
in-front j (x ∷ xs) ys (inr i) = inr (in-front j xs ys i)

in-last : (j : ℕ) (xs : List ℕ) → In j (xs ++ j ∷ [])
in-last j [] = inl refl
in-last j (x ∷ xs) = inr (in-last j xs)

in-either : (j y : ℕ) (xs : List ℕ) → j ≢ y → In j (xs ++ y ∷ []) → In j xs
in-either j y [] ne (inl e) = absurd (ne e)
in-either j y [] ne (inr i) = absurd i
in-either j y (x ∷ xs) ne (inl e) = inl e
in-either j y (x ∷ xs) ne (inr i) = inr (in-either j y xs ne i)

pub led-push : (before now nodes : List ℕ) (home x : ℕ) → x < length before → Led before now nodes home → Led before (set now x home) (nodes ++ x ∷ []) home
led-push before now nodes home x b was = record {
  size = length-set now x home ∙ was.size;
  led = λ j i. elim (eqb_tells j x) [
    | inl p ↦ ap (home_at (set now x home)) p.1 ∙ same
    | inr p ↦ other j p.1 ∙ was.led j (in-either j x nodes p.1 i)
  ];
  others = λ j no. elim (eqb_tells j x) [
    | inl p ↦ absurd (no (subst (λ z. In j (nodes ++ z ∷ [])) p.1 (in-last j nodes)))
    | inr p ↦ other j p.1 ∙ was.others j (λ i. no (in-front j nodes (x ∷ []) i))
  ];
}
  where
    same : home_at (set now x home) x ≡ home
    same = let s = was.size in let lt : x < length now = omega (arith, s) in rw get_or-set_same

    other : (j : ℕ) → j ≢ x → home_at (set now x home) j ≡ home_at now j
    other j ne = rw get_or-set_other

pub led-more : (before now nodes : List ℕ) (home i : ℕ) → i < length nodes → Each (λ j. j < length before) nodes
    → Led before now (take i nodes) home → Led before (set now (get_or nodes i 0) home) (take (i + 1) nodes) home
led-more before now nodes home i h each was =
    subst (λ xs. Led before (set now (get_or nodes i 0) home) xs home) (sym (take_more nodes i 0 h))
    (led-push before now (take i nodes) home (get_or nodes i 0) (each-at (λ j. j < length before) nodes i h each) was)

-- a list of the same length in place of the whole
pub written_back : (len : ℕ) (before now : List ℕ) → len ≡ length before → length now ≡ length before → take len (now ++ drop (length now) before) ≡ now
written_back len before now whole size =
    ap (λ xs. take len (now ++ xs)) (drop_all (length now) before (omega arith)) ∙ ap (take len) (append-nil now) ∙ take_all len now (omega arith)
