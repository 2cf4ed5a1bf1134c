-- Which stages may come to write a file that an earlier one writes.
use Rattle.std.proofs.Common.{◌≡◌, ◌<◌, ◌≤◌, ◌+◌, ◌∙◌, ◌⊎◌, inl, inr, refl, ap, sym, ℕ, zero, suc, List, [], ◌∷◌, length, get_or, take, Bool, true, true≢false, Option, Some, None, is_some, unwrap_or, find, Decides, ◌-◌, arith, ⊎_elim, subst}
use Rattle.std.proofs.lemmas.Bool.{cases_lt}
use Rattle.std.proofs.Math.Nat.{eq-or-lt_of_le}
use Rattle.std.proofs.lemmas.Bool.Decides.{Decides-like, Decides-or}
use Rattle.std.specs.List.{range_with_len}
use Rattle.pipeline_json.proofs.Numbers.{range_from, range_end}
use Rattle.stage_options.specs.declared.stage.StageSpec.{StageSpec}
use Rattle.stage_typing.proofs.Alike.{may_meet_tells}
use Rattle.stage_typing.specs.Meeting.{MayMeet}
use Rattle.stage_typing.specs.Outputs.{output_of, output_at, NamesAgain, meets, is_among, names_again}

nothing : {X : Type 0} {x : X} → None ≡ Some x → ⊥
nothing h = true≢false (sym (ap is_some h))

-- a stage with an output is one of the list
pub within : (os : List StageSpec) (k : ℕ) (name : List ℕ) → output_at os k ≡ Some name → k < length os
within [] k name h = absurd (nothing h)
within (o ∷ os) zero name h = omega arith
within (o ∷ os) (suc k) name h = omega (arith, within os k name h)

pub output_there : (os : List StageSpec) (i : ℕ) (d : StageSpec) → i < length os → output_at os i ≡ output_of (get_or os i d).options
output_there [] i d h = absurd (omega (arith, h))
output_there (o ∷ os) zero d h = refl
output_there (o ∷ os) (suc i) d h = output_there os i d (omega (arith, h))

from_taken : (os : List StageSpec) (i j : ℕ) (name : List ℕ) → output_at (take i os) j ≡ Some name → (j < i) × (output_at os j ≡ Some name)
from_taken os zero j name h = absurd (nothing h)
from_taken [] (suc i) j name h = absurd (nothing h)
from_taken (o ∷ os) (suc i) zero name h = (omega arith, h)
from_taken (o ∷ os) (suc i) (suc j) name h = let r = from_taken os i j name h in (omega (arith, r.0), r.1)

to_taken : (os : List StageSpec) (i j : ℕ) (name : List ℕ) → j < i → output_at os j ≡ Some name → output_at (take i os) j ≡ Some name
to_taken os zero j name below h = absurd (omega (arith, below))
to_taken [] (suc i) j name below h = absurd (nothing h)
to_taken (o ∷ os) (suc i) zero name below h = h
to_taken (o ∷ os) (suc i) (suc j) name below h = to_taken os i j name (omega (arith, below)) h

-- a stage may come to write a file of this name
abbrev Meets : Option (List ℕ) → List ℕ → Type 0
Meets o name = (output : List ℕ) × (o ≡ Some output) × MayMeet output name

same_name : {a b : List ℕ} → Some a ≡ Some b → a ≡ b
same_name {a} h = ap (λ o. unwrap_or o a) h

meets_tells : (o : Option (List ℕ)) (name : List ℕ) → Decides (meets name o) (Meets o name)
meets_tells None name = ((λ t. absurd (true≢false (sym t))), (λ m. absurd (nothing m.1)))
meets_tells (Some output) name =
    Decides-like _ (λ (m : MayMeet output name). (output, refl, m)) (λ (m : Meets (Some output) name). subst (λ x. MayMeet x name) (sym (same_name m.1)) m.2) (may_meet_tells output name)

abbrev MeetsAt : List StageSpec → List ℕ → Type 0
MeetsAt os name = (j : ℕ) × Meets (output_at os j) name

among_tells : (os : List StageSpec) (name : List ℕ) → Decides (is_among os (Some name)) (MeetsAt os name)
among_tells [] name = ((λ t. absurd (true≢false (sym t))), (λ m. absurd (nothing m.1.1)))
among_tells (o ∷ os) name = Decides-like _ to (λ m. from m.0 m.1) (Decides-or _ _ (meets_tells (output_of o.options) name) (among_tells os name))
  where
    to : Meets (output_of o.options) name ⊎ MeetsAt os name → MeetsAt (o ∷ os) name
    to (inl m) = (0, m)
    to (inr m) = (suc m.0, m.1)

    from : (j : ℕ) → Meets (output_at (o ∷ os) j) name → Meets (output_of o.options) name ⊎ MeetsAt os name
    from zero m = inl m
    from (suc j) m = inr (j, m)

named_tells : (os : List StageSpec) (i : ℕ) (here : Option (List ℕ)) → output_at os i ≡ here → Decides (is_among (take i os) here) (NamesAgain os i)
named_tells os i None is = ((λ t. absurd (true≢false (sym t))), (λ n. absurd (nothing (sym is ∙ n.5))))
named_tells os i (Some name) is = Decides-like _ to from (among_tells (take i os) name)
  where
    to : MeetsAt (take i os) name → NamesAgain os i
    to m = let there = from_taken os i m.0 m.1.0 m.1.1 in (m.0, m.1.0, name, there.0, there.1, is, m.1.2)

    from : NamesAgain os i → MeetsAt (take i os) name
    from n = (n.0, (n.1, to_taken os i n.0 n.1 n.3 n.4, subst (MayMeet n.1) (same_name (sym n.5 ∙ is)) n.6))

-- the test is true just where an earlier stage may come to write a file that stage i writes
pub again_tells : (os : List StageSpec) (i : ℕ) → Decides (names_again os i) (NamesAgain os i)
again_tells os i = named_tells os i (output_at os i) refl

-- none before i writes again
pub least : (os : List StageSpec) (i : ℕ) → ((k : ℕ) → k < i → NamesAgain os k → ⊥) → (k : ℕ) → NamesAgain os k → i ≤ k
least os i before k n = ⊎_elim (λ below. absurd (before k below n)) (λ h. h) (cases_lt k i)

pub one_more : (os : List StageSpec) (i : ℕ) → ((k : ℕ) → k < i → NamesAgain os k → ⊥) → (NamesAgain os i → ⊥) → (k : ℕ) → k < i + 1 → NamesAgain os k → ⊥
one_more os i before here k below n =
    ⊎_elim (λ same. here (subst (λ x. NamesAgain os x) same n)) (λ lower. before k lower n) (eq-or-lt_of_le (omega (arith, below)))

pub none_again : (os : List StageSpec) (i : ℕ) → length os ≤ i → ((k : ℕ) → k < i → NamesAgain os k → ⊥) → (k : ℕ) → NamesAgain os k → ⊥
none_again os i all before k n = before k (omega (arith, all, within os k n.2 n.5)) n

-- a number that passes is the first of those from it on
pub found_here : (p : ℕ → Bool) (j n : ℕ) → j < n → p j ≡ true → find p (range_with_len j (n - j)) ≡ Some j
found_here p j n h e = rw (range_from j n h, e) refl

pub found_none : (p : ℕ → Bool) (j n : ℕ) → n ≤ j → find p (range_with_len j (n - j)) ≡ None
found_none p j n h = rw (range_end j n h) refl
