-- The extra names behind some first ones of ferries, one ferry more, and the fault of a second step.
use Rattle.std.proofs.Common.{◌≡◌, ◌<◌, ◌+◌, ◌++◌, ℕ, zero, suc, List, [], ◌∷◌, Bool, Option, Some, None, length, get_or, take, drop, ap, sym, ◌∙◌, arith}
use Rattle.std.proofs.Math.Seq.{drop-cons}
use Rattle.std.proofs.lemmas.List.{take_all, append_assoc}
use Rattle.std.proofs.lemmas.Option.{none-some}
use Rattle.cloud_points.specs.declared.dims.Dim.{Dim}
use Rattle.expr_eval.specs.declared.assignment.Assignment.{Assignment}
use Rattle.option_texts.specs.declared.ferries.NamedFerry.{NamedFerry}
use Rattle.stage_names.specs.declared.faults.PipeErr.{PipeErr}
use Rattle.stage_names.specs.declared.faults.PipeFault.{PipeFault}
use Rattle.stage_names.specs.Faults.{or_else, IsFaultOf}
use Rattle.name_binding.specs.Ferries.{with_target, with_targets, AreBehindSome, ferry_refused, ferries_refused, ferry_bound, ferries_bound}

pub one_more : (names : List (List ℕ)) (fs : List NamedFerry) (i : ℕ) (f : NamedFerry) → i < length fs → get_or fs i f ≡ f
    → with_targets names (take (i + 1) fs) ≡ with_target (with_targets names (take i fs)) f.to
one_more names [] i f h e = absurd (omega (arith, h))
one_more names (g ∷ fs) zero f h e = ap (λ x. with_target names x.to) e
one_more names (g ∷ fs) (suc i) f h e =
    let z : suc i + 1 ≡ suc (i + 1) = omega arith in
    rw z (one_more (with_target names g.to) fs i f (omega (arith, h)) e)

pub all_behind : (names : List (List ℕ)) (fs : List NamedFerry) (behind : List (List ℕ)) → behind ≡ with_targets names fs → AreBehindSome names fs behind
all_behind names fs behind e = (length fs, e ∙ ap (with_targets names) (sym (take_all (length fs) fs (omega arith))))

next : (fs : List NamedFerry) (i : ℕ) (f : NamedFerry) → i < length fs → get_or fs i f ≡ f → drop i fs ≡ f ∷ drop (i + 1) fs
next fs i f h e =
    let more : suc i ≡ i + 1 = omega arith in
    drop-cons fs i f h ∙ (ap (λ y. y ∷ drop (suc i) fs) e ∙ ap (λ n. f ∷ drop n fs) more)

-- what is left behind one more ferry comes to the same
pub names_next : (before behind all : List (List ℕ)) (fs : List NamedFerry) (i : ℕ) (f : NamedFerry) → i < length fs → get_or fs i f ≡ f → behind ≡ with_target before f.to
    → with_targets before (drop i fs) ≡ all → with_targets behind (drop (i + 1) fs) ≡ all
names_next before behind all fs i f h e n left = rw n (ap (with_targets before) (sym (next fs i f h e)) ∙ left)

pub refused_next : (k : ℕ) (has : Dim → Bool) (before behind : List (List ℕ)) (all : Option PipeFault) (fs : List NamedFerry) (i : ℕ) (f : NamedFerry) → i < length fs → get_or fs i f ≡ f
    → behind ≡ with_target before f.to → ferry_refused k before has f ≡ None → all ≡ ferries_refused k before has (drop i fs) → all ≡ ferries_refused k behind has (drop (i + 1) fs)
refused_next k has before behind all fs i f h e n none left =
    rw n (left ∙ (ap (ferries_refused k before has) (next fs i f h e) ∙ ap (λ r. or_else r (ferries_refused k (with_target before f.to) has (drop (i + 1) fs))) none))

pub bound_next : (before behind : List (List ℕ)) (done more all : List Assignment) (fs : List NamedFerry) (i : ℕ) (f : NamedFerry) → i < length fs → get_or fs i f ≡ f
    → behind ≡ with_target before f.to → more ≡ done ++ ferry_bound before f ∷ [] → done ++ ferries_bound before (drop i fs) ≡ all → more ++ ferries_bound behind (drop (i + 1) fs) ≡ all
bound_next before behind done more all fs i f h e n m left =
    rw (n, m, append_assoc done (ferry_bound before f ∷ []) (ferries_bound (with_target before f.to) (drop (i + 1) fs)))
    (ap (λ xs. done ++ ferries_bound before xs) (sym (next fs i f h e)) ∙ left)

pub second_fault : (first second : Option PipeFault) (err : PipeErr) → first ≡ None → IsFaultOf second err → IsFaultOf (or_else first second) err
second_fault None second err e h = h
second_fault (Some f) second err e h = absurd (none-some f (sym e))
