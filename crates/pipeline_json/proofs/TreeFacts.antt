-- What holds of the stages of a tree.
use Rattle.std.proofs.Common.{ℕ, zero, suc, ◌≡◌, ◌≤◌, ◌<◌, ◌+◌, ◌-◌, ◌∙◌, ◌&&◌, ◌⊎◌, inl, inr, List, [], ◌∷◌, ◌++◌, length, Bool, true, false, true≢false, not, cond, Option, Some, None, Ok, Err, slice_get, get_or, position, is_some, if◌then◌else◌, unwrap_or, refl, ap, sym, subst, arith, append-nil, length-append}
use Rattle.std.specs.Result.{is_ok, result_unwrap_or}
use Rattle.std.proofs.lemmas.Grind.{flat_map-append}
use Rattle.std.proofs.lemmas.Option.{none-some}
use Rattle.serde_json.specs.Data.{Data, Members}
use Rattle.serde_json.specs.Find.{as_str}
use Rattle.stage_names.specs.Kinds.{is_reader}
use Rattle.stage_names.specs.declared.kinds.KindName.{KindName}
use Rattle.stage_names.specs.declared.faults.PipeFault.{PipeFault}
use Rattle.stage_names.specs.declared.faults.PipeFault.TheVariants.{BadStage}
use Rattle.pipeline_json.specs.Lists.{is_empty, has, times, has_twice}
use Rattle.pipeline_json.specs.Stages.{Stage, Parts, no_parts, element_parts, options_of, taken, pile, is_tagged, is_unknown, place_or_0, ins_of, first_of, parts_tests, parts_fault, parts_stage, fault_in, stage_fault, stage_of}
use Rattle.pipeline_json.specs.Trees.{IsTree, loose, or_loose, or_fault, is_end, stages_of}
use Rattle.pipeline_json.proofs.Taken.{all_once, present, found_within, none_found, in_places, in_pile, none_in_range}

-- what holds after each stage
record Built (stages : List Stage) : Type 0 where
  earlier : (i j : ℕ) (s : Stage) → slice_get stages i ≡ Some s → has s.ins j ≡ true → j < i
  once : (j : ℕ) → times j (taken stages) ≤ 1
  readers : (i : ℕ) (s : Stage) → slice_get stages i ≡ Some s → is_empty s.ins ≡ is_reader s.kind

at_end : {X : Type 0} (xs : List X) (x y : X) (i : ℕ) → slice_get (xs ++ x ∷ []) i ≡ Some y → (slice_get xs i ≡ Some y) ⊎ ((i ≡ length xs) × (x ≡ y))
at_end [] x y zero h = inr (refl, ap (λ o. unwrap_or o x) h)
at_end [] x y (suc i) h = absurd (none-some y h)
at_end (z ∷ xs) x y zero h = inl h
at_end (z ∷ xs) x y (suc i) h = elim (at_end xs x y i h) [ inl g ↦ inl g | inr g ↦ inr (ap suc g.0, g.1) ]

taken-end : (stages : List Stage) (s : Stage) → taken (stages ++ s ∷ []) ≡ taken stages ++ s.ins
taken-end stages s = flat_map-append (λ t. t.ins) stages (s ∷ []) ∙ ap (λ xs. taken stages ++ xs) (append-nil s.ins)

one_more : (stages : List Stage) (s : Stage) → Built stages → ((j : ℕ) → has s.ins j ≡ true → j < length stages) → has_twice (taken stages) s.ins ≡ false
    → is_empty s.ins ≡ is_reader s.kind → Built (stages ++ s ∷ [])
one_more stages s b low fresh reads = record {
  earlier = λ i j t h g. elim (at_end stages s t i h) [
    | inl e ↦ b.earlier i j t e g
    | inr e ↦ subst (λ n. j < n) (sym e.0) (low j (subst (λ u. has u.ins j ≡ true) (sym e.1) g))
  ];
  once = λ j. subst (λ xs. times j xs ≤ 1) (sym (taken-end stages s)) (all_once s.ins (taken stages) fresh b.once j);
  readers = λ i t h. elim (at_end stages s t i h) [
    | inl e ↦ b.readers i t e
    | inr e ↦ subst (λ u. is_empty u.ins ≡ is_reader u.kind) e.1 reads
  ];
}

-- each test fails where there is no fault
fails : (f : PipeFault) (ts : List (Bool × PipeFault)) → first_of ts ≡ None → (k : ℕ) → (get_or ts k (false, f)).0 ≡ false
fails f [] h k = refl
fails f (t ∷ ts) h k = here t.0 h k (fails f ts)
  where
    here : (b : Bool) → cond b (Some t.1) (first_of ts) ≡ None → (k : ℕ) → (first_of ts ≡ None → (i : ℕ) → (get_or ts i (false, f)).0 ≡ false) → (get_or ((b, t.1) ∷ ts) k (false, f)).0 ≡ false
    here true g i later = absurd (none-some t.1 (sym g))
    here false g zero later = refl
    here false g (suc i) later = later g i

reader_rule : (a b : Bool) → (a && not b) ≡ false → (not a && b) ≡ false → b ≡ a
reader_rule true true h g = refl
reader_rule true false h g = absurd (true≢false h)
reader_rule false true h g = absurd (true≢false g)
reader_rule false false h g = refl

-- the stages that a stage takes are earlier ones
ins_earlier : (stages : List Stage) (kind : KindName) (inputs : Option (List Data)) → is_some (position (is_unknown stages) (unwrap_or inputs [])) ≡ false
    → (j : ℕ) → has (ins_of stages kind inputs) j ≡ true → j < length stages
ins_earlier stages kind None h j g = go (is_reader kind) g
  where
    go : (b : Bool) → has (if b then [] else pile stages) j ≡ true → j < length stages
    go true e = absurd (true≢false (sym e))
    go false e = in_pile (λ i. not (has (taken stages) i)) j (length stages) e
ins_earlier stages kind (Some ds) h j g =
    in_places (is_unknown stages) (place_or_0 stages) j (length stages) (λ d known. found_within (is_tagged (unwrap_or (as_str d) [])) stages known) ds
    (none_found (is_unknown stages) ds h) g

parts_built : (stages : List Stage) (ends : Bool) (ms : Members) (p : Parts) → parts_fault stages ends p ≡ None → Built stages → Built (stages ++ parts_stage stages ends ms p ∷ [])
parts_built stages ends ms p g b =
    let s = parts_stage stages ends ms p in
    let fail = fails (BadStage 0) (parts_tests stages ends p) g in
    one_more stages s b (ins_earlier stages s.kind p.inputs (fail 4)) (fail 7) (reader_rule (is_reader s.kind) (is_empty s.ins) (fail 5) (fail 6))

stage_built : (stages : List Stage) (ends : Bool) (d : Data) → stage_fault stages ends d ≡ None → Built stages → Built (stages ++ stage_of stages ends d ∷ [])
stage_built stages ends d h b = go (element_parts d) h
  where
    go : (o : Option Parts) → fault_in stages ends o ≡ None → Built (stages ++ parts_stage stages ends (options_of d) (unwrap_or o no_parts) ∷ [])
    go None g = absurd (none-some (BadStage (length stages)) (sym g))
    go (Some p) g = parts_built stages ends (options_of d) p g b

record Grown (count : ℕ) (stages : List Stage) : Type 0 where
  built : Built stages
  whole : loose stages ≡ None
  many : length stages ≡ count

no_fault : {f : PipeFault} {stages : List Stage} → Err f ≡ Ok stages → ⊥
no_fault h = true≢false (sym (ap is_ok h))

grown : (ds : List Data) (stages out : List Stage) → Built stages → stages_of stages ds ≡ Ok out → Grown (length stages + length ds) out
grown [] stages out b h = go (loose stages) refl h
  where
    go : (o : Option ℕ) → loose stages ≡ o → or_loose o stages ≡ Ok out → Grown (length stages + 0) out
    go None e g = subst (Grown (length stages + 0)) (ap (λ r. result_unwrap_or r stages) g) (record { built = b; whole = e; many = omega arith })
    go (Some j) e g = absurd (no_fault g)
grown (d ∷ ds) stages out b h = go (stage_fault stages (is_end stages ds) d) refl (λ e g. grown ds (stages ++ stage_of stages (is_end stages ds) d ∷ []) out (stage_built stages (is_end stages ds) d e b) g) h
  where
    longer : length (stages ++ stage_of stages (is_end stages ds) d ∷ []) + length ds ≡ length stages + length (d ∷ ds)
    longer = omega (arith, length-append stages (stage_of stages (is_end stages ds) d ∷ []))

    go : (o : Option PipeFault) → stage_fault stages (is_end stages ds) d ≡ o
        → (stage_fault stages (is_end stages ds) d ≡ None → stages_of (stages ++ stage_of stages (is_end stages ds) d ∷ []) ds ≡ Ok out → Grown (length (stages ++ stage_of stages (is_end stages ds) d ∷ []) + length ds) out)
        → or_fault o (stages_of (stages ++ stage_of stages (is_end stages ds) d ∷ []) ds) ≡ Ok out → Grown (length stages + length (d ∷ ds)) out
    go None e more g = subst (λ n. Grown n out) longer (more e g)
    go (Some f) e more g = absurd (no_fault g)

none_built : Built []
none_built = record {
  earlier = λ i j s h g. absurd (none-some s h);
  once = λ j. omega arith;
  readers = λ i s h. absurd (none-some s h);
}

taken_yes : (b : Bool) → not b ≡ false → b ≡ true
taken_yes true h = refl
taken_yes false h = absurd (true≢false h)

-- the stages of elements are a tree
pub tree_facts : (ds : List Data) (stages : List Stage) → 1 ≤ length ds → length ds ≤ 64 → stages_of [] ds ≡ Ok stages → IsTree stages
tree_facts ds stages low high h =
    let g = grown ds [] stages none_built h in
    record {
      some = omega (arith, g.many, low);
      few = omega (arith, g.many, high);
      earlier = g.built.earlier;
      once = λ j last. omega (arith, g.built.once j, present j (taken stages) (taken_yes _ (none_in_range (λ i. not (has (taken stages) i)) 0 (length stages - 1) g.whole j (omega arith) (omega (arith, last)))));
      readers = g.built.readers;
    }
