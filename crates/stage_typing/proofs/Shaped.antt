-- Typed stages are a tree where the stages that they come from are one.
use Rattle.std.proofs.Common.{ℕ, zero, suc, ◌≡◌, ◌∙◌, ◌++◌, List, [], ◌∷◌, length, true, Some, slice_get, unwrap_or, refl, ap, sym, subst, arith}
use Rattle.std.proofs.lemmas.List.{length-map}
use Rattle.std.proofs.lemmas.Option.{none-some}
use Rattle.stage_names.specs.Kinds.{is_reader}
use Rattle.pipeline_json.specs.Lists.{is_empty, has, times}
use Rattle.pipeline_json.specs.Stages.{Stage, taken}
use Rattle.pipeline_json.specs.Trees.{IsTree}
use Rattle.stage_options.specs.Shapes.{shape, shapes}
use Rattle.stage_typing.specs.TypedTree.{spec_of, specs_of}
use Rattle.stage_typing.proofs.Own.{own_kind}

same_taken : (stages : List Stage) → taken (shapes (specs_of stages)) ≡ taken stages
same_taken [] = refl
same_taken (s ∷ later) = ap (λ xs. s.ins ++ xs) (same_taken later)

same_length : (stages : List Stage) → length (shapes (specs_of stages)) ≡ length stages
same_length stages = length-map (specs_of stages) shape ∙ length-map stages spec_of

come_from : (stages : List Stage) (i : ℕ) (t : Stage) → slice_get (shapes (specs_of stages)) i ≡ Some t → (s : Stage) × (slice_get stages i ≡ Some s) × (shape (spec_of s) ≡ t)
come_from [] i t h = absurd (none-some t h)
come_from (s ∷ later) zero t h = (s, refl, ap (λ o. unwrap_or o t) h)
come_from (s ∷ later) (suc i) t h = come_from later i t h

pub shaped_tree : (stages : List Stage) → IsTree stages → IsTree (shapes (specs_of stages))
shaped_tree stages t = record {
  some = omega (arith, same_length stages, t.some);
  few = omega (arith, same_length stages, t.few);
  earlier = λ i j s h g. let f = come_from stages i s h in t.earlier i j f.0 f.1 (subst (λ u. has u.ins j ≡ true) (sym f.2) g);
  once = λ j last. subst (λ xs. times j xs ≡ 1) (sym (same_taken stages)) (t.once j (omega (arith, same_length stages, last)));
  readers = λ i s h.
      let f = come_from stages i s h in
      subst (λ u. is_empty u.ins ≡ is_reader u.kind) f.2 (t.readers i f.0 f.1 ∙ ap is_reader (sym (own_kind f.0.kind f.0.filename f.0.members)));
}
