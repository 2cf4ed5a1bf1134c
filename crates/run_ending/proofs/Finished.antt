-- One work more is finished.
use Rattle.std.proofs.Common.{◌≡◌, ◌⊎◌, ℕ, ◌+◌, ◌≤◌, ◌<◌, List, length, slice_get, Some, None, refl, ap, sym, subst, ◌∙◌, arith, inl, inr, length-set}
use Rattle.std.specs.Prelude.{slice_set, option_map}
use Rattle.std.proofs.lemmas.Bool.Decides.{eqb_tells}
use Rattle.std.proofs.lemmas.Option.{slice_get_within, none-some, same_Some}
use Rattle.circular_buffer.proofs.Places.{slice_get-set_same, slice_get-set_other}
use Rattle.file_devices.specs.Counts.{Rose}
use Rattle.file_devices.specs.declared.devices.Op.{Op}
use Rattle.file_devices.specs.declared.devices.Op.TheVariants.{Write, Patch}
use Rattle.stage_kinds.specs.declared.stage_work.StageWork.TheVariants.{Reader, Filter, Plug, Tally, Collector, Views, ViewFiles, Writer}
use Rattle.stage_kinds.specs.declared.file_form.FileForm.{FileForm}
use Rattle.stage_kinds.specs.declared.file_form.Writing.{Writing}
use Rattle.stage_kinds.specs.declared.file_form.FileForm.TheVariants as file
use Rattle.stage_kinds.specs.Files.{file_form, finishing_op}
use Rattle.stage_kinds.specs.Stages.{keeps_of, writing_of}
use Rattle.stage_kinds.specs.declared.stage_work.StageWork.{StageWork}
use Rattle.plug_stages.specs.declared.filter.PlugFilter as plug_type
use Rattle.plug_stages.specs.declared.tally.PlugTally as tally_type
use Rattle.stage_kinds.specs.Held.{HoldsSame, op_of}
use Rattle.stage_forms.specs.Later.{AreLater}
use Rattle.run_ending.specs.Finished.{AreKept, OthersStay, UnfinishedAt}

module _ {S K P Q : Type 0} (fs : plug_type.Ghosts P) (ts : tally_type.Ghosts Q) (faults : StageWork S K P Q → ℕ) (old now : List (StageWork S K P Q)) (i : ℕ) (v w : StageWork S K P Q)
    (later : AreLater fs ts faults old now) (here : slice_get now i ≡ Some v) (op : op_of w ≡ op_of v) (count : faults v ≤ faults w) (holds : HoldsSame fs ts v w) where
  inside : i < length now
  inside = slice_get_within now i v here

  -- at the place itself the work before and after, at another place the same work
  at-place : (R : StageWork S K P Q → StageWork S K P Q → Type 0) → R v w → ((x : StageWork S K P Q) → R x x) → (k : ℕ) (y : StageWork S K P Q) → slice_get (slice_set now i w) k ≡ Some y → (x : StageWork S K P Q) × (slice_get now k ≡ Some x) × R x y
  at-place R one same k y e = elim (eqb_tells k i) [
    | inl p ↦ (v, ap (slice_get now) p.1 ∙ here, subst (R v) (same_Some w y (sym (slice_get-set_same now i w inside) ∙ ap (slice_get (slice_set now i w)) (sym p.1) ∙ e)) one)
    | inr p ↦ (y, sym (slice_get-set_other now i k w p.1) ∙ e, same y)
  ]

  pub later-more : AreLater fs ts faults old (slice_set now i w)
  later-more = record {
    count = length-set now i w ∙ later.count;
    op = λ k x y e f. let m = at-place (λ a b. op_of b ≡ op_of a) op (λ a. refl) k y f in m.2 ∙ later.op k x m.0 e m.1;
    later = λ k x y e f. let m = at-place (λ a b. faults a ≤ faults b) count (λ a. omega arith) k y f in let a = later.later k x m.0 e m.1 in let b = m.2 in omega (arith, a, b);
    same = λ k x y e f. let m = at-place (HoldsSame fs ts) holds (λ a. (refl, refl)) k y f in let a = later.same k x m.0 e m.1 in (m.2.0 ∙ a.0, m.2.1 ∙ a.1);
  }

  pub kept-more : keeps_of w ≡ keeps_of v → AreKept old now → AreKept old (slice_set now i w)
  kept-more same kept k x y e f = let m = at-place (λ a b. keeps_of b ≡ keeps_of a) same (λ a. refl) k y f in m.2 ∙ kept k x m.0 e m.1

  pub others-more : (writing_of v ≡ None → w ≡ v) → OthersStay old now → OthersStay old (slice_set now i w)
  others-more same stay k x e none = elim (eqb_tells k i) [
    | inl p ↦ (let is : v ≡ x = same_Some v x (sym here ∙ ap (slice_get now) (sym p.1) ∙ stay k x e none) in
        ap (slice_get (slice_set now i w)) p.1 ∙ slice_get-set_same now i w inside ∙ ap Some (same (ap writing_of is ∙ none) ∙ is))
    | inr p ↦ slice_get-set_other now i k w p.1 ∙ stay k x e none
  ]

  pub finished-more : (R : StageWork S K P Q → StageWork S K P Q → Type 0) (k : ℕ) → ((x : ℕ) (a b : StageWork S K P Q) → x < i → slice_get old x ≡ Some a → slice_get now x ≡ Some b → R a b)
      → ((a : StageWork S K P Q) → slice_get old i ≡ Some a → R a w) → (x : ℕ) (a b : StageWork S K P Q) → x < i + 1 → slice_get old x ≡ Some a → slice_get (slice_set now i w) x ≡ Some b → R a b
  finished-more R k before one x a b lt e f = elim (eqb_tells x i) [
    | inl p ↦ (let same = same_Some w b (sym (slice_get-set_same now i w inside) ∙ ap (slice_get (slice_set now i w)) (sym p.1) ∙ f) in subst (R a) same (one a (sym (ap (slice_get old) p.1) ∙ e)))
    | inr p ↦ (let ne = p.1 in before x a b (omega (arith, lt, ne)) e (sym (slice_get-set_other now i x w ne) ∙ f))
  ]

  pub unfinished-here : (o : Op) → slice_get old i ≡ Some v → option_map (λ (x : Writing). finishing_op x.form) (writing_of v) ≡ Some o → Rose (faults v) (faults w)
      → ((x : ℕ) (a b : StageWork S K P Q) → x < i → slice_get old x ≡ Some a → slice_get now x ≡ Some b → faults b ≡ faults a) → UnfinishedAt faults old (slice_set now i w) i o
  unfinished-here o was named rose calm = record {
    before = v;
    after = w;
    was = was;
    is = slice_get-set_same now i w inside;
    named = named;
    rose = rose;
    others = λ j a b lt e f. calm j a b lt e (sym (slice_get-set_other now i j w (λ same. absurd (omega (arith, lt, same)))) ∙ f);
  }

  pub left-more : (k : ℕ) → i < k → ((x : ℕ) → i ≤ x → slice_get now x ≡ slice_get old x) → (x : ℕ) → k ≤ x → slice_get (slice_set now i w) x ≡ slice_get old x
  left-more k lt before x le = slice_get-set_other now i x w (λ e. absurd (omega (arith, lt, le, e))) ∙ before x (omega (arith, lt, le))

-- a work whose file is finished by some operation writes, and that is an appending or a patch
pub finishing-writes : {S K P Q : Type 0} (w : StageWork S K P Q) (o : Op) → option_map (λ (x : Writing). finishing_op x.form) (writing_of w) ≡ Some o → (op_of w ≡ Some Write) × ((o ≡ Write) ⊎ (o ≡ Patch))
finishing-writes (Reader r) o e = absurd (none-some o e)
finishing-writes (Filter f) o e = absurd (none-some o e)
finishing-writes (Plug v) o e = absurd (none-some o e)
finishing-writes (Tally v) o e = absurd (none-some o e)
finishing-writes (Collector c) o e = absurd (none-some o e)
finishing-writes (Views h) o e = absurd (none-some o e)
finishing-writes (ViewFiles t) o e = absurd (none-some o e)
finishing-writes (Writer v) o e = (refl, by_form (file_form v.file) e)
  where
    by_form : (form : FileForm) → Some (finishing_op form) ≡ Some o → (o ≡ Write) ⊎ (o ≡ Patch)
    by_form (file.Text t) e = inl (sym (same_Some Write o e))
    by_form (file.Las l) e = inr (sym (same_Some Patch o e))
