-- A stage that took whole views becomes a leaf.
use Rattle.std.proofs.Common.{◌≡◌, ℕ, ◌<◌, true, false, List, [], ◌∷◌, length, slice_get, slice_set, get_or, Some, refl, ap, sym, subst, ◌∙◌, inl, inr, length-set}
use Rattle.std.proofs.lemmas.Bool.Decides.{eqb_tells}
use Rattle.std.proofs.lemmas.List.{get_or-set_same}
use Rattle.std.proofs.lemmas.Option.{same_Some, slice_get_read}
use Rattle.circular_buffer.proofs.Places.{slice_get-set_same, slice_get-set_other}
use Rattle.file_devices.specs.declared.devices.Source as source
use Rattle.file_devices.specs.declared.devices.Sink as sink
use Rattle.network_theory.specs.Opening.{IsFresh}
use Rattle.network_core.specs.Shown.{shown}
use Rattle.network_core.specs.declared.node.Node.{Node}
use Rattle.stage_runs.specs.Works.{as_works}
use Rattle.stage_kinds.specs.declared.stage_work.StageWork.{StageWork}
use Rattle.stage_kinds.specs.declared.stage_work.StageWork.TheVariants.{Collector}
use Rattle.stage_kinds.specs.Gathers.{IsGathered}
use Rattle.stage_kinds.specs.declared.held.Held.TheVariants.{Nothing}
use Rattle.stage_kinds.specs.Held.{op_of, op_on, held_by}
use Rattle.stage_kinds.specs.Stages.{is_leaf, is_short}
use Rattle.stage_forms.specs.Starts.{IsCollecting}
use Rattle.stage_runs.specs.Parts.{IsNewLeaf, IsLaterNode, IsLeaf, IsGatheredAt, AreSameOrLater}
use Rattle.stage_runs.proofs.Later.{leaf-empty, leaf-later, set-later, steps-later}
use Rattle.plug_stages.specs.declared.filter.PlugFilter as plug_type
use Rattle.plug_stages.specs.declared.tally.PlugTally as tally_type

module _ {S K P Q : Type 0} where
  pub collecting-held : (w : StageWork S K P Q) → IsCollecting w → held_by w ≡ Nothing
  collecting-held (Collector c) is = refl
  collecting-held w is = absurd is

  pub gathered-leaf : (v w : StageWork S K P Q) → IsCollecting v → IsGathered v w → is_leaf w ≡ true
  gathered-leaf (Collector c) w is made = made.made.leaf
  gathered-leaf v w is made = absurd is

-- what was made is a leaf before its first turn
pub new-leaf : {S K P Q : Type 0} (s : source.Ghosts S) (k : sink.Ghosts K) (fs : plug_type.Ghosts P) (ts : tally_type.Ghosts Q) (w v : StageWork S K P Q) (made : Node (StageWork S K P Q)) → IsCollecting v → made.work ≡ w → IsFresh (shown (as_works s k fs ts) [] made)
    → held_by w ≡ held_by v → IsGathered v w → IsNewLeaf s k fs ts made
new-leaf s k fs ts w v made is work fresh device gathered = record {
  fresh = fresh;
  leaf = ap is_leaf work ∙ gathered-leaf v w is gathered;
  op = ap op_of work ∙ ap op_on (device ∙ collecting-held v is);
}

module _ {S K P Q : Type 0} (s : source.Ghosts S) (k : sink.Ghosts K) (fs : plug_type.Ghosts P) (ts : tally_type.Ghosts Q) (nodes : List (Node (StageWork S K P Q))) (at : ℕ) (inside : at < length nodes) (n : Node (StageWork S K P Q)) (was : n ≡ get_or nodes at n)
    (empty : Node (StageWork S K P Q)) (leaf : IsNewLeaf s k fs ts empty) where
  abbrev emptied : List (Node (StageWork S K P Q))
  emptied = slice_set nodes at empty

  pub here : slice_get nodes at ≡ Some n
  here = slice_get_read nodes (length nodes) at n refl inside was

  -- what stood in for the node holds nothing
  pub stand-in-held : (x d : Node (StageWork S K P Q)) → x ≡ get_or emptied at d → held_by x.work ≡ Nothing
  stand-in-held x d e = ap (λ (y : Node (StageWork S K P Q)). held_by y.work) (e ∙ get_or-set_same nodes at empty d inside) ∙ leaf-empty s k fs ts empty leaf

  pub emptied-later : IsCollecting n.work → AreSameOrLater s k fs ts nodes emptied
  emptied-later is = set-later s k fs ts nodes at n empty here (leaf-later s k fs ts n empty (collecting-held n.work is) (leaf-empty s k fs ts empty leaf) leaf.fresh.fault)

  module _ (made : Node (StageWork S K P Q)) (is_leaf_now : IsNewLeaf s k fs ts made) where
    in-emptied : at < length emptied
    in-emptied = subst (λ m. at < m) (sym (length-set nodes at empty)) inside

    pub made-later : IsCollecting n.work → AreSameOrLater s k fs ts nodes (slice_set emptied at made)
    made-later is = steps-later s k fs ts nodes emptied (slice_set emptied at made) (emptied-later is)
        (set-later s k fs ts emptied at empty made (slice_get-set_same nodes at empty inside) (leaf-later s k fs ts empty made (leaf-empty s k fs ts empty leaf) (leaf-empty s k fs ts made is_leaf_now) is_leaf_now.fresh.fault))

    pub made-there : IsGathered n.work made.work → IsGatheredAt s k fs ts at nodes (slice_set emptied at made)
    made-there is = record {
      count = length-set emptied at made ∙ length-set nodes at empty;
      here = λ x m e f. subst (λ y. IsGathered y.work m.work) (same_Some n x (sym here ∙ e)) (subst (λ y. IsGathered n.work y.work) (last m f) is);
      leaf = λ m f. subst (IsNewLeaf s k fs ts) (last m f) is_leaf_now;
      other = λ i no. slice_get-set_other emptied at i made no ∙ slice_get-set_other nodes at i empty no;
    }
      where
        last : (m : Node (StageWork S K P Q)) → slice_get (slice_set emptied at made) at ≡ Some m → made ≡ m
        last m f = same_Some made m (sym (slice_get-set_same emptied at made in-emptied) ∙ f)

  -- a node that was lent comes back later
  module _ (now : Node (StageWork S K P Q)) where
    there : slice_get (slice_set emptied at now) at ≡ Some now
    there = slice_get-set_same emptied at now (subst (λ m. at < m) (sym (length-set nodes at empty)) inside)

    elsewhere : (i : ℕ) → (i ≡ at → ⊥) → slice_get (slice_set emptied at now) i ≡ slice_get nodes i
    elsewhere i other = slice_get-set_other emptied at i now other ∙ slice_get-set_other nodes at i empty other

    pub lent-later : IsLaterNode s k fs ts n now → AreSameOrLater s k fs ts nodes (slice_set emptied at now)
    lent-later later = record {
      count = length-set emptied at now ∙ length-set nodes at empty;
      each = λ i x m e f. elim (eqb_tells i at) [
        | inl p ↦ (
            let old : n ≡ x = same_Some n x (sym here ∙ ap (slice_get nodes) (sym p.1) ∙ e) in
            let new : now ≡ m = same_Some now m (sym there ∙ ap (slice_get (slice_set emptied at now)) (sym p.1) ∙ f) in
            inr (subst (λ y. IsLaterNode s k fs ts y m) old (subst (IsLaterNode s k fs ts n) new later)))
        | inr p ↦ inl (same_Some m x (sym f ∙ elsewhere i p.1 ∙ e))
      ];
    }

    pub lent-became : (became : List (Node (StageWork S K P Q)) → List (Node (StageWork S K P Q)) → Type 0) → became (n ∷ []) (now ∷ []) → is_short now.work ≡ false
        → IsLeaf s k fs ts became at nodes (slice_set emptied at now)
    lent-became became turned enough = record {
      was = n;
      is = now;
      before = here;
      turned = turned;
      enough = enough;
      count = length-set emptied at now ∙ length-set nodes at empty;
      back = there;
      other = λ i other. elsewhere i other;
    }
