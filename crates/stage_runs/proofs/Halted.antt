-- Turns that ended at a fault.
use Rattle.std.proofs.Common.{◌≡◌, ◌≢◌, ◌⊎◌, ℕ, suc, ◌-◌, ◌<◌, ◌≤◌, ◌==◌, Bool, true, false, true≢false, List, length, Some, is_some, refl, ap, sym, subst, ◌∙◌, inl, inr, arith}
use Rattle.std.specs.Prelude.{slice_get, option_map}
use Rattle.std.proofs.lemmas.Bool.Decides.{eqb_tells, leb_tells}
use Rattle.std.proofs.lemmas.Option.{none-some, slice_get_within}
use Rattle.file_devices.specs.declared.devices.Source as source
use Rattle.file_devices.specs.declared.devices.Sink as sink
use Rattle.cloud_points.specs.Events.{is_device}
use Rattle.cloud_points.specs.declared.faults.StageFault.{StageFault}
use Rattle.cloud_points.specs.declared.faults.StageFault.TheVariants as stage
use Rattle.network_theory.specs.Forest.{IsForest}
use Rattle.network_core.specs.declared.node.Node.{Node}
use Rattle.stage_kinds.specs.declared.stage_work.StageWork.{StageWork}
use Rattle.stage_options.specs.Roles.{is_gathering}
use Rattle.stage_options.specs.declared.stage.StageSpec.{StageSpec}
use Rattle.stage_parts.specs.Parts.{AreHomes, home_at, is_of, part_ins}
use Rattle.stage_parts.proofs.Tops.{homes-above}
use Rattle.answer_model.specs.Values.{IsDown, role_at, stage_fault}
use Rattle.network_solo.specs.Stopping.{SomeFault}
use Rattle.stage_runs.specs.Works.{as_works, ins_of, AreNewStages}
use Rattle.stage_runs.specs.Short.{SomeGathers}
use Rattle.stage_runs.specs.Ran.{AreStoppedStages}
use Rattle.stage_runs.specs.Parts.{gathers_of, IsPartStopped, is_past, AreRunBefore, Besides}
use Rattle.stage_runs.proofs.Part.{IsRoot}
use Rattle.stage_runs.proofs.Choices.{same-number, number-same}
use Rattle.stage_runs.proofs.Steps.{true-lt, above, home-gathers, own-below, at-root, stays, home-faulty, root-faulty, some-faulty}
use Rattle.plug_stages.specs.declared.filter.PlugFilter as plug_type
use Rattle.plug_stages.specs.declared.tally.PlugTally as tally_type

module _ {S K P Q : Type 0} (s : source.Ghosts S) (k : sink.Ghosts K) (fs : plug_type.Ghosts P) (ts : tally_type.Ghosts Q) (stages : List StageSpec) (old : List (Node (StageWork S K P Q))) (new : AreNewStages s k fs ts stages old) (down : IsDown stages)
    (forest : IsForest (ins_of stages) (length (ins_of stages) - 1)) (size : length (ins_of stages) ≡ length stages)
    (homes : List ℕ) (are : AreHomes (gathers_of stages) (ins_of stages) homes) (besides : Besides S K P Q) where
  -- the nodes of a part, of this home and root, where those below it came to their end
  module _ (home root : ℕ) (is_root : IsRoot stages homes home root) (now : List (Node (StageWork S K P Q))) (count : length now ≡ length stages) (inside : root < length stages)
      (below : (i : ℕ) → i < root → i < home) (under : (i : ℕ) → i < length stages → home_at homes i ≡ home → i ≢ root → i < root) (done : AreRunBefore s k fs ts stages homes old home now)
      (bounded : Type 0) (queue chunk : ℕ) (after : List (Node (StageWork S K P Q))) (part : IsPartStopped s k fs ts bounded queue chunk (part_ins (gathers_of stages) (ins_of stages) homes home root) homes home root now after) where
    pub part-stopped : AreStoppedStages s k fs ts stages old after
    part-stopped calm opened on = (
      some-faulty s k fs ts stages old new down forest size homes are besides home root is_root now count inside below done after opened on sound quiet bounded queue chunk part,
      λ i m f e has. by_place i m f e has (within i m e),
    )
      where
        within : (i : ℕ) (m : Node (StageWork S K P Q)) → slice_get after i ≡ Some m → i < length stages
        within i m e = let a = slice_get_within after i m e in let b = part.count in omega (arith, a, b, count)

        quiet : (i : ℕ) (m : Node (StageWork S K P Q)) → i ≤ root → is_of homes home i ≡ true → slice_get after i ≡ Some m → is_device m.fault ≡ false
        quiet i m l h e = calm i m e

        -- a node of another part is as it was
        stayed : (i : ℕ) → i ≢ root → home_at homes i ≢ home → slice_get after i ≡ slice_get now i
        stayed i n h = stays s k fs ts stages old new down forest size homes are besides home root is_root now count inside below done after part i n h

        past-stayed : (i : ℕ) → i < length stages → is_past s k fs ts stages homes old home i ≡ true → slice_get after i ≡ slice_get now i
        past-stayed i l p =
            let h = true-lt (home_at homes i) home p in
            let a = above s k fs ts stages old new down forest size homes are besides i l in
            stayed i (λ e. root-past (subst (λ j. is_past s k fs ts stages homes old home j ≡ true) e p)) (λ e. omega (arith, h, e))
          where
            root-past : is_past s k fs ts stages homes old home root ≡ true → ⊥
            root-past p =
                let h = true-lt (home_at homes root) home p in
                elim is_root [
                  | inl r ↦ (let b = above s k fs ts stages old new down forest size homes are besides root inside in let q = r.1 in absurd (omega (arith, h, b, q)))
                  | inr r ↦ (let q = r.1 in absurd (omega (arith, h, q)))
                ]

        sound : (i : ℕ) (m : Node (StageWork S K P Q)) → slice_get now i ≡ Some m → is_past s k fs ts stages homes old home i ≡ true → is_device m.fault ≡ false
        sound i m e p = calm i m (past-stayed i (let a = slice_get_within now i m e in omega (arith, a, count)) p ∙ e)

        -- a node that had no turn has no fault
        no-turn : (i : ℕ) (m : Node (StageWork S K P Q)) (f : StageFault) → slice_get now i ≡ Some m → is_past s k fs ts stages homes old home i ≡ false → m.fault ≡ Some f → ⊥
        no-turn i m f e p has = elim (leb_tells (suc i) home) [
          | inl l ↦ by_role l.1 (is_gathering (role_at stages i)) refl
          | inr l ↦ (let n = l.1 in waiting (λ m h. absurd (omega (arith, m, n))))
        ]
          where
            waiting : (i < home → is_gathering (role_at stages i) ≡ true → ⊥) → ⊥
            waiting unheld = none-some f (sym (new.fresh i m (done.waits i m e p unheld)).fault ∙ has)

            by_role : i < home → (b : Bool) → is_gathering (role_at stages i) ≡ b → ⊥
            by_role l true g = none-some f (sym (done.held i m e p l g).fresh.fault ∙ has)
            by_role l false g = waiting (λ l h. true≢false (sym h ∙ g))

        by_home : (i : ℕ) (m : Node (StageWork S K P Q)) (f : StageFault) → slice_get after i ≡ Some m → m.fault ≡ Some f → i < length stages → i ≢ root → (b : Bool) → (home_at homes i == home) ≡ b
            → option_map stage.Point (stage_fault stages opened i) ≡ Some f
        by_home i m f e has l n true h = home-faulty s k fs ts stages old new down forest size homes are besides home root is_root now count inside below done after opened on sound quiet bounded queue chunk part
            i m f (under i l (number-same (home_at homes i) home h) n) h e has
        by_home i m f e has l n false h = by_past (is_past s k fs ts stages homes old home i) refl
          where
            was : slice_get now i ≡ Some m
            was = sym (stayed i n (λ q. true≢false (sym (ap (λ x. x == home) q ∙ same-number home) ∙ h))) ∙ e

            by_past : (b : Bool) → is_past s k fs ts stages homes old home i ≡ b → option_map stage.Point (stage_fault stages opened i) ≡ Some f
            by_past true p = sym (done.past opened sound on i m was p).fault ∙ has
            by_past false p = absurd (no-turn i m f was p has)

        by_place : (i : ℕ) (m : Node (StageWork S K P Q)) (f : StageFault) → slice_get after i ≡ Some m → m.fault ≡ Some f → i < length stages → option_map stage.Point (stage_fault stages opened i) ≡ Some f
        by_place i m f e has l = elim (eqb_tells i root) [
          | inl q ↦ subst (λ j. option_map stage.Point (stage_fault stages opened j) ≡ Some f) (sym q.1)
              (root-faulty s k fs ts stages old new down forest size homes are besides home root is_root now count inside below done after opened on sound quiet bounded queue chunk part m f (ap (slice_get after) (sym q.1) ∙ e) has)
          | inr q ↦ by_home i m f e has l q.1 (home_at homes i == home) refl
        ]

    -- in the last part one of its nodes has a fault, or there are strangers, so that a stage gathers
    pub part-known : home ≡ length stages → SomeFault (as_works s k fs ts) after ⊎ SomeGathers stages
    part-known last = by_place part.turned.1
      where
        by_home : (i : ℕ) (m : Node (StageWork S K P Q)) → i < root → slice_get part.ended i ≡ Some m → is_some m.fault ≡ true → (b : Bool) → is_of homes home i ≡ b → SomeFault (as_works s k fs ts) after ⊎ SomeGathers stages
        by_home i m l e fault true h = inl (i, m, own-below s k fs ts stages old new down forest size homes are besides home root is_root now count inside below done after part i l h ∙ e, fault)
        by_home i m l e fault false h =
            let above = homes-above (gathers_of stages) (ins_of stages) homes forest are i (omega (arith, l, inside, size)) in
            let less : home_at homes i < length stages = by_number above.most in
            inr (home_at homes i, less, home-gathers s k fs ts stages old new down forest size homes are besides i (omega (arith, l, inside)) (home_at homes i) less refl)
          where
            by_number : home_at homes i ≤ length (ins_of stages) → home_at homes i < length stages
            by_number most = elim (eqb_tells (home_at homes i) (length stages)) [
              | inl q ↦ absurd (true≢false (sym (ap (λ x. x == home) (q.1 ∙ sym last) ∙ same-number home) ∙ h))
              | inr q ↦ (let n = q.1 in omega (arith, n, most, size))
            ]

        by_place : SomeFault (as_works s k fs ts) part.ended → SomeFault (as_works s k fs ts) after ⊎ SomeGathers stages
        by_place (i, m, e, fault) = elim (eqb_tells i root) [
          | inl q ↦ inl (root, m, at-root s k fs ts stages old new down forest size homes are besides home root is_root now count inside below done after part ∙ ap (slice_get part.ended) (sym q.1) ∙ e, fault)
          | inr q ↦ (
              let n = q.1 in let a = slice_get_within part.ended i m e in let b = part.turned.0.count in let c = part.is_net.count in
              by_home i m (omega (arith, n, a, b, c)) e fault (is_of homes home i) refl)
        ]
