use Rattle.std.proofs.Common.{◌≡◌, ◌+◌, ◌∷◌, ◌++◌, [], Ok, None, length, false, true, refl, ap, sym, subst, ◌∙◌, append-nil, arith}
use Rattle.cloud_points.specs.Queue.{up_to_limit}
use Rattle.stage_meanings.specs.Conditions.{passes}
use Rattle.stage_kinds.specs.Files.{chosen, count_of, file_form, file_holds}
use Rattle.stage_kinds.specs.Stages.{only_of, writes_of}
use Rattle.stage_kinds.proofs.Putting.{holds_more, one_chosen, one_stop, same_writes}
use Rattle.stage_kinds.proofs.writer_stage.WriterStage.take.Goals as goal

pub returns-in_ok-put-clause-holds : goal.returns-in_ok-put-clause-holds
returns-in_ok-put-clause-holds g c = λ before held.
    let w = c.args.self.now in
    let p = c.args.p.now in
    let passed : passes (only_of w) p ≡ Ok true = sym c.chooses.ensures ∙ c.in_ok-chooses.was ∙ ap (λ b. Ok b) c.if-branch.true in
    let one : chosen (only_of w) (p ∷ []) ≡ p ∷ [] = one_chosen (only_of w) p true passed in
    holds_more g.K.Sink.bytes w (record { file = c.put.new.self; taken = w.taken; chosen = w.chosen }) before (p ∷ []) None
    (same_writes (file_form c.put.new.self) (file_form w.file) (only_of w) (only_of w) c.in_ok-put.ensures.form refl)
    (one_stop (writes_of w) (count_of w.file) p true passed (λ e. c.in_ok-put.ensures.ok))
    (c.in_ok-put.ensures.count ∙ ap (λ qs. up_to_limit (count_of w.file + length qs)) (sym one))
    (λ none h. subst (λ qs. file_holds g.K.Sink.bytes c.put.new.self (chosen (only_of w) before ++ qs) ≡ true) (sym one) (c.in_ok-put.ensures.holds (chosen (only_of w) before) h))
    held

pub returns-else-branch-clause-count : goal.returns-else-branch-clause-count
returns-else-branch-clause-count g c =
    let w = c.args.self.now in
    let p = c.args.p.now in
    let passed : passes (only_of w) p ≡ Ok false = sym c.chooses.ensures ∙ c.in_ok-chooses.was ∙ ap (λ b. Ok b) c.if-branch.false in
    let place = c.known_spot.ensures.place in
    let same : count_of w.file ≡ up_to_limit (count_of w.file + 0) = omega (arith, place) in
    same ∙ ap (λ qs. up_to_limit (count_of w.file + length qs)) (sym (one_chosen (only_of w) p false passed))

pub returns-else-branch-clause-holds : goal.returns-else-branch-clause-holds
returns-else-branch-clause-holds g c = λ before held.
    let w = c.args.self.now in
    let p = c.args.p.now in
    let passed : passes (only_of w) p ≡ Ok false = sym c.chooses.ensures ∙ c.in_ok-chooses.was ∙ ap (λ b. Ok b) c.if-branch.false in
    let none : chosen (only_of w) (p ∷ []) ≡ [] = one_chosen (only_of w) p false passed in
    holds_more g.K.Sink.bytes w w before (p ∷ []) None refl
    (one_stop (writes_of w) (count_of w.file) p false passed (λ e. absurd cc))
    (returns-else-branch-clause-count g c)
    (λ stop h. subst (λ qs. file_holds g.K.Sink.bytes w.file (chosen (only_of w) before ++ qs) ≡ true) (sym none) (ap (file_holds g.K.Sink.bytes w.file) (append-nil (chosen (only_of w) before)) ∙ h))
    held
