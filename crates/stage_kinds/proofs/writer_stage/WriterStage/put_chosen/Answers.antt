use Rattle.std.proofs.Common.{rules, ◌≡◌, ◌+◌, ◌++◌, ◌≤◌, None, Result, Ok, Err, length, option_map, true, ap, sym, subst, ◌∙◌, arith}
use Rattle.std.specs.Prelude.{IfOk}
use Rattle.cloud_points.specs.Queue.{up_to_limit}
use Rattle.stage_meanings.specs.Conditions.{passes}
use Rattle.stage_meanings.specs.Filters.{is_true, points_before}
use Rattle.stage_kinds.specs.Files.{chosen, count_of, file_holds}
use Rattle.stage_kinds.specs.Stages.{only_of, writes_of}
use Rattle.stage_kinds.proofs.Putting.{all_chosen, all_stop, before_fewer, chosen_refused, chosen_stop, is_none, put_before, unwritten_within}
use Rattle.stage_kinds.proofs.writer_stage.WriterStage.put_chosen.Goals as goal

if_ok : {A E : Type 0} {P Q : A → Type 0} (r : Result A E) → ((x : A) → P x → Q x) → IfOk r P → IfOk r Q
if_ok (Ok x) f h = f x h
if_ok (Err e) f h = tt

-- ---- without a `where`

pub returns-then-is_none-clause-stop : goal.returns-then-is_none-clause-stop
returns-then-is_none-clause-stop g c =
    let w = c.args.self.now in
    let none : only_of w ≡ None = sym c.only.ensures ∙ ap (option_map (λ b. b.now)) (is_none c.only.result c.if-is_none.ensures) in
    if_ok c.put_up_to.result (λ stop e. e ∙ all_stop (writes_of w) (count_of w.file) c.args.points.now none) c.put_up_to.ensures.stop

pub returns-then-is_none-clause-holds : goal.returns-then-is_none-clause-holds
returns-then-is_none-clause-holds g c =
    let w = c.args.self.now in
    let none : only_of w ≡ None = sym c.only.ensures ∙ ap (option_map (λ b. b.now)) (is_none c.only.result c.if-is_none.ensures) in
    if_ok c.put_up_to.result (λ stop h is before held.
    subst (λ qs. file_holds g.K.Sink.bytes c.put_up_to.new.self (before ++ qs) ≡ true) (sym (all_chosen (only_of w) c.args.points.now none)) (h is before held))
    c.put_up_to.ensures.holds

pub returns-then-is_none-clause-count : goal.returns-then-is_none-clause-count
returns-then-is_none-clause-count g c =
    let w = c.args.self.now in
    let none : only_of w ≡ None = sym c.only.ensures ∙ ap (option_map (λ b. b.now)) (is_none c.only.result c.if-is_none.ensures) in
    if_ok c.put_up_to.result (λ stop e. e ∙ ap (λ qs. up_to_limit (count_of w.file + length qs)) (sym (all_chosen (only_of w) (points_before stop c.args.points.now) none)))
    c.put_up_to.ensures.count

-- ---- with one

pub returns-in-None-clause-stop : goal.returns-in-None-clause-stop
returns-in-None-clause-stop g c =
    let w = c.args.self.now in
    let ps = c.args.points.now in
    let qs = c.as_slice.result.now in
    let are : qs ≡ chosen (only_of w) (points_before c.choose-unjudged.result ps) = search rules in
    chosen_stop (writes_of w) (count_of w.file) ps qs c.choose-unjudged.result c.choose-unjudged.ensures.stop are (sym c.in_ok-put_up_to.ensures.stop ∙ c.in-None.is)

pub returns-in-Some-place_of-clause-stop : goal.returns-in-Some-place_of-clause-stop
returns-in-Some-place_of-clause-stop g c =
    let w = c.args.self.now in
    let ps = c.args.points.now in
    let qs = c.as_slice.result.now in
    let are : qs ≡ chosen (only_of w) (points_before c.choose-unjudged.result ps) = search rules in
    chosen_refused (writes_of w) (count_of w.file) ps qs c.choose-unjudged.result c.in-Some.at c.in-Some-place_of.place c.in-Some.why c.choose-unjudged.ensures.stop are
    (sym c.in_ok-put_up_to.ensures.stop ∙ c.in-Some.is) c.in-Some-place_of.ensures.there

pub returns-in-Some-place_of-clause-count : goal.returns-in-Some-place_of-clause-count
returns-in-Some-place_of-clause-count g c =
    let w = c.args.self.now in
    let ps = c.args.points.now in
    let qs = c.as_slice.result.now in
    c.in_ok-put_up_to.ensures.count ∙ ap (λ o. up_to_limit (count_of w.file + length (points_before o qs))) c.in-Some.is
    ∙ ap (λ n. up_to_limit (count_of w.file + n)) (put_before (writes_of w) (count_of w.file) ps qs c.in-Some.at c.in-Some-place_of.place c.in-Some.why
    (sym c.in_ok-put_up_to.ensures.stop ∙ c.in-Some.is) c.in-Some-place_of.ensures.there)

pub unreachable-requires : goal.unreachable-requires
unreachable-requires g c =
    let w = c.args.self.now in
    let ps = c.args.points.now in
    let qs = c.as_slice.result.now in
    let x = writes_of w in
    let are : qs ≡ chosen (only_of w) (points_before c.choose-unjudged.result ps) = search rules in
    let inside = unwritten_within x.form (count_of w.file) qs c.in-Some.at c.in-Some.why (sym c.in_ok-put_up_to.ensures.stop ∙ c.in-Some.is) in
    let fewer : length qs ≤ length (chosen (only_of w) ps) = subst (λ rs. length rs ≤ length (chosen (only_of w) ps)) (sym are) (before_fewer (λ p. is_true (passes (only_of w) p)) c.choose-unjudged.result ps) in
    let few = c.in-None-place_of.ensures.few in
    omega (arith, inside, fewer, few)
