-- One turn of a seat carries on.
use Rattle.std.proofs.Common.{◌≡◌, ◌≢◌, ℕ, ◌+◌, ◌*◌, ◌<◌, ◌≤◌, Bool, true, false, cond, ◌⊎◌, inl, inr, List, [], ◌∷◌, ◌++◌, length, Option, Some, None, refl, ap, subst, sym, ◌∙◌, append-nil, arith, true≢false, replicate, length-append}
use Rattle.std.proofs.Math.Path.{fun_ext}
use Rattle.std.specs.Prelude.{◌==◌, nat_lt, is_none, is_some, slice_index_or, slice_set}
use Rattle.std.proofs.lemmas.Bool.{lt-ltb, le-ltb, ltb-true, ltb-false, eq-eqb}
use Rattle.std.proofs.lemmas.Bool.Decides.{eqb_tells}
use Rattle.cloud_points.specs.declared.point.Point.{Point}
use Rattle.cloud_points.specs.declared.item.Item as code
use Rattle.cloud_points.specs.declared.faults.StageFault.{StageFault}
use Rattle.cloud_points.specs.declared.work.Work.{Ghosts}
use Rattle.cloud_points.specs.Bodies.{bodies}
use Rattle.cloud_points.specs.Marks.{Mark, Item, all_marks, is_end}
use Rattle.cloud_points.specs.Meaning.{KeepsCutting}
use Rattle.chunk_queue.specs.Ends.{InSeen, OutSeen, ended}
use Rattle.network_theory.specs.Between.{QuietBetween}
use Rattle.network_theory.specs.Carried.{only_input, rest_of, joined}
use Rattle.network_theory.specs.History.{mark_points}
use Rattle.network_theory.specs.Net as net
use Rattle.network_theory.specs.Sound.{IsNode}
use Rattle.network_theory.proofs.Keeps.{turn-moved}
use Rattle.network_theory.proofs.Betweens.{turn-reads, turn-works, turn-quietly, turn-pays, quiet-same, points-of_items}
use Rattle.network_core.specs.declared.turned.Turned.{Turned}
use Rattle.network_core.specs.declared.turned.Turned.TheVariants.{Took, Gave, Made, Idle, Done}
use Rattle.network_core.specs.Calm.{NoEvent, Told}
use Rattle.network_core.specs.Holding.{HoldsMore, HoldsBesides}
use Rattle.network_core.specs.Ruled.{IsTurn, MayHave}
use Rattle.network_core.specs.Shown.{shown, choice, left, turned, current_of}
use Rattle.network_core.proofs.Ruled.{ruled-sound, ruled-closes, ruled-sent}
use Rattle.network_workers.specs.declared.seats.Seat.{Seat}
use Rattle.network_workers.specs.declared.seats.SeatIn.{SeatIn}
use Rattle.network_workers.specs.Ends.{end_of, first_at, got_on, got_of, sent_on, since, OutGrew, EndGrew, EndsGrew, EntryGrew, took_of}
use Rattle.network_workers.specs.Seats.{node_of, SentBy, IsFit, Quietly, Carries}
use Rattle.network_workers.specs.Turns.{IsSeatTurn, CarriesTurn}
use Rattle.network_workers.specs.Pays.{seat_owes, end_pays, ends_pay}
use Rattle.network_workers.proofs.Carrying.{reads-same}
use Rattle.network_workers.proofs.Paying.{bodies-length, one-turn, ends_pay-set}
use Rattle.network_workers.proofs.EndsOf.{since-none, in-got, out-sent, got-grew, ends-nothing, ends-set, find-set, other-set, IsFirst, is-first}

-- room for one item where one was given, and else none
abbrev cap_for : Turned → ℕ
cap_for Gave = 1
cap_for Took = 0
cap_for Made = 0
cap_for (Idle why) = 0
cap_for Done = 0

may_have : (reads : Bool) (t : Turned) → MayHave reads (turned t) (cap_for t) [] []
may_have reads Took = record { none = λ _. refl; empty = λ _. refl; room = λ e. cc; full = λ _. refl }
may_have reads Gave = record { none = λ _. refl; empty = λ _. refl; room = λ _. omega arith; full = λ e. cc }
may_have reads Made = record { none = λ _. refl; empty = λ _. refl; room = λ e. cc; full = λ _. refl }
may_have reads (Idle why) = record { none = λ _. refl; empty = λ _. refl; room = λ e. cc; full = λ _. refl }
may_have reads Done = record { none = λ _. refl; empty = λ _. refl; room = λ e. cc; full = λ _. refl }

-- the turn between queues that held nothing but what was taken
at-none : {S : Type 0} (root reads : Bool) (ch : net.Choice S Point StageFault) (old new : net.Node S Point StageFault) (t : Turned) (took gave : List code.Item) → IsTurn root reads ch old new t took gave
    → left new [] (bodies gave) t ≡ net.turn root (cap_for t) ch old (bodies took) []
at-none root reads ch old new t took gave turn = turn (cap_for t) [] [] (may_have reads t) ∙ ap (λ xs. net.turn root (cap_for t) ch old xs []) (append-nil (bodies took))

less-by : (a b : ℕ) → a ≤ b → b ≢ a → a < b
less-by a b l n = by_order (nat_lt a b) refl
  where
    by_order : (c : Bool) → nat_lt a b ≡ c → a < b
    by_order true h = ltb-true a b h
    by_order false h = let m = ltb-false a b h in absurd (n (omega (arith, l, m)))

marks-none : (took : List code.Item) → took ≡ [] → (it : Item Point) → bodies took ≡ it ∷ [] → {A : Type 0} → A
marks-none [] h it e = cc
marks-none (x ∷ xs) h it e = cc

-- a turn, apart from the ends of the deal
module _ {W S : Type 0} (g : Ghosts W S) (law : (w : W) → KeepsCutting (g.meaning w)) (old new : Seat W) (input input' : Option InSeen) (t : Turned) (turn : IsSeatTurn g old new input input' t)
    (sound : IsNode (shown g (replicate (node_of old).inputs 0) (node_of old))) (more : is_some input ≡ true → (node_of old).ended < (node_of old).inputs) where
  abbrev zeros : List ℕ
  zeros = replicate (node_of old).inputs 0

  abbrev took : List code.Item
  took = since (got_on input) (got_on input')

  abbrev gave : List code.Item
  gave = since (sent_on old.out) (sent_on new.out)

  abbrev before : net.Node S Point StageFault
  before = shown g zeros (node_of old)

  abbrev now : net.Node S Point StageFault
  now = shown g zeros (node_of new)

  abbrev ch : net.Choice S Point StageFault
  ch = choice g (node_of old) (node_of new)

  abbrev root : Bool
  root = is_none old.out

  abbrev outcome : net.Outcome S Point StageFault
  outcome = net.turn root (cap_for t) ch before (bodies took) []

  is-outcome : left now [] (bodies gave) t ≡ outcome
  is-outcome = at-none root (is_some input) ch before now t took gave (turn.turn.row zeros)

  taken-all : outcome.input ≡ []
  taken-all = ap (λ x. x.input) (sym is-outcome)

  more_to : (it : Item Point) → bodies took ≡ it ∷ [] → (node_of old).ended < (node_of old).inputs
  more_to it e = by_input input input' turn.read refl refl
    where
      by_input : (a b : Option InSeen) → EndGrew a b → input ≡ a → input' ≡ b → (node_of old).ended < (node_of old).inputs
      by_input None None h p q = marks-none took (ap (λ x. since (got_on x) (got_on input')) p ∙ ap (λ x. since [] (got_on x)) q) it e
      by_input (Some a) b h p q = more (ap is_some p)
      by_input None (Some b) h p q = absurd h

  inputs-same : outcome.node.machine.inputs ≡ (node_of old).inputs
  inputs-same = ap (λ x. x.node.machine.inputs) (sym is-outcome) ∙ turn.turn.obeys.calm.inputs

  pub turn-work : (shown g [] (node_of new)).work ≡ (shown g [] (node_of old)).work
  turn-work = ap (λ (x : net.Outcome S Point StageFault). x.node.work) is-outcome ∙ turn-works root (cap_for t) ch before (bodies took) sound taken-all more_to

  pub turn-reads-seat : (r : ℕ → List (Mark Point)) → rest_of (shown g [] (node_of old)) (joined (only_input (node_of old).ended (bodies took)) r) ≡ all_marks (bodies took) ++ rest_of (shown g [] (node_of new)) r
  turn-reads-seat r = turn-reads root (cap_for t) ch before (bodies took) sound taken-all more_to inputs-same r
      ∙ ap (λ (x : net.Outcome S Point StageFault). all_marks (bodies took) ++ rest_of x.node r) (sym is-outcome)

  turn-quiet : NoEvent g (node_of old) (node_of new) → Told g (node_of old) → (b : List (Mark Point)) × (root ≡ false → b ≡ all_marks (bodies gave)) × QuietBetween before now (only_input (node_of old).ended (bodies took)) b
  turn-quiet none told =
      let q = turn-quietly root (cap_for t) ch before (bodies took) sound taken-all more_to (law (node_of old).work) (turn.turn.obeys.quiet none told zeros) in (
        q.0,
        (λ r. q.1 r ∙ ap (λ x. all_marks x.out) (sym is-outcome)),
        subst (λ (x : net.Outcome S Point StageFault). QuietBetween before x.node (only_input (node_of old).ended (bodies took)) q.0) (sym is-outcome) q.2,
      )

  pub turn-quietly-seat : NoEvent g (node_of old) (node_of new) → Told g (node_of old) → Quietly g (node_of old) (node_of new) (only_input (node_of old).ended (bodies took)) old.out (all_marks (bodies gave))
  turn-quietly-seat none told =
      let q = turn-quiet none told in record {
        gave = q.0;
        same = q.1;
        quiet = record {
          carried = record { flow = q.2.carried.flow; last = q.2.carried.last };
          closing = λ ok. let c = q.2.closing (record { hand = ok.hand; done = ok.done; leaf = ok.leaf; told = ok.told }) in record { hand = c.hand; done = c.done; leaf = c.leaf; told = c.told };
        };
        told = turn.turn.obeys.told none told;
      }

  pub turn-holds : HoldsMore g (node_of old) (node_of new) (mark_points (all_marks (bodies took)))
  turn-holds none from held = subst (HoldsBesides g (node_of old).fault (node_of new).fault (node_of new).work from) (sym (points-of_items (bodies took))) (turn.turn.holds none from held)

  pub turn-sound : IsNode (shown g (replicate (node_of new).inputs 0) (node_of new))
  turn-sound = subst (λ i. IsNode (shown g (replicate i 0) (node_of new))) (sym turn.turn.obeys.calm.inputs) (ruled-sound root (is_some input) ch before now t took gave (turn.turn.row zeros) sound)

  pub turn-sent : SentBy g (node_of old) old.out → SentBy g (node_of new) new.out
  turn-sent was = by_out old.out new.out turn.out refl refl was
    where
      by_out : (a b : Option OutSeen) → OutGrew a b → old.out ≡ a → new.out ≡ b → SentBy g (node_of old) a → SentBy g (node_of new) b
      by_out None None h p q s = tt
      by_out (Some a) (Some b) h p q s =
          let r = ruled-sent root (is_some input) ch before now t took gave (turn.turn.row zeros) (ap is_none p) a b
          (ap (λ x. x.sent) h ∙ ap (λ x. a.sent ++ x) (ap (λ x. since (sent_on x) b.sent) (sym p) ∙ ap (λ x. since (sent_on old.out) (sent_on x)) (sym q)))
          (record { number = s.number; ended = s.ended }) in
          record { number = r.number; ended = r.ended }
      by_out None (Some b) h p q s = absurd h
      by_out (Some a) None h p q s = absurd h

  allowed : before.leaf ≡ true → before.hand ≡ None → before.done ≡ false → before.ending ≡ false → net.IsWithin ch before
  allowed l h d e = (turn.turn.obeys.allowed zeros).leaf l h d e

  pub turn-pays-seat : (below : ℕ) → cond (net.works (turned t)) 1 0 + net.owes below (shown g [] (node_of new)) + 2 * below * length gave ≤ net.owes below (shown g [] (node_of old)) + (2 * below + 2) * length took
  turn-pays-seat below =
      let h = subst (λ (x : net.Outcome S Point StageFault). cond (net.works x.turned) 1 0 + net.owes below x.node + 2 * below * length x.out ≤ net.owes below before + (2 * below + 2) * length (bodies took)) (sym is-outcome)
      (turn-pays root (cap_for t) ch before (bodies took) sound taken-all more_to below allowed) in
      subst (λ n. cond (net.works (turned t)) 1 0 + net.owes below now + 2 * below * n ≤ net.owes below before + (2 * below + 2) * length took) (bodies-length gave)
      (subst (λ n. cond (net.works (turned t)) 1 0 + net.owes below now + 2 * below * length (bodies gave) ≤ net.owes below before + (2 * below + 2) * n) (bodies-length took) h)

  pub turn-sends-more : length (sent_on new.out) ≡ length (sent_on old.out) + length gave
  turn-sends-more = ap (λ (xs : List code.Item). length xs) (out-sent old.out new.out turn.out) ∙ length-append (sent_on old.out) gave

  -- where nothing was got no input ended
  pub turn-unread : took ≡ [] → (node_of new).ended ≡ (node_of old).ended
  turn-unread none = ap (λ x. x.node.machine.ended) is-outcome ∙ by_taken (turn-moved root before sound (bodies took) [] (cap_for t) ch).taken
    where
      by_taken : ((outcome.input ≡ bodies took) × (outcome.node.machine.ended ≡ (node_of old).ended)) ⊎ ((it : Item Point) × (bodies took ≡ it ∷ outcome.input) × (outcome.node.machine.ended ≡ cond (is_end it) ((node_of old).ended + 1) (node_of old).ended))
          → outcome.node.machine.ended ≡ (node_of old).ended
      by_taken (inl p) = p.1
      by_taken (inr p) = marks-none took none p.0 (p.1 ∙ ap (λ x. p.0 ∷ x) taken-all)

  -- an End that was got ends the input
  pub turn-closes : (a b : InSeen) → input ≡ Some a → input' ≡ Some b → ended a.got ≡ false → (node_of new).ended ≡ cond (ended b.got) ((node_of old).ended + 1) (node_of old).ended
  turn-closes a b p q was = ruled-closes root (is_some input) ch before now t took gave (turn.turn.row zeros) sound a b
      (ap got_on (sym q) ∙ got-grew input input' turn.read ∙ ap (λ x. got_on x ++ took) p) was

-- with the ends of the deal
by_current : (ins ins' : List SeatIn) (at e : ℕ) (input input' : Option InSeen) → end_of ins at e ≡ input → end_of ins' at e ≡ input' → ((k : ℕ) → k ≢ e → end_of ins' at k ≡ end_of ins at k)
    → (k : ℕ) → took_of at ins ins' k ≡ only_input e (bodies (since (got_on input) (got_on input'))) k
by_current ins ins' at e input input' here here' same k = elim (eqb_tells k e) [
  | inl p ↦ ap (λ j. took_of at ins ins' j) p.1 ∙ ap (λ x. all_marks (bodies (since (got_on x) (got_of ins' at e)))) here ∙ ap (λ x. all_marks (bodies (since (got_on input) (got_on x)))) here'
      ∙ sym (ap (λ b. cond b (all_marks (bodies (since (got_on input) (got_on input')))) []) (eq-eqb k e p.1))
  | inr p ↦ ap (λ x. all_marks (bodies (since (got_of ins at k) (got_on x)))) (same k p.1) ∙ ap (λ x. all_marks (bodies x)) (since-none (got_of ins at k))
      ∙ sym (ap (λ b. cond b (all_marks (bodies (since (got_on input) (got_on input')))) []) p.0)
]

module _ {W S : Type 0} (g : Ghosts W S) (law : (w : W) → KeepsCutting (g.meaning w)) (ins ins' : List SeatIn) (at : ℕ) (old new : Seat W) (input input' : Option InSeen) (t : Turned)
    (turn : IsSeatTurn g old new input input' t) (fit : IsFit g ins at old) (more : is_some input ≡ true → (node_of old).ended < (node_of old).inputs)
    (grew : EndsGrew ins ins') (same : (s k : ℕ) → (s ≢ at) ⊎ (k ≢ (node_of old).ended) → end_of ins' s k ≡ end_of ins s k)
    (marks : (k : ℕ) → took_of at ins ins' k ≡ only_input (node_of old).ended (bodies (since (got_on input) (got_on input'))) k)
    (closed : (k : ℕ) → k < (node_of old).inputs → ended (got_of ins' at k) ≡ nat_lt k (node_of new).ended) (there : (k : ℕ) → is_some (end_of ins' at k) ≡ is_some (end_of ins at k))
    (pays : (below : ℕ → ℕ) → cond (net.works (turned t)) 1 0 + seat_owes g (below at) new + ends_pay below ins ≤ seat_owes g (below at) old + ends_pay below ins') where
  same-marks : only_input (node_of old).ended (bodies (since (got_on input) (got_on input'))) ≡ took_of at ins ins'
  same-marks = fun_ext (λ k. sym (marks k))

  carries-turn : Carries g ins ins' at old new
  carries-turn = record {
    stage = turn.stage;
    out = turn.out;
    calm = turn.turn.obeys.calm;
    between = record {
      work = turn-work g law old new input input' t turn fit.sound more;
      leaf = turn.turn.obeys.calm.leaf;
      inputs = turn.turn.obeys.calm.inputs;
      took = all_marks (bodies (since (got_on input) (got_on input')));
      reads = reads-same (shown g [] (node_of old)) (shown g [] (node_of new)) _ (took_of at ins ins') (all_marks (bodies (since (got_on input) (got_on input')))) same-marks (turn-reads-seat g law old new input input' t turn fit.sound more);
    };
    holds = turn-holds g law old new input input' t turn fit.sound more;
    quietly = λ none told. let q = turn-quietly-seat g law old new input input' t turn fit.sound more none told in record {
      gave = q.gave;
      same = q.same;
      quiet = quiet-same (shown g [] (node_of old)) (shown g [] (node_of new)) _ (took_of at ins ins') q.gave q.gave same-marks refl q.quiet;
      told = q.told;
    };
  }

  pub seat-turn : CarriesTurn g at ins ins' old new t
  seat-turn = record {
    fit = record {
      sound = turn-sound g law old new input input' t turn fit.sound more;
      sent = turn-sent g law old new input input' t turn fit.sound more fit.sent;
      ends = λ k l. there k ∙ fit.ends k (let i = turn.turn.obeys.calm.inputs in omega (arith, i, l));
      closed = λ k l. closed k (let i = turn.turn.obeys.calm.inputs in omega (arith, i, l));
    };
    carries = carries-turn;
    ends = grew;
    others = λ s k n. same s k (inl n);
    pays = pays;
  }

-- a turn that read no input
module _ {W S : Type 0} (g : Ghosts W S) (law : (w : W) → KeepsCutting (g.meaning w)) (ins : List SeatIn) (at : ℕ) (old new : Seat W) (t : Turned)
    (turn : IsSeatTurn g old new None None t) (fit : IsFit g ins at old) where
  pub last-turn : CarriesTurn g at ins ins old new t
  last-turn = seat-turn g law ins ins at old new None None t turn fit (λ h. absurd (true≢false (sym h))) (ends-nothing ins) (λ s k n. refl) marks closed (λ k. refl) pays
    where
      marks : (k : ℕ) → took_of at ins ins k ≡ only_input (node_of old).ended [] k
      marks k = ap (λ x. all_marks (bodies x)) (since-none (got_of ins at k)) ∙ by_bool (k == (node_of old).ended)
        where
          by_bool : (b : Bool) → [] ≡ cond {A = List (Mark Point)} b [] []
          by_bool true = refl
          by_bool false = refl

      more : false ≡ true → (node_of old).ended < (node_of old).inputs
      more h = absurd (true≢false (sym h))

      pays : (below : ℕ → ℕ) → cond (net.works (turned t)) 1 0 + seat_owes g (below at) new + ends_pay below ins ≤ seat_owes g (below at) old + ends_pay below ins
      pays below =
          let h = turn-pays-seat g law old new None None t turn fit.sound more (below at) in
          let a = one-turn (below at) (cond (net.works (turned t)) 1 0) (net.owes (below at) (shown g [] (node_of old))) (net.owes (below at) (shown g [] (node_of new))) (length (sent_on old.out)) (length (sent_on new.out)) (length (since (sent_on old.out) (sent_on new.out))) 0 0 0 h
          (turn-sends-more g law old new None None t turn fit.sound more) refl in omega (arith, a)

      still : (node_of new).ended ≡ (node_of old).ended
      still = turn-unread g law old new None None t turn fit.sound (λ h. absurd (true≢false (sym h))) refl

      closed : (k : ℕ) → k < (node_of old).inputs → ended (got_of ins at k) ≡ nat_lt k (node_of new).ended
      closed k l = fit.closed k l ∙ ap (nat_lt k) (sym still)

-- a turn that read its current input
module _ {W S : Type 0} (g : Ghosts W S) (law : (w : W) → KeepsCutting (g.meaning w)) (ins : List SeatIn) (at : ℕ) (old new : Seat W) (entry entry' : SeatIn) (t : Turned)
    (fit : IsFit g ins at old) (less : (node_of old).ended < (node_of old).inputs) (turn : IsSeatTurn g old new (Some entry.end) (Some entry'.end) t)
    (is : (d : SeatIn) → slice_index_or ins (first_at ins at (node_of old).ended) d ≡ entry) (seat : entry'.seat ≡ entry.seat) (number : entry'.input ≡ entry.input) where
  abbrev e : ℕ
  e = (node_of old).ended

  abbrev ins' : List SeatIn
  ins' = slice_set ins (first_at ins at e) entry'

  first : IsFirst ins at e
  first = is-first ins at e (fit.ends e less)

  seat-is : entry.seat ≡ at
  seat-is = ap (λ (x : SeatIn). x.seat) (sym (is entry)) ∙ first.seat entry

  input-is : entry.input ≡ e
  input-is = ap (λ (x : SeatIn). x.input) (sym (is entry)) ∙ first.input entry

  here : end_of ins at e ≡ Some entry.end
  here = first.end entry ∙ ap (λ (x : SeatIn). Some x.end) (is entry)

  here' : end_of ins' at e ≡ Some entry'.end
  here' = find-set ins at e entry' first.inside (seat ∙ seat-is) (number ∙ input-is)

  same : (s k : ℕ) → (s ≢ at) ⊎ (k ≢ e) → end_of ins' s k ≡ end_of ins s k
  same s k n = other-set ins at e s k entry' (seat ∙ seat-is) (number ∙ input-is) n

  grew : EndsGrew ins ins'
  grew = ends-set ins (first_at ins at e) entry' (λ d l. subst (λ (x : SeatIn). EntryGrew x entry') (sym (is d)) (record { seat = seat; input = number; end = turn.read }))

  unended : ended entry.end.got ≡ false
  unended = ap (λ x. ended (got_on x)) (sym here) ∙ fit.closed e less ∙ le-ltb e e (omega arith)

  closes : (node_of new).ended ≡ cond (ended entry'.end.got) (e + 1) e
  closes = turn-closes g law old new (Some entry.end) (Some entry'.end) t turn fit.sound (λ _. less) entry.end entry'.end refl refl unended

  closed-here : (b : Bool) → ended entry'.end.got ≡ b → ended (got_of ins' at e) ≡ nat_lt e (node_of new).ended
  closed-here true h = ap (λ x. ended (got_on x)) here' ∙ h ∙ sym (lt-ltb e (node_of new).ended (let c = closes ∙ ap (λ b. cond b (e + 1) e) h in omega (arith, c)))
  closed-here false h = ap (λ x. ended (got_on x)) here' ∙ h ∙ sym (le-ltb e (node_of new).ended (let c = closes ∙ ap (λ b. cond b (e + 1) e) h in omega (arith, c)))

  -- an input before or behind the current one is as it was
  not-here : (b : Bool) → ended entry'.end.got ≡ b → (k : ℕ) → k ≢ e → nat_lt k e ≡ nat_lt k (node_of new).ended
  not-here b h k n = by_order (nat_lt k e) refl
    where
      now : (node_of new).ended ≡ cond b (e + 1) e
      now = closes ∙ ap (λ b. cond b (e + 1) e) h

      at-most : (c : Bool) → cond c (e + 1) e ≤ e + 1
      at-most true = omega arith
      at-most false = omega arith

      at-least : (c : Bool) → e ≤ cond c (e + 1) e
      at-least true = omega arith
      at-least false = omega arith

      by_order : (c : Bool) → nat_lt k e ≡ c → nat_lt k e ≡ nat_lt k (node_of new).ended
      by_order true c = c ∙ sym (lt-ltb k (node_of new).ended (let l = ltb-true k e c in let m = at-least b in omega (arith, l, now, m)))
      by_order false c = c ∙ sym (le-ltb k (node_of new).ended (let l = less-by e k (ltb-false k e c) n in let m = at-most b in omega (arith, l, now, m)))

  closed : (k : ℕ) → k < (node_of old).inputs → ended (got_of ins' at k) ≡ nat_lt k (node_of new).ended
  closed k l = elim (eqb_tells k e) [
    | inl p ↦ subst (λ j. ended (got_of ins' at j) ≡ nat_lt j (node_of new).ended) (sym p.1) (closed-here (ended entry'.end.got) refl)
    | inr p ↦ ap (λ x. ended (got_on x)) (same at k (inr p.1)) ∙ fit.closed k l ∙ not-here (ended entry'.end.got) refl k p.1
  ]

  there : (k : ℕ) → is_some (end_of ins' at k) ≡ is_some (end_of ins at k)
  there k = elim (eqb_tells k e) [
    | inl p ↦ subst (λ j. is_some (end_of ins' at j) ≡ is_some (end_of ins at j)) (sym p.1) (ap is_some here' ∙ sym (ap is_some here))
    | inr p ↦ ap is_some (same at k (inr p.1))
  ]

  pays : (below : ℕ → ℕ) → cond (net.works (turned t)) 1 0 + seat_owes g (below at) new + ends_pay below ins ≤ seat_owes g (below at) old + ends_pay below ins'
  pays below =
      let h = turn-pays-seat g law old new (Some entry.end) (Some entry'.end) t turn fit.sound (λ _. less) (below at) in
      let got = ap (λ (xs : List code.Item). length xs) (in-got entry.end entry'.end turn.read) ∙ length-append entry.end.got (since entry.end.got entry'.end.got) in
      let a = one-turn (below at) (cond (net.works (turned t)) 1 0) (net.owes (below at) (shown g [] (node_of old))) (net.owes (below at) (shown g [] (node_of new))) (length (sent_on old.out)) (length (sent_on new.out)) (length (since (sent_on old.out) (sent_on new.out)))
      (length (since entry.end.got entry'.end.got)) (length entry.end.got) (length entry'.end.got) h (turn-sends-more g law old new (Some entry.end) (Some entry'.end) t turn fit.sound (λ _. less)) got in
      let b = ends_pay-set below ins (first_at ins at e) entry' entry first.inside in
      let c = ap (end_pays below) (is entry) ∙ ap (λ z. (2 * below z + 2) * length entry.end.got) seat-is in
      let d = ap (λ z. (2 * below z + 2) * length entry'.end.got) (seat ∙ seat-is) in omega (arith, a, b, c, d)

  pub reader-turn : CarriesTurn g at ins ins' old new t
  reader-turn = seat-turn g law ins ins' at old new (Some entry.end) (Some entry'.end) t turn fit (λ _. less) grew same
      (by_current ins ins' at e (Some entry.end) (Some entry'.end) here here' (λ k n. same at k (inr n))) closed there pays

-- the current input, where there is one
pub current-is : {S P F : Type 0} (n : net.Node S P F) (k : ℕ) → current_of n ≡ Some k → (n.machine.ended ≡ k) × (n.machine.ended < n.machine.inputs)
current-is n k h = by_test (nat_lt n.machine.ended n.machine.inputs) refl h
  where
    by_test : (b : Bool) → nat_lt n.machine.ended n.machine.inputs ≡ b → cond b (Some n.machine.ended) None ≡ Some k → (n.machine.ended ≡ k) × (n.machine.ended < n.machine.inputs)
    by_test true t e = (some-same n.machine.ended k e, ltb-true n.machine.ended n.machine.inputs t)
      where
        some-same : (a b : ℕ) → Some a ≡ Some b → a ≡ b
        some-same a b e = cc
    by_test false t e = cc
