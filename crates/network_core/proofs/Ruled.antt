-- A turn over the ends of queues between threads.
use Rattle.std.proofs.Common.{◌≡◌, ℕ, ◌+◌, ◌<◌, Bool, true, false, List, [], ◌∷◌, ◌++◌, length, drop, Option, Some, None, refl, ap, subst, sym, ◌∙◌, ◌⊎◌, inl, inr, append-nil, arith, length-append, cond}
use Rattle.std.specs.Prelude.{◌||◌, nat_lt, is_some}
use Rattle.std.proofs.lemmas.Bool.{ltb-true, lt-ltb}
use Rattle.cloud_points.specs.declared.point.Point.{Point}
use Rattle.cloud_points.specs.declared.item.Item as code
use Rattle.cloud_points.specs.declared.faults.StageFault.{StageFault}
use Rattle.cloud_points.specs.declared.work.Work.{Ghosts}
use Rattle.cloud_points.specs.Bodies.{seen, bodies}
use Rattle.cloud_points.specs.Marks.{Item, all_marks, is_end}
use Rattle.cloud_points.specs.Meaning.{KeepsCutting}
use Rattle.cloud_points.specs.Queue.{up_to_limit}
use Rattle.chunk_queue.specs.Ends.{InSeen, OutSeen, in_seen, out_seen, ended, sends, takes, HadRoom}
use Rattle.network_theory.specs.Carried.{only_input}
use Rattle.network_theory.specs.History.{all_item_points}
use Rattle.network_theory.specs.Net as net
use Rattle.network_theory.specs.Sound.{IsNode}
use Rattle.network_theory.proofs.CarriedTurn.{Carries, turn-carries, carried-same}
use Rattle.network_theory.proofs.Hands.{Hands, GivesNone, GivesOne, turn-hands}
use Rattle.network_theory.proofs.Keeps.{Moved, turn-moved}
use Rattle.network_core.specs.declared.node.Node.{Node}
use Rattle.network_core.specs.declared.turned.Turned.{Turned}
use Rattle.network_core.specs.declared.turned.Turned.TheVariants.{Took, Gave, Made, Idle, Done}
use Rattle.network_core.specs.declared.turned.Why.TheVariants.{Empty, Full}
use Rattle.network_core.specs.Ruled.{taken, sent, MayHave, IsTurn, Takes, Sends, HasSent, is_read, is_gift, CarriesOver, RuledTurn}
use Rattle.network_core.specs.Begun.{made_by}
use Rattle.network_core.specs.Calm.{Obeys}
use Rattle.network_core.specs.Holding.{KeepsHolding, HoldsMore}
use Rattle.network_core.specs.Shown.{shown, current_of, choice, chosen, left, turned}
use Rattle.network_core.proofs.Events.{from_empty, takes_row}
use Rattle.network_core.proofs.Holds.{keeps-nothing}

drop-front : {A : Type 0} (xs ys : List A) → drop (length xs) (xs ++ ys) ≡ ys
drop-front [] ys = refl
drop-front (x ∷ xs) ys = drop-front xs ys

drop-all : {A : Type 0} (xs : List A) → drop (length xs) xs ≡ []
drop-all [] = refl
drop-all (x ∷ xs) = drop-all xs

-- what an end grew by
pub taken-one : (old new : InSeen) (i : code.Item) → new ≡ takes old i → taken old new ≡ i ∷ []
taken-one old new i e = ap (λ (n : InSeen). drop (length old.got) n.got) e ∙ drop-front old.got (i ∷ [])

pub taken-none : (old new : InSeen) → new ≡ old → taken old new ≡ []
taken-none old new e = ap (λ (n : InSeen). drop (length old.got) n.got) e ∙ drop-all old.got

pub sent-one : (old new : OutSeen) (i : code.Item) → new ≡ sends old i → sent old new ≡ i ∷ []
sent-one old new i e = ap (λ (n : OutSeen). drop (length old.sent) n.sent) e ∙ drop-front old.sent (i ∷ [])

pub sent-none : (old new : OutSeen) → new ≡ old → sent old new ≡ []
sent-none old new e = ap (λ (n : OutSeen). drop (length old.sent) n.sent) e ∙ drop-all old.sent

same-in : (old new : InSeen) → new ≡ old → new ≡ in_seen old.queue old.capacity (old.got ++ taken old new)
same-in old new e = e ∙ ap (in_seen old.queue old.capacity) (sym (append-nil old.got) ∙ ap (λ xs. old.got ++ xs) (sym (taken-none old new e)))

same-out : (old new : OutSeen) → new ≡ old → new ≡ out_seen old.queue old.capacity (old.sent ++ sent old new)
same-out old new e = e ∙ ap (out_seen old.queue old.capacity) (sym (append-nil old.sent) ∙ ap (λ xs. old.sent ++ xs) (sym (sent-none old new e)))

pub not_read : (t : Turned) (inn : InSeen) → is_read t ≡ false → Takes inn inn (turned t)
not_read Took inn h = cc
not_read Gave inn h = record { grows = same-in inn inn refl; first = λ t. cc; empty = λ t. cc }
not_read Made inn h = record { grows = same-in inn inn refl; first = λ t. cc; empty = λ t. cc }
not_read (Idle Empty) inn h = cc
not_read (Idle Full) inn h = record { grows = same-in inn inn refl; first = λ t. cc; empty = λ t. cc }
not_read Done inn h = record { grows = same-in inn inn refl; first = λ t. cc; empty = λ t. cc }

-- an end that sends
pub gave-one : (old new : OutSeen) (i : code.Item) → new ≡ sends old i → HadRoom old → Sends old new net.Gave
gave-one old new i e h = record {
  grows = e ∙ ap (λ xs. out_seen old.queue old.capacity (old.sent ++ xs)) (sym (sent-one old new i e));
  room = λ _. h;
  full = λ t. cc;
}

pub not_given : (t : Turned) (out : OutSeen) → is_gift t ≡ false → Sends out out (turned t)
not_given Took out h = record { grows = same-out out out refl; room = λ t. cc; full = λ t. cc }
not_given Gave out h = cc
not_given Made out h = record { grows = same-out out out refl; room = λ t. cc; full = λ t. cc }
not_given (Idle Empty) out h = record { grows = same-out out out refl; room = λ t. cc; full = λ t. cc }
not_given (Idle Full) out h = cc
not_given Done out h = record { grows = same-out out out refl; room = λ t. cc; full = λ t. cc }

-- the rows of giving and taking
module _ {S : Type 0} (n new : net.Node S Point StageFault) (reads : Bool) (cap : ℕ) (rest outs : List (Item Point)) (ch : net.Choice S Point StageFault) where
  pub gave_ruled : (old out : OutSeen) (i : code.Item) → MayHave reads net.Gave cap rest outs → new ≡ net.given n (seen i.body) → out ≡ sends old i
      → left new rest (outs ++ bodies (sent old out)) Gave ≡ net.with_hand false cap ch n rest outs (Some (seen i.body))
  gave_ruled old out i may e f = rw (lt-ltb (length outs) cap (may.room refl), e, sent-one old out i f) refl

  pub took_ruled : (old inn : InSeen) (i : code.Item) → new ≡ net.taken ch n (seen i.body) → inn ≡ takes old i → left new rest outs Took ≡ net.takes ch n (bodies (taken old inn) ++ rest) outs
  took_ruled old inn i e f = rw (e, taken-one old inn i f) refl

-- a turn that left an end as it was
module _ {S : Type 0} (root : Bool) (cap : ℕ) (ch : net.Choice S Point StageFault) (n new : net.Node S Point StageFault) (rest outs : List (Item Point)) where
  pub untaken : (inn : InSeen) (o : net.Outcome S Point StageFault) → o ≡ net.turn root cap ch n rest outs → o ≡ net.turn root cap ch n (bodies (taken inn inn) ++ rest) outs
  untaken inn o p = p ∙ ap (λ xs. net.turn root cap ch n (bodies xs ++ rest) outs) (sym (taken-none inn inn refl))

  pub ungiven : (out : OutSeen) (t : Turned) (o : net.Outcome S Point StageFault) → left new rest outs t ≡ o → left new rest (outs ++ bodies (sent out out)) t ≡ o
  ungiven out t o p = ap (λ xs. left new rest (outs ++ bodies xs) t) (sent-none out out refl) ∙ ap (λ xs. left new rest xs t) (append-nil outs) ∙ p

  pub unsent : (t : Turned) (o : net.Outcome S Point StageFault) → left new rest outs t ≡ o → left new rest (outs ++ bodies []) t ≡ o
  unsent t o p = ap (λ xs. left new rest xs t) (append-nil outs) ∙ p

pub keeps-untaken : {W S : Type 0} (g : Ghosts W S) (old new : Node W) (inn : InSeen) → KeepsHolding g old new → HoldsMore g old new (all_item_points (bodies (taken inn inn)))
keeps-untaken g old new inn k = subst (HoldsMore g old new) (sym (ap (λ xs. all_item_points (bodies xs)) (taken-none inn inn refl))) (keeps-nothing g old new k)

-- an inner node with an empty hand takes, where it can
module _ {W S : Type 0} (g : Ghosts W S) (ins : List ℕ) (root : Bool) (cap : ℕ) (begun old new : Node W) (rest outs : List (Item Point))
    (begins : (old.hand ≡ None) × (old.done ≡ false) × (old.ending ≡ false) × (g.leaf old.work ≡ false) × (begun ≡ old)) where
  pub taken_row : (o : net.Outcome S Point StageFault) → o ≡ net.takes (chosen g begun new) (shown g ins begun) rest outs → o ≡ net.turn root cap (choice g old new) (shown g ins old) rest outs
  taken_row o p =
      let choice_is : chosen g old new ≡ choice g old new = sym (ap (λ b. cond b (made_by g old new) (chosen g old new)) begins.3) in
      from_empty g ins root cap (choice g old new) old rest outs o begins.0
      (p ∙ ap (λ (n : Node W). net.takes (chosen g n new) (shown g ins n) rest outs) begins.4
      ∙ ap (λ ch. net.takes ch (shown g ins old) rest outs) choice_is
      ∙ takes_row g ins root cap (choice g old new) old rest outs o (shown g ins old) begins.1 begins.2 begins.3)

-- nothing is read
pub idle_row : {S : Type 0} (ch : net.Choice S Point StageFault) (n : net.Node S Point StageFault) (rest outs : List (Item Point)) → rest ≡ [] → left n rest outs (Idle Empty) ≡ net.takes ch n rest outs
idle_row ch n rest outs e = rw e refl

-- a turn that reads no queue
pub unread_row : {S : Type 0} (root : Bool) (ch : net.Choice S Point StageFault) (old new : net.Node S Point StageFault) (t : Turned) → ((cap : ℕ) (outs : List (Item Point)) → left new [] outs t ≡ net.turn root cap ch old [] outs) → IsTurn root false ch old new t [] []
unread_row root ch old new t row cap rest outs may =
    ap (λ xs. left new xs (outs ++ []) t) (may.none refl) ∙ unsent root cap ch old new [] outs t _ (row cap outs)
    ∙ ap (λ xs. net.turn root cap ch old xs outs) (sym (may.none refl))

-- a current input is one that is not ended
pub current-more : {S P F : Type 0} (n : net.Node S P F) → is_some (current_of n) ≡ true → n.machine.ended < n.machine.inputs
current-more n h = by_test (nat_lt n.machine.ended n.machine.inputs) refl h
  where
    by_test : (b : Bool) → nat_lt n.machine.ended n.machine.inputs ≡ b → is_some (cond {A = Option ℕ} b (Some n.machine.ended) None) ≡ true → n.machine.ended < n.machine.inputs
    by_test true t e = ltb-true n.machine.ended n.machine.inputs t
    by_test false t e = cc

-- room for one item where one was given, and else none
abbrev cap_for : Turned → ℕ
cap_for Gave = 1
cap_for Took = 0
cap_for Made = 0
cap_for (Idle why) = 0
cap_for Done = 0

may_have : (reads : Bool) (t : Turned) → MayHave reads (turned t) (cap_for t) [] []
may_have reads Took = record { none = λ _. refl; empty = λ _. refl; room = λ e. cc; full = λ _. refl }
may_have reads Gave = record { none = λ _. refl; empty = λ _. refl; room = λ _. omega arith; full = λ e. cc }
may_have reads Made = record { none = λ _. refl; empty = λ _. refl; room = λ e. cc; full = λ _. refl }
may_have reads (Idle why) = record { none = λ _. refl; empty = λ _. refl; room = λ e. cc; full = λ _. refl }
may_have reads Done = record { none = λ _. refl; empty = λ _. refl; room = λ e. cc; full = λ _. refl }

ended-both : (xs ys : List code.Item) → ended (xs ++ ys) ≡ ended xs || ended ys
ended-both [] ys = refl
ended-both (x ∷ xs) ys = by_first (is_end (seen x.body)) (ended-both xs ys)
  where
    by_first : (b : Bool) → ended (xs ++ ys) ≡ ended xs || ended ys → b || ended (xs ++ ys) ≡ (b || ended xs) || ended ys
    by_first true h = refl
    by_first false h = h

-- what follows from a turn between any contents
module _ {S : Type 0} (root reads : Bool) (ch : net.Choice S Point StageFault) (old new : net.Node S Point StageFault) (t : Turned) (took gave : List code.Item) (turn : IsTurn root reads ch old new t took gave) where
  abbrev o : net.Outcome S Point StageFault
  o = left new [] (bodies gave) t

  at-none : o ≡ net.turn root (cap_for t) ch old (bodies took) []
  at-none = turn (cap_for t) [] [] (may_have reads t) ∙ ap (λ xs. net.turn root (cap_for t) ch old xs []) (append-nil (bodies took))

  pub ruled-carries : KeepsCutting old.work → IsNode old → net.IsQuiet ch old
      → CarriesOver root old new (only_input old.machine.ended (bodies took)) (bodies gave)
  ruled-carries law ok quiet =
      let more : old.leaf ≡ false → old.done ≡ false → old.ending ≡ false → old.hand ≡ None → old.machine.ended < old.machine.inputs = (λ l d e h. ok.reads l d e (ap net.holds_end h)) in
      let whole : Carries root old (bodies took) [] o = subst (Carries root old (bodies took) []) (sym at-none) (turn-carries root old (bodies took) [] (cap_for t) ch law more quiet) in
      let these : whole.a ≡ bodies took = sym (append-nil whole.a) ∙ sym whole.took in
      record {
        b = all_marks whole.b;
        gave = λ r. ap all_marks (sym (whole.gave r));
        carried = carried-same old new (only_input old.machine.ended whole.a) (only_input old.machine.ended (bodies took)) (all_marks whole.b) (all_marks whole.b) (ap (only_input old.machine.ended) these) refl whole.carried;
      }

  -- the node stays sound
  pub ruled-sound : IsNode old → IsNode new
  ruled-sound ok = subst (λ (x : net.Outcome S Point StageFault). IsNode x.node) (sym at-none) (turn-moved root old ok (bodies took) [] (cap_for t) ch).node

  -- an input ends where its End was taken
  pub ruled-closes : IsNode old → (inn inn' : InSeen) → inn'.got ≡ inn.got ++ took → ended inn.got ≡ false → new.machine.ended ≡ cond (ended inn'.got) (old.machine.ended + 1) old.machine.ended
  ruled-closes ok inn inn' grows before =
      let m = subst (Moved root old (bodies took) []) (sym at-none) (turn-moved root old ok (bodies took) [] (cap_for t) ch) in
      let ends : ended inn'.got ≡ ended took = ap ended grows ∙ ended-both inn.got took ∙ ap (λ b. b || ended took) before in
      by_taken took m.taken ∙ ap (λ b. cond b (old.machine.ended + 1) old.machine.ended) (sym ends)
    where
      by_taken : (xs : List code.Item) → (([] ≡ bodies xs) × (new.machine.ended ≡ old.machine.ended)) ⊎ ((it : Item Point) × (bodies xs ≡ it ∷ []) × (new.machine.ended ≡ cond (is_end it) (old.machine.ended + 1) old.machine.ended))
          → new.machine.ended ≡ cond (ended xs) (old.machine.ended + 1) old.machine.ended
      by_taken [] (inl p) = p.1
      by_taken [] (inr p) = absurd (let q = p.1 in cc)
      by_taken (x ∷ xs) (inl p) = absurd (let q = p.0 in cc)
      by_taken (x ∷ []) (inr p) = let q : seen x.body ≡ p.0 = (let r = p.1 in cc) in p.2 ∙ ap (λ b. cond b (old.machine.ended + 1) old.machine.ended) (ap is_end (sym q) ∙ or_false (is_end (seen x.body)))
        where
          or_false : (b : Bool) → b ≡ b || false
          or_false true = refl
          or_false false = refl
      by_taken (x ∷ y ∷ xs) (inr p) = absurd (let q = p.1 in cc)

  -- what was sent stays what the node gave
  pub ruled-sent : root ≡ false → (out out' : OutSeen) → out'.sent ≡ out.sent ++ gave → HasSent old out → HasSent new out'
  ruled-sent r out out' grows was = by_gift gave grows (subst (Hands root (cap_for t) old (bodies took) []) (sym at-none) (turn-hands root (cap_for t) old (bodies took) [] ch)).gives
    where
      by_gift : (xs : List code.Item) → out'.sent ≡ out.sent ++ xs → GivesNone root old [] (left new [] (bodies xs) t) ⊎ GivesOne root (cap_for t) old [] (left new [] (bodies xs) t) → HasSent new out'
      by_gift [] g (inl p) = let same : out'.sent ≡ out.sent = g ∙ append-nil out.sent in record {
        number = p.sent ∙ was.number ∙ ap (λ (l : List code.Item). up_to_limit (length l)) (sym same);
        ended = ap ended same ∙ was.ended ∙ sym p.done;
      }
      by_gift (x ∷ xs) g (inl p) = absurd (let q = p.out in cc)
      by_gift [] g (inr p) = absurd (let q = p.out r in cc)
      by_gift (x ∷ []) g (inr p) =
          let item : seen x.body ≡ p.item = (let q = p.out r in cc) in record {
            number = (let a = p.sent in let b = was.number in let c = ap (λ (l : List code.Item). length l) g in let d = length-append out.sent (x ∷ []) in let e : length (x ∷ []) ≡ 1 = refl in omega (arith, a, b, c, d, e));
            ended = ap ended g ∙ ended-both out.sent (x ∷ []) ∙ ap (λ b. b || ended (x ∷ [])) was.ended ∙ ap (λ b. old.done || b) (or_false (is_end (seen x.body)) ∙ ap is_end item) ∙ sym p.done;
          }
        where
          or_false : (b : Bool) → b || false ≡ b
          or_false true = refl
          or_false false = refl
      by_gift (x ∷ y ∷ xs) g (inr p) = absurd (let q = p.out r in cc)

-- the whole of a turn
module _ {W S : Type 0} (g : Ghosts W S) (root reads : Bool) (old new : Node W) (t : Turned) (took gave : List code.Item) where
  pub ruled-turn : KeepsCutting (g.meaning old.work) → ((ins : List ℕ) → IsTurn root reads (choice g old new) (shown g ins old) (shown g ins new) t took gave) → Obeys g old new → HoldsMore g old new (all_item_points (bodies took))
      → RuledTurn g root reads old new t took gave
  ruled-turn law row obeys holds = record {
    row = row;
    obeys = obeys;
    holds = holds;
    sound = λ ins ok. ruled-sound root reads (choice g old new) (shown g ins old) (shown g ins new) t took gave (row ins) ok;
    carried = λ none told ins ok. ruled-carries root reads (choice g old new) (shown g ins old) (shown g ins new) t took gave (row ins) law ok (obeys.quiet none told ins);
  }
