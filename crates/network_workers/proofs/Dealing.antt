-- A node that was dealt last is taken back first.
use Rattle.std.proofs.Common.{◌≡◌, ◌≢◌, ℕ, zero, suc, ◌<◌, true, false, cond, List, [], ◌∷◌, ◌++◌, length, Option, Some, None, refl, ap, subst, sym, ◌∙◌, arith, inl, true≢false, replicate, length-append}
use Rattle.std.proofs.Math.Path.{fun_ext}
use Rattle.std.specs.Prelude.{nat_lt, is_some, slice_index_or}
use Rattle.std.proofs.lemmas.Bool.{le-ltb}
use Rattle.cloud_points.specs.declared.work.Work.{Ghosts}
use Rattle.cloud_points.specs.Bodies.{bodies}
use Rattle.cloud_points.specs.Marks.{all_marks}
use Rattle.cloud_points.specs.Queue.{up_to_limit}
use Rattle.chunk_queue.specs.Ends.{InSeen, OutSeen, ended}
use Rattle.network_theory.specs.Opening.{IsFresh}
use Rattle.network_theory.specs.Net as net
use Rattle.network_theory.proofs.Betweens.{quiet-same}
use Rattle.network_core.specs.Shown.{shown}
use Rattle.network_workers.specs.declared.seats.Seat.{Seat}
use Rattle.network_workers.specs.declared.seats.SeatIn.{SeatIn}
use Rattle.network_workers.specs.Dealt.{Place, Hand, seat_of, entries, with_place}
use Rattle.network_workers.specs.Ends.{is_at, end_of, got_on, got_of, sent_on, since, EndsGrew, EndGrew, took_of}
use Rattle.network_workers.specs.Seats.{node_of, SentBy, IsFit, Carries, SeatsCarry}
use Rattle.network_workers.proofs.EndsOf.{end-grew, is_at-other}
use Rattle.network_workers.proofs.Carrying.{reads-same}

-- lists with one element more
pub get-front : {X : Type 0} (xs : List X) (y : X) (k : ℕ) (d : X) → k < length xs → slice_index_or (xs ++ y ∷ []) k d ≡ slice_index_or xs k d
get-front [] y k d l = absurd (omega (arith, l))
get-front (x ∷ xs) y zero d l = refl
get-front (x ∷ xs) y (suc k) d l = get-front xs y k d (omega (arith, l))

pub get-last : {X : Type 0} (xs : List X) (y d : X) → slice_index_or (xs ++ y ∷ []) (length xs) d ≡ y
get-last [] y d = refl
get-last (x ∷ xs) y d = get-last xs y d

pub record SplitLast {X : Type 0} (n : ℕ) (ys : List X) : Type 0 where
  pub front : List X
  pub last : X
  pub same : ys ≡ front ++ last ∷ []
  pub count : length front ≡ n

split-last : {X : Type 0} (n : ℕ) (ys : List X) → length ys ≡ suc n → SplitLast n ys
split-last zero [] h = absurd (omega (arith, h))
split-last zero (y ∷ []) h = record { front = []; last = y; same = refl; count = refl }
split-last zero (y ∷ z ∷ ys) h = absurd (omega (arith, h))
split-last (suc n) [] h = absurd (omega (arith, h))
split-last (suc n) (y ∷ ys) h =
    let s = split-last n ys (omega (arith, h)) in
    record { front = y ∷ s.front; last = s.last; same = ap (λ zs. y ∷ zs) s.same; count = let c = s.count in omega (arith, c) }

-- ends that took more, in two parts
pub record SplitEnds (firsts seconds cs : List SeatIn) : Type 0 where
  pub front : List SeatIn
  pub back : List SeatIn
  pub same : cs ≡ front ++ back
  pub first : EndsGrew firsts front
  pub second : EndsGrew seconds back

split-ends : (firsts seconds cs : List SeatIn) → EndsGrew (firsts ++ seconds) cs → SplitEnds firsts seconds cs
split-ends [] seconds cs h = record { front = []; back = cs; same = refl; first = tt; second = h }
split-ends (a ∷ firsts) seconds (c ∷ cs) h =
    let s = split-ends firsts seconds cs h.1 in
    record { front = c ∷ s.front; back = s.back; same = ap (λ zs. c ∷ zs) s.same; first = (h.0, s.first); second = s.second }
split-ends (a ∷ firsts) seconds [] h = absurd h

-- the ends of one seat are not among those of another
pub entries-other : (seat input s k : ℕ) (es : List InSeen) → s ≢ seat → end_of (entries seat input es) s k ≡ None
entries-other seat input s k [] n = refl
entries-other seat input s k (e ∷ es) n =
    ap (λ b. cond b (Some e) (end_of (entries seat (suc input) es) s k)) (is_at-other (record { seat = seat; input = input; end = e }) seat input s k refl refl (inl n))
    ∙ entries-other seat (suc input) s k es n

pub append-none : (firsts seconds : List SeatIn) (s k : ℕ) → end_of seconds s k ≡ None → end_of (firsts ++ seconds) s k ≡ end_of firsts s k
append-none [] seconds s k h = h
append-none (a ∷ firsts) seconds s k h = ap (cond (is_at a s k) (Some a.end)) (append-none firsts seconds s k h)

pub grew-none : (a b : Option InSeen) → EndGrew a b → a ≡ None → b ≡ None
grew-none None None h e = refl
grew-none None (Some b) h e = absurd h
grew-none (Some a) b h e = cc

module _ {W S : Type 0} (g : Ghosts W S) where
  -- what a seat carried is a matter of the ends of its own inputs
  pub carries-as : (ins ins' js js' : List SeatIn) (at : ℕ) (l m : Seat W) → ((k : ℕ) → end_of js at k ≡ end_of ins at k) → ((k : ℕ) → end_of js' at k ≡ end_of ins' at k) → Carries g ins ins' at l m → Carries g js js' at l m
  carries-as ins ins' js js' at l m a b h = record {
    stage = h.stage;
    out = h.out;
    calm = h.calm;
    between = record {
      work = h.between.work;
      leaf = h.between.leaf;
      inputs = h.between.inputs;
      took = h.between.took;
      reads = reads-same (shown g [] (node_of l)) (shown g [] (node_of m)) (took_of at ins ins') (took_of at js js') h.between.took took-same h.between.reads;
    };
    holds = h.holds;
    quietly = λ none told. let q = h.quietly none told in record {
      gave = q.gave;
      same = q.same;
      quiet = quiet-same (shown g [] (node_of l)) (shown g [] (node_of m)) (took_of at ins ins') (took_of at js js') q.gave q.gave took-same refl q.quiet;
      told = q.told;
    };
  }
    where
      took-same : took_of at ins ins' ≡ took_of at js js'
      took-same = fun_ext (λ k. ap (λ x. all_marks (bodies (since (got_on x) (got_of ins' at k)))) (sym (a k)) ∙ ap (λ x. all_marks (bodies (since (got_of js at k) (got_on x)))) (sym (b k)))

  -- a deal whose last node is taken back
  pub record TakenBack (x : Place W) (hand now : Hand W) : Type 0 where
    pub rest : Hand W
    pub seat : Seat W
    pub ends : List SeatIn
    pub seats_are : now.seats ≡ rest.seats ++ seat ∷ []
    pub ins_are : now.ins ≡ rest.ins ++ ends
    pub grew : EndsGrew (entries (length hand.seats) 0 x.ins) ends
    pub here : Carries g (hand.ins ++ entries (length hand.seats) 0 x.ins) now.ins (length hand.seats) (seat_of x) seat
    pub others : SeatsCarry g hand.ins rest.ins hand.seats rest.seats

  pub taken-back : (x : Place W) (hand now : Hand W) → SeatsCarry g (with_place x hand).ins now.ins (with_place x hand).seats now.seats → TakenBack x hand now
  taken-back x hand now h =
      let n : ℕ = length hand.seats in
      let s : SplitLast (length hand.seats) now.seats = split-last (length hand.seats) now.seats (let l = h.seats.len in let a = length-append hand.seats (seat_of x ∷ []) in omega (arith, l, a)) in
      let e : SplitEnds hand.ins (entries (length hand.seats) 0 x.ins) now.ins = split-ends hand.ins (entries (length hand.seats) 0 x.ins) now.ins h.ends in
      let more : (k : ℕ) → k < length hand.seats → k < length (hand.seats ++ seat_of x ∷ []) = (λ k l. let a = length-append hand.seats (seat_of x ∷ []) in omega (arith, l, a)) in
      record {
        rest = record { seats = s.front; ins = e.front };
        seat = s.last;
        ends = e.back;
        seats_are = s.same;
        ins_are = e.same;
        grew = e.second;
        here = subst (λ (y : Seat W). Carries g (hand.ins ++ entries (length hand.seats) 0 x.ins) now.ins (length hand.seats) (seat_of x) y)
            (ap (λ ys. slice_index_or ys (length hand.seats) (seat_of x)) s.same ∙ ap (λ k. slice_index_or (s.front ++ s.last ∷ []) k (seat_of x)) (sym s.count) ∙ get-last s.front s.last (seat_of x))
            (subst (λ (y : Seat W). Carries g (hand.ins ++ entries (length hand.seats) 0 x.ins) now.ins (length hand.seats) y (slice_index_or now.seats (length hand.seats) (seat_of x)))
            (get-last hand.seats (seat_of x) (seat_of x)) (h.seats.each (length hand.seats) (seat_of x) (let a = length-append hand.seats (seat_of x ∷ []) in omega (arith, a))));
        others = record {
          ends = e.first;
          seats = record {
            len = s.count;
            each = λ k d l. carries-as (hand.ins ++ entries (length hand.seats) 0 x.ins) now.ins hand.ins e.front k (slice_index_or hand.seats k d) (slice_index_or s.front k d)
                (λ i. sym (append-none hand.ins (entries (length hand.seats) 0 x.ins) k i (entries-other (length hand.seats) 0 k i x.ins (λ z. omega (arith, l, z)))))
                (λ i. sym (ap (λ ys. end_of ys k i) e.same ∙ append-none e.front e.back k i (grew-none (end_of (entries (length hand.seats) 0 x.ins) k i) (end_of e.back k i)
                (end-grew (entries (length hand.seats) 0 x.ins) e.back k i e.second) (entries-other (length hand.seats) 0 k i x.ins (λ z. omega (arith, l, z))))))
                (subst (λ (y : Seat W). Carries g (hand.ins ++ entries (length hand.seats) 0 x.ins) now.ins k (slice_index_or hand.seats k d) y)
                (ap (λ ys. slice_index_or ys k d) s.same ∙ get-front s.front s.last k d (let c = s.count in omega (arith, c, l)))
                (subst (λ (y : Seat W). Carries g (hand.ins ++ entries (length hand.seats) 0 x.ins) now.ins k y (slice_index_or now.seats k d)) (get-front hand.seats (seat_of x) k d l) (h.seats.each k d (more k l))));
          };
        };
      }

  -- a new node with new ends may take turns
  pub fresh-fit : (ins : List SeatIn) (at : ℕ) (seat : Seat W) (cs : List ℕ) → IsFresh (shown g cs (node_of seat)) → sent_on seat.out ≡ [] → ((k : ℕ) → k < (node_of seat).inputs → is_some (end_of ins at k) ≡ true) → ((k : ℕ) → got_of ins at k ≡ []) → IsFit g ins at seat
  fresh-fit ins at seat cs fresh unsent there unread = record {
    sound = record {
      inputs = sym (replicated (node_of seat).inputs);
      within = let e = fresh.ended in omega (arith, e);
      leaf = λ l. no-zeros (node_of seat).inputs (fresh.inputs ∙ ap length (fresh.leaf l));
      reads = λ l d e h. let i = fresh.inner l in let z = fresh.ended in omega (arith, i, z);
      read_hand = λ h. absurd (true≢false (sym h ∙ ap net.holds_end fresh.hand));
      read_ending = λ h. absurd (true≢false (sym h ∙ fresh.ending));
      read_done = λ h. absurd (true≢false (sym h ∙ fresh.done));
      rests = λ h. absurd (true≢false (sym h ∙ fresh.done));
    };
    sent = by_out seat.out unsent;
    ends = there;
    closed = λ k l. ap ended (unread k) ∙ sym (ap (nat_lt k) fresh.ended ∙ none-below k);
  }
    where
      replicated : (n : ℕ) → length {A = ℕ} (replicate n 0) ≡ n
      replicated zero = refl
      replicated (suc n) = let r = replicated n in omega (arith, r)

      no-zeros : (n : ℕ) → n ≡ 0 → ◌≡◌ {A = List ℕ} (replicate n 0) []
      no-zeros zero h = refl
      no-zeros (suc n) h = absurd (omega (arith, h))

      none-below : (k : ℕ) → nat_lt k 0 ≡ false
      none-below k = le-ltb k 0 (omega arith)

      by_out : (o : Option OutSeen) → sent_on o ≡ [] → SentBy g (node_of seat) o
      by_out None h = tt
      by_out (Some o) h = record { number = fresh.sent ∙ sym (ap (λ xs. up_to_limit (length xs)) h); ended = ap ended h ∙ sym fresh.done }
