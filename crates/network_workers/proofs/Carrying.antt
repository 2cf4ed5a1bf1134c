-- What seats carried, turn after turn.
use Rattle.std.proofs.Common.{◌≡◌, ◌≢◌, ℕ, ◌<◌, List, [], ◌++◌, length, Option, Some, None, refl, ap, subst, sym, ◌∙◌, append_assoc, arith}
use Rattle.std.proofs.Math.Path.{fun_ext}
use Rattle.std.specs.Prelude.{is_none, is_some, slice_index_or, slice_set}
use Rattle.cloud_points.specs.declared.work.Work.{Ghosts}
use Rattle.cloud_points.specs.Bodies.{bodies}
use Rattle.cloud_points.specs.Marks.{Mark, all_marks}
use Rattle.chunk_queue.specs.Ends.{OutSeen, ended}
use Rattle.network_theory.specs.Carried.{rest_of, joined}
use Rattle.network_theory.specs.History.{mark_points}
use Rattle.network_theory.specs.Net as net
use Rattle.network_theory.proofs.Betweens.{quiet-nothing, quiet-on, quiet-same}
use Rattle.network_theory.proofs.Carries.{from-same}
use Rattle.network_theory.proofs.Brought.{mark_points-append}
use Rattle.network_core.specs.Calm.{NoEvent, Told}
use Rattle.network_core.specs.Holding.{HoldsMore, HoldsBesides}
use Rattle.network_core.specs.Shown.{shown}
use Rattle.network_core.proofs.Holds.{holds-none, holds-both}
use Rattle.network_workers.specs.declared.seats.Seat.{Seat}
use Rattle.network_workers.specs.declared.seats.SeatIn.{SeatIn}
use Rattle.network_workers.specs.declared.seats.Deal.{Deal}
use Rattle.network_workers.specs.Ends.{end_of, got_on, got_of, sent_on, since, OutGrew, EndsGrew, took_of}
use Rattle.network_workers.specs.Seats.{node_of, IsFit, Quietly, Carries, AreFit, SeatsCarry, DealFits, DealCarries, DealsFit, DealsCarry, AreFew}
use Rattle.network_core.proofs.Calms.{calm-self, calm-on, none-first, none-second}
use Rattle.network_workers.proofs.EndsOf.{since-none, marks-on, out-same, out-sent, out-on, ends-nothing, ends-on, end-grew, got-grew}
use Rattle.network_workers.proofs.Lists.{each-one, pairs-one, pairs-nothing}

same-none : (a b : Option OutSeen) → OutGrew a b → is_none b ≡ is_none a
same-none None None h = refl
same-none (Some a) (Some b) h = refl
same-none None (Some b) h = absurd h
same-none (Some a) None h = absurd h

pub reads-same : {S P F : Type 0} (old new : net.Node S P F) (a a' : ℕ → List (Mark P)) (took : List (Mark P)) → a ≡ a' → ((r : ℕ → List (Mark P)) → rest_of old (joined a r) ≡ took ++ rest_of new r)
    → (r : ℕ → List (Mark P)) → rest_of old (joined a' r) ≡ took ++ rest_of new r
reads-same {P = P} old new a a' took e h = subst (λ b. (r : ℕ → List (Mark P)) → rest_of old (joined b r) ≡ took ++ rest_of new r) e h

reads-on : {S P F : Type 0} (l m n : net.Node S P F) (a c : ℕ → List (Mark P)) (t u : List (Mark P)) → ((r : ℕ → List (Mark P)) → rest_of l (joined a r) ≡ t ++ rest_of m r) → ((r : ℕ → List (Mark P)) → rest_of m (joined c r) ≡ u ++ rest_of n r)
    → (r : ℕ → List (Mark P)) → rest_of l (joined (λ k. a k ++ c k) r) ≡ (t ++ u) ++ rest_of n r
reads-on l m n a c t u h g r =
    from-same (joined (λ k. a k ++ c k) r) (joined a (joined c r)) _ _ (λ k. append_assoc (a k) (c k) (r k))
    ∙ h (joined c r) ∙ ap (λ x. t ++ x) (g r) ∙ sym (append_assoc t u (rest_of n r))

-- an input whose end stays took nothing
took-none : (at : ℕ) (ins ins' : List SeatIn) (k : ℕ) → end_of ins' at k ≡ end_of ins at k → took_of at ins ins' k ≡ []
took-none at ins ins' k e = ap (λ x. all_marks (bodies x)) (ap (λ x. since (got_of ins at k) (got_on x)) e ∙ since-none (got_of ins at k))

module _ {W S : Type 0} (g : Ghosts W S) where
  -- a seat that had no turn, whose ends stay
  pub carries-still : (ins ins' : List SeatIn) (at : ℕ) (s : Seat W) → ((k : ℕ) → end_of ins' at k ≡ end_of ins at k) → Carries g ins ins' at s s
  carries-still ins ins' at s still =
      let n = shown g [] (node_of s) in
      let none : (λ _. []) ≡ took_of at ins ins' = fun_ext (λ k. sym (took-none at ins ins' k (still k))) in record {
        stage = refl;
        out = out-same s.out;
        calm = calm-self g (node_of s);
        between = record { work = refl; leaf = refl; inputs = refl; took = []; reads = reads-same n n (λ _. []) (took_of at ins ins') [] none (λ r. refl) };
        holds = λ _ before h. holds-none g (node_of s).fault (node_of s).fault (node_of s).work before [] (λ _. refl) h;
        quietly = λ _ told. record {
          gave = [];
          same = λ _. sym (ap (λ x. all_marks (bodies x)) (since-none (sent_on s.out)));
          quiet = quiet-same n n (λ _. []) (took_of at ins ins') [] [] none refl (quiet-nothing n);
          told = told;
        };
      }

  pub carries-nothing : (ins : List SeatIn) (at : ℕ) (s : Seat W) → Carries g ins ins at s s
  carries-nothing ins at s = carries-still ins ins at s (λ k. refl)

  module _ (ins ins' ins'' : List SeatIn) (at : ℕ) (l m n : Seat W) (grew : EndsGrew ins ins') (grew' : EndsGrew ins' ins'') (h : Carries g ins ins' at l m) (k : Carries g ins' ins'' at m n) where
    got-marks : (i : ℕ) → took_of at ins ins'' i ≡ took_of at ins ins' i ++ took_of at ins' ins'' i
    got-marks i = marks-on (got_of ins at i) (got_of ins' at i) (got_of ins'' at i)
        (got-grew (end_of ins at i) (end_of ins' at i) (end-grew ins ins' at i grew)) (got-grew (end_of ins' at i) (end_of ins'' at i) (end-grew ins' ins'' at i grew'))

    both : (λ i. took_of at ins ins' i ++ took_of at ins' ins'' i) ≡ took_of at ins ins''
    both = fun_ext (λ i. sym (got-marks i))

    sent-marks : all_marks (bodies (since (sent_on l.out) (sent_on n.out))) ≡ all_marks (bodies (since (sent_on l.out) (sent_on m.out))) ++ all_marks (bodies (since (sent_on m.out) (sent_on n.out)))
    sent-marks = marks-on (sent_on l.out) (sent_on m.out) (sent_on n.out) (out-sent l.out m.out h.out) (out-sent m.out n.out k.out)

    quietly-on : NoEvent g (node_of l) (node_of n) → Told g (node_of l) → Quietly g (node_of l) (node_of n) (took_of at ins ins'') l.out (all_marks (bodies (since (sent_on l.out) (sent_on n.out))))
    quietly-on none told =
        let a = h.quietly (none-first g (node_of l) (node_of m) (node_of n) k.calm none) told in
        let b = k.quietly (none-second g (node_of l) (node_of m) (node_of n) h.calm none) a.told in record {
          gave = a.gave ++ b.gave;
          same = λ r. ap (λ x. x ++ b.gave) (a.same r) ∙ ap (λ x. all_marks (bodies (since (sent_on l.out) (sent_on m.out))) ++ x) (b.same (same-none l.out m.out h.out ∙ r)) ∙ sym sent-marks;
          quiet = quiet-same (shown g [] (node_of l)) (shown g [] (node_of n)) (λ i. took_of at ins ins' i ++ took_of at ins' ins'' i) (took_of at ins ins'') (a.gave ++ b.gave) (a.gave ++ b.gave) both refl
              (quiet-on (shown g [] (node_of l)) (shown g [] (node_of m)) (shown g [] (node_of n)) (took_of at ins ins') (took_of at ins' ins'') a.gave b.gave a.quiet b.quiet);
          told = b.told;
        }

    holds-on : HoldsMore g (node_of l) (node_of n) (mark_points (h.between.took ++ k.between.took))
    holds-on none before held =
        let a = h.holds (none-first g (node_of l) (node_of m) (node_of n) k.calm none) before held in
        subst (HoldsBesides g (node_of l).fault (node_of n).fault (node_of n).work before) (sym (mark_points-append h.between.took k.between.took))
        (holds-both g (node_of l).fault (node_of m).fault (node_of n).fault (node_of m).work (node_of n).work h.calm.stays k.calm.stays before (mark_points h.between.took) (mark_points k.between.took) a
        (k.holds (none-second g (node_of l) (node_of m) (node_of n) h.calm none) (before ++ a.part) a.holds))

    pub carries-on : Carries g ins ins'' at l n
    carries-on = record {
      stage = k.stage ∙ h.stage;
      out = out-on l.out m.out n.out h.out k.out;
      calm = calm-on g (node_of l) (node_of m) (node_of n) h.calm k.calm;
      between = record {
        work = k.between.work ∙ h.between.work;
        leaf = k.between.leaf ∙ h.between.leaf;
        inputs = k.between.inputs ∙ h.between.inputs;
        took = h.between.took ++ k.between.took;
        reads = reads-same (shown g [] (node_of l)) (shown g [] (node_of n)) (λ i. took_of at ins ins' i ++ took_of at ins' ins'' i) (took_of at ins ins'') (h.between.took ++ k.between.took) both
            (reads-on (shown g [] (node_of l)) (shown g [] (node_of m)) (shown g [] (node_of n)) (took_of at ins ins') (took_of at ins' ins'') h.between.took k.between.took h.between.reads k.between.reads);
      };
      holds = holds-on;
      quietly = quietly-on;
    }

  -- all seats of a deal
  pub seats-nothing : (ins : List SeatIn) (xs : List (Seat W)) → SeatsCarry g ins ins xs xs
  seats-nothing ins xs = record { ends = ends-nothing ins; seats = pairs-nothing (Carries g ins ins) (λ k a. carries-nothing ins k a) xs }

  pub seats-on : (ins ins' ins'' : List SeatIn) (xs ys zs : List (Seat W)) → SeatsCarry g ins ins' xs ys → SeatsCarry g ins' ins'' ys zs → SeatsCarry g ins ins'' xs zs
  seats-on ins ins' ins'' xs ys zs h k = record {
    ends = ends-on ins ins' ins'' h.ends k.ends;
    seats = record {
      len = k.seats.len ∙ h.seats.len;
      each = λ j d less. carries-on ins ins' ins'' j (slice_index_or xs j d) (slice_index_or ys j d) (slice_index_or zs j d) h.ends k.ends
          (h.seats.each j d less) (k.seats.each j d (subst (λ n. j < n) (sym h.seats.len) less));
    };
  }

  -- a seat of these whose ends stay is fit as before
  pub fit-still : (ins ins' : List SeatIn) (at : ℕ) (s : Seat W) → ((k : ℕ) → end_of ins' at k ≡ end_of ins at k) → IsFit g ins at s → IsFit g ins' at s
  fit-still ins ins' at s still ok = record {
    sound = ok.sound;
    sent = ok.sent;
    ends = λ k l. ap is_some (still k) ∙ ok.ends k l;
    closed = λ k l. ap (λ e. ended (got_on e)) (still k) ∙ ok.closed k l;
  }

  -- the seat at one place had a turn
  pub seats-turn : (ins ins' : List SeatIn) (xs : List (Seat W)) (at : ℕ) (y : Seat W) → EndsGrew ins ins' → ((s k : ℕ) → s ≢ at → end_of ins' s k ≡ end_of ins s k)
      → ((d : Seat W) → at < length xs → Carries g ins ins' at (slice_index_or xs at d) y) → SeatsCarry g ins ins' xs (slice_set xs at y)
  seats-turn ins ins' xs at y grew others here = record {
    ends = grew;
    seats = pairs-one (Carries g ins ins') xs at y here (λ j d l n. carries-still ins ins' j (slice_index_or xs j d) (λ k. others j k n));
  }

  pub fit-turn : (ins ins' : List SeatIn) (xs : List (Seat W)) (at : ℕ) (y : Seat W) → ((s k : ℕ) → s ≢ at → end_of ins' s k ≡ end_of ins s k) → AreFit g ins xs → IsFit g ins' at y → AreFit g ins' (slice_set xs at y)
  fit-turn ins ins' xs at y others all here = each-one (IsFit g ins') xs at y here (λ j d l n. fit-still ins ins' j (slice_index_or xs j d) (λ k. others j k n) (all j d l))

  -- all deals
  pub deals-nothing : (xs : List (Deal W)) → DealsCarry g xs xs
  deals-nothing xs = pairs-nothing (λ i a b. DealCarries g a b) (λ i a. seats-nothing a.ins.items a.seats.items) xs

  pub deals-on : (xs ys zs : List (Deal W)) → DealsCarry g xs ys → DealsCarry g ys zs → DealsCarry g xs zs
  deals-on xs ys zs h k = record {
    len = k.len ∙ h.len;
    each = λ j d less. seats-on (slice_index_or xs j d).ins.items (slice_index_or ys j d).ins.items (slice_index_or zs j d).ins.items (slice_index_or xs j d).seats.items (slice_index_or ys j d).seats.items (slice_index_or zs j d).seats.items
        (h.each j d less) (k.each j d (subst (λ n. j < n) (sym h.len) less));
  }

  -- one deal's nodes had turns
  pub deals-turn : (xs : List (Deal W)) (i : ℕ) (y : Deal W) → ((d : Deal W) → i < length xs → DealCarries g (slice_index_or xs i d) y) → DealsCarry g xs (slice_set xs i y)
  deals-turn xs i y here = pairs-one (λ j a b. DealCarries g a b) xs i y here (λ j d l n. seats-nothing (slice_index_or xs j d).ins.items (slice_index_or xs j d).seats.items)

  pub deals_fit-turn : (xs : List (Deal W)) (i : ℕ) (y : Deal W) → DealsFit g xs → DealFits g y → DealsFit g (slice_set xs i y)
  deals_fit-turn xs i y all here = each-one (λ j d. DealFits g d) xs i y here (λ j d l n. all j d l)

  pub few-on : (xs ys : List (Deal W)) → DealsCarry g xs ys → AreFew xs → AreFew ys
  few-on xs ys h few k d less =
      let inside : k < length xs = subst (λ n. k < n) h.len less in
      let f = few k d inside in let l = (h.each k d inside).seats.len in omega (arith, f, l)
