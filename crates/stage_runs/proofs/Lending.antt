-- The nodes of a part are lent to its net, and come back.
use Rattle.std.proofs.Common.{◌≡◌, ◌≢◌, ◌⊎◌, ℕ, ◌+◌, ◌-◌, ◌<◌, ◌≤◌, ◌↔◌, ◌==◌, ◌||◌, Bool, true, false, true≢false, List, [], ◌++◌, take, drop, length, slice_get, Some, None, refl, ap, sym, subst, ◌∙◌, inl, inr, arith, zero, suc, ◌∷◌}
use Rattle.std.proofs.lemmas.Bool.Decides.{eqb_tells, leb_tells}
use Rattle.std.proofs.lemmas.Option.{same_Some, slice_get_within}
use Rattle.file_devices.specs.declared.devices.Source as source
use Rattle.file_devices.specs.declared.devices.Sink as sink
use Rattle.network_theory.specs.Forest.{IsForest, children}
use Rattle.network_theory.specs.Opening.{IsFresh}
use Rattle.network_core.specs.declared.node.Node.{Node}
use Rattle.network_core.specs.Shown.{shown}
use Rattle.network_core.proofs.Opened.{some_at}
use Rattle.stage_kinds.specs.declared.stage_work.StageWork.{StageWork}
use Rattle.stage_kinds.specs.declared.stage_work.StageWork.TheVariants.{Collector}
use Rattle.stage_kinds.specs.declared.held.Held.TheVariants.{Nothing}
use Rattle.stage_kinds.specs.Held.{HoldsSame, held_by, op_of, faults_of}
use Rattle.stage_kinds.specs.Stages.{is_leaf}
use Rattle.file_devices.specs.Counts.{Rose}
use Rattle.cloud_points.specs.Events.{IsOf, is_device}
use Rattle.stage_parts.specs.Parts.{is_of, part_ins}
use Rattle.stage_parts.proofs.Trees.{at_stranger}
use Rattle.stage_runs.specs.declared.plan.Plan.{Plan}
use Rattle.stage_runs.specs.declared.rooms.PartRoom.{PartRoom}
use Rattle.stage_runs.specs.Works.{as_works}
use Rattle.stage_forms.specs.Starts.{IsCollecting}
use Rattle.network_core.specs.declared.stop.Stop.{Stop}
use Rattle.network_core.specs.declared.stop.Stop.TheVariants.{First}
use Rattle.network_solo.specs.Stopping.{CameToEnd}
use Rattle.stage_runs.specs.Parts.{AreSoundOwn, IsExchanged, IsRenewed, IsNewLeaf, IsLaterNode, AreLaterNodes, AreSameOrLater, is_own, IsNet, IsPart}
use Rattle.stage_runs.specs.Rooms.{IsRoom}
use Rattle.stage_runs.specs.Short.{RanShort, NoneShort}
use Rattle.stage_runs.proofs.Later.{leaf-empty, later-empty}
use Rattle.stage_runs.proofs.Choices.{same-number, other-number}
use Rattle.plug_stages.specs.declared.filter.PlugFilter as plug_type
use Rattle.plug_stages.specs.declared.tally.PlugTally as tally_type

-- what a slice holds, its list does
pub slice-back : {A : Type 0} (xs ys : List A) (n : ℕ) → length ys ≡ length xs → n ≡ length xs → take n (ys ++ drop (length ys) xs) ≡ ys
slice-back [] [] n e f = ap (λ m. take m []) f
slice-back [] (y ∷ ys) n e f = absurd (omega (arith, e))
slice-back (x ∷ xs) [] n e f = absurd (omega (arith, e))
slice-back (x ∷ xs) (y ∷ ys) zero e f = absurd (omega (arith, f))
slice-back (x ∷ xs) (y ∷ ys) (suc n) e f = ap (λ zs. y ∷ zs) (slice-back xs ys n (omega (arith, e)) (omega (arith, f)))

-- what was lent by the last place of a net was lent by its root
pub lent-over : {T : Type 0} (given homes : List ℕ) (home root size : ℕ) (one other one_after other_after : List T) → size ≡ root + 1 → given ≡ homes
    → IsExchanged (is_own given home (size - 1)) size one other one_after other_after → IsExchanged (is_own homes home root) (root + 1) one other one_after other_after
lent-over given homes home root size one other one_after other_after many same lent =
    let last : size - 1 ≡ root = omega (arith, many) in
    subst (λ n. IsExchanged (is_own homes home root) n one other one_after other_after) many
    (subst (λ n. IsExchanged (is_own homes home n) size one other one_after other_after) last
    (subst (λ hs. IsExchanged (is_own hs home (size - 1)) size one other one_after other_after) same lent))

module _ {S K P Q : Type 0} (s : source.Ghosts S) (k : sink.Ghosts K) (fs : plug_type.Ghosts P) (ts : tally_type.Ghosts Q) where
  -- what is later than a node is later than another one over the same work that has no fault
  later-work : (x n m : Node (StageWork S K P Q)) → x.work ≡ n.work → n.fault ≡ None → IsLaterNode s k fs ts x m → IsLaterNode s k fs ts n m
  later-work x n m e sound later = record {
    op = later.op ∙ ap op_of e;
    faults = subst (λ w. faults_of s.faults k.faults w ≤ faults_of s.faults k.faults m.work) e later.faults;
    cause = λ d. subst (λ w. Rose (faults_of s.faults k.faults w) (faults_of s.faults k.faults m.work)) e (later.cause d);
    kept = λ d. subst (λ w. faults_of s.faults k.faults m.work ≡ faults_of s.faults k.faults w) e (later.kept d);
    stays = λ o d. absurd (true≢false (sym d ∙ ap is_device sound));
    named = subst (λ w. IsOf (op_of w) m.fault) e later.named;
    holds = subst (λ w. HoldsSame fs ts w m.work) e later.holds;
  }

  -- the nodes of a part are lent to the net of its memory, and its root is made new
  module _ {E : Type 0} (fits : ℕ → ℕ → E → Type 0) (plan : Plan) (room : PartRoom S K P Q E) (home root queue : ℕ) (nodes : List (Node (StageWork S K P Q)))
      (is : IsRoom s k fs ts fits (part_ins plan.gathers.items plan.ins plan.homes.items home root) root queue room) (inside : root < length nodes)
      (fresh : (i : ℕ) (n : Node (StageWork S K P Q)) → i < root → is_of plan.homes.items home i ≡ true → slice_get nodes i ≡ Some n
      → IsFresh (shown (as_works s k fs ts) (children (part_ins plan.gathers.items plan.ins plan.homes.items home root) i) n))
      {given : List ℕ} (same : given ≡ plan.homes.items) {left net : List (Node (StageWork S K P Q))}
      (lent : IsExchanged (is_own given home (length room.net.items - 1)) (length room.net.items) nodes room.net.items left net)
      {takes : List ℕ} (takes_is : takes ≡ children room.ins root) where
    abbrev homes : List ℕ
    homes = plan.homes.items

    abbrev part : List (List ℕ)
    part = part_ins plan.gathers.items plan.ins homes home root

    first : IsExchanged (is_own homes home root) (root + 1) nodes room.net.items left net
    first = lent-over given homes home root (length room.net.items) nodes room.net.items left net is.net.count same lent

    pub left-size : length left ≡ length nodes
    left-size = first.one_count

    net-size : length net ≡ root + 1
    net-size = first.other_count ∙ is.net.count

    count : length (children part root) ≡ length takes
    count = ap length (ap (λ xss. children xss root) (sym is.ins) ∙ sym takes_is)

    -- it has inputs exactly where its work is no leaf
    pub root-leaf : ((n : Node (StageWork S K P Q)) → slice_get nodes root ≡ Some n → (is_leaf n.work ≡ true) ↔ (length (children part root) ≡ 0))
        → (n : Node (StageWork S K P Q)) → slice_get net (length net - 1) ≡ Some n → (is_leaf n.work ≡ true) ↔ (length takes ≡ 0)
    root-leaf inputs n e = subst (λ m. (is_leaf n.work ≡ true) ↔ (m ≡ 0)) count (inputs n
        (let last : root ≡ length net - 1 = (let a = net-size in omega (arith, a)) in
        sym (first.taken root (omega arith) (ap (λ b. b || is_of homes home root) (same-number root))).1 ∙ ap (slice_get net) last ∙ e))

    module _ {renewed : List (Node (StageWork S K P Q))} (new : IsRenewed (as_works s k fs ts) (length takes) net renewed) where
      pub renewed-size : length renewed ≡ root + 1
      renewed-size = new.count ∙ net-size

      pub net-edges : fits (length renewed) queue room.edges
      net-edges = subst (λ n. fits n queue room.edges) (sym renewed-size) is.edges

      last-is : length net - 1 ≡ root
      last-is = let a = net-size in omega (arith, a)

      own-is : (i : ℕ) → is_of homes home i ≡ true → is_own homes home root i ≡ true
      own-is i h = ap (λ b. (i == root) || b) h ∙ either (i == root)
        where
          either : (b : Bool) → b || true ≡ true
          either true = refl
          either false = refl

      root-own : is_own homes home root root ≡ true
      root-own = ap (λ b. b || is_of homes home root) (same-number root)

      other-own : (i : ℕ) → i < root → is_of homes home i ≡ false → is_own homes home root i ≡ false
      other-own i l h = ap (λ b. b || is_of homes home i) (other-number i root (λ e. omega (arith, e, l))) ∙ h

      not-own : (i : ℕ) → is_own homes home root i ≡ false → i < root + 1 → is_own homes home root i ≡ true → ⊥
      not-own i e l p = true≢false (sym p ∙ e)

      own-net : (i : ℕ) → i < root → is_of homes home i ≡ true → slice_get renewed i ≡ slice_get nodes i
      own-net i l h = new.other i (λ e. let a = last-is in omega (arith, e, a, l)) ∙ (first.taken i (omega (arith, l)) (own-is i h)).1

      stood : (i : ℕ) → i < root → is_of homes home i ≡ false → slice_get renewed i ≡ slice_get room.net.items i
      stood i l h = new.other i (λ e. let a = last-is in omega (arith, e, a, l)) ∙ (first.left i (not-own i (other-own i l h))).1

      root-lent : slice_get net root ≡ slice_get nodes root
      root-lent = (first.taken root (omega arith) root-own).1

      at-last : (xs : List (Node (StageWork S K P Q))) (n : Node (StageWork S K P Q)) → slice_get xs root ≡ Some n → slice_get xs (length net - 1) ≡ Some n
      at-last xs n e = ap (slice_get xs) last-is ∙ e

      pub is-net : IsNet s k fs ts part homes home root nodes renewed
      is-net = record {
        count = renewed-size;
        work = λ n m e f. new.work m n (at-last net m (root-lent ∙ f)) (at-last renewed n e);
        root_fresh = λ n e. new.fresh n (children part root) (at-last renewed n e) count;
        own = λ i n l h e. sym (own-net i l h) ∙ e;
        strange = λ i n l h e. is.net.each i n (sym (stood i l h) ∙ e);
      }

      all-fresh : (i : ℕ) (n : Node (StageWork S K P Q)) → slice_get renewed i ≡ Some n → IsFresh (shown (as_works s k fs ts) (children part i) n)
      all-fresh i n e = elim (eqb_tells i root) [
        | inl p ↦ subst (λ j. IsFresh (shown (as_works s k fs ts) (children part j) n)) (sym p.1) (is-net.root_fresh n (ap (slice_get renewed) (sym p.1) ∙ e))
        | inr p ↦ (let no = p.1 in let a = slice_get_within renewed i n e in let b = renewed-size in by_home (omega (arith, no, a, b)) (is_of homes home i) refl)
      ]
        where
          by_home : i < root → (b : Bool) → is_of homes home i ≡ b → IsFresh (shown (as_works s k fs ts) (children part i) n)
          by_home l true h = fresh i n l h (is-net.own i n l h e)
          by_home l false h = subst (λ js. IsFresh (shown (as_works s k fs ts) js n)) (sym (at_stranger plan.gathers.items plan.ins homes home root i l h)) (is-net.strange i n l h e).0.fresh

      pub net-fresh : (i : ℕ) (n : Node (StageWork S K P Q)) → slice_get renewed i ≡ Some n → IsFresh (shown (as_works s k fs ts) (children room.ins i) n)
      net-fresh i n e = subst (λ xss. IsFresh (shown (as_works s k fs ts) (children xss i) n)) (sym is.ins) (all-fresh i n e)

      pub net-forest : IsForest part root → IsForest room.ins (length renewed - 1)
      net-forest forest =
          let last : root ≡ length renewed - 1 = (let a = renewed-size in omega (arith, a)) in
          subst (λ xss. IsForest xss (length renewed - 1)) (sym is.ins) (subst (IsForest part) last forest)

      -- ---- back again

      module _ {ended : List (Node (StageWork S K P Q))} (later : AreLaterNodes s k fs ts renewed ended) {after rest : List (Node (StageWork S K P Q))}
          (returned : IsExchanged (is_own given home (length ended - 1)) (length ended) left ended after rest) where
        second : IsExchanged (is_own homes home root) (root + 1) left ended after rest
        second = lent-over given homes home root (length ended) left ended after rest (later.count ∙ renewed-size) same returned

        after-count : length after ≡ length nodes
        after-count = second.one_count ∙ first.one_count

        back : (i : ℕ) → i ≤ root → is_own homes home root i ≡ true → slice_get after i ≡ slice_get ended i
        back i l o = (second.taken i (omega (arith, l)) o).0

        other : (i : ℕ) → is_own homes home root i ≡ false → slice_get after i ≡ slice_get nodes i
        other i o = (second.left i (not-own i o)).0 ∙ (first.left i (not-own i o)).0

        beyond : (i : ℕ) → root < i → slice_get after i ≡ slice_get nodes i
        beyond i l = (second.left i (λ m p. absurd (omega (arith, l, m)))).0 ∙ (first.left i (λ m p. absurd (omega (arith, l, m)))).0

        before : (i : ℕ) (m : Node (StageWork S K P Q)) → slice_get ended i ≡ Some m → (x : Node (StageWork S K P Q)) × (slice_get renewed i ≡ Some x)
        before i m e = some_at renewed i (let a = slice_get_within ended i m e in let b = later.count in omega (arith, a, b))

        less-home : (i : ℕ) → i < root → is_own homes home root i ≡ true → is_of homes home i ≡ true
        less-home i less o = sym (ap (λ b. b || is_of homes home i) (other-number i root (λ e. omega (arith, e, less)))) ∙ o

        -- a node of this part has its work in the net
        own-work : (i : ℕ) (x n : Node (StageWork S K P Q)) → i ≤ root → is_own homes home root i ≡ true → slice_get renewed i ≡ Some x → slice_get nodes i ≡ Some n → x.work ≡ n.work
        own-work i x n l o d e = elim (eqb_tells i root) [
          | inl p ↦ is-net.work x n (ap (slice_get renewed) (sym p.1) ∙ d) (ap (slice_get nodes) (sym p.1) ∙ e)
          | inr p ↦ (
              let no = p.1 in
              let less : i < root = omega (arith, no, l) in
              ap (λ (y : Node (StageWork S K P Q)). y.work) (same_Some x n (sym d ∙ own-net i less (less-home i less o) ∙ e)))
        ]

        abbrev Sound : Type 0
        Sound = (n : Node (StageWork S K P Q)) → slice_get nodes root ≡ Some n → n.fault ≡ None

        -- a node of this part has no fault before, where the root has none
        own-sound : Sound → (i : ℕ) (n : Node (StageWork S K P Q)) → i ≤ root → is_own homes home root i ≡ true → slice_get nodes i ≡ Some n → n.fault ≡ None
        own-sound sound i n l o e = elim (eqb_tells i root) [
          | inl p ↦ sound n (ap (slice_get nodes) (sym p.1) ∙ e)
          | inr p ↦ (let no = p.1 in let less : i < root = omega (arith, no, l) in (fresh i n less (less-home i less o) e).fault)
        ]

        own-later : Sound → (i : ℕ) (n m : Node (StageWork S K P Q)) → i ≤ root → is_own homes home root i ≡ true → slice_get nodes i ≡ Some n → slice_get after i ≡ Some m → IsLaterNode s k fs ts n m
        own-later sound i n m l o e f =
            let g = sym (back i l o) ∙ f in
            let x = before i m g in
            later-work x.0 n m (own-work i x.0 n l o x.1 e) (own-sound sound i n l o e) (later.each i x.0 m x.1 g)

        -- a node outside of this part is a leaf in the net
        stranger : (i : ℕ) (x : Node (StageWork S K P Q)) → i < root + 1 → is_own homes home root i ≡ false → slice_get renewed i ≡ Some x → IsNewLeaf s k fs ts x
        stranger i x less o e =
            let other : i ≢ root = λ q. true≢false (sym root-own ∙ ap (is_own homes home root) (sym q) ∙ o) in
            let h : is_of homes home i ≡ false = sym (ap (λ b. b || is_of homes home i) (other-number i root other)) ∙ o in
            (is-net.strange i x (omega (arith, other, less)) h e).0

        pub part-later : Sound → AreSameOrLater s k fs ts nodes after
        part-later sound = record {
          count = after-count;
          each = λ i n m e f. elim (leb_tells i root) [
            | inl p ↦ by_own i n m p.1 e f (is_own homes home root i) refl
            | inr p ↦ inl (same_Some m n (sym f ∙ beyond i p.1 ∙ e))
          ];
        }
          where
            by_own : (i : ℕ) (n m : Node (StageWork S K P Q)) → i ≤ root → slice_get nodes i ≡ Some n → slice_get after i ≡ Some m → (b : Bool) → is_own homes home root i ≡ b → (m ≡ n) ⊎ IsLaterNode s k fs ts n m
            by_own i n m l e f true o = inr (own-later sound i n m l o e f)
            by_own i n m l e f false o = inl (same_Some m n (sym f ∙ other i o ∙ e))

        -- what stood in holds nothing
        pub rest-held : (i : ℕ) (n : Node (StageWork S K P Q)) → slice_get rest i ≡ Some n → held_by n.work ≡ Nothing
        rest-held i n e = by_own (is_own homes home root i) refl
          where
            less : i < root + 1
            less = let a = slice_get_within rest i n e in let b = second.other_count in let c = later.count in let d = renewed-size in omega (arith, a, b, c, d)

            by_own : (b : Bool) → is_own homes home root i ≡ b → held_by n.work ≡ Nothing
            by_own true o = leaf-empty s k fs ts n (is.net.each i n (sym (first.taken i less o).0 ∙ sym (second.taken i less o).1 ∙ e)).0
            by_own false o =
                let f = sym (second.left i (not-own i o)).1 ∙ e in
                let x = before i n f in
                later-empty s k fs ts x.0 n (later.each i x.0 n x.1 f) (leaf-empty s k fs ts x.0 (stranger i x.0 less o x.1))

        -- memory that was wanting in the net was wanting at a node of this part
        pub part-short : RanShort renewed ended → RanShort nodes after
        part-short short = by_own (is_own homes home root short.place) refl
          where
            less : short.place < root + 1
            less = let a = slice_get_within renewed short.place short.before short.was in let b = renewed-size in omega (arith, a, b)

            no-leaf : (w : StageWork S K P Q) → IsCollecting w → is_leaf w ≡ true → ⊥
            no-leaf (Collector c) is leaf = true≢false (sym leaf)
            no-leaf w is leaf = absurd is

            by_own : (b : Bool) → is_own homes home root short.place ≡ b → RanShort nodes after
            by_own true o =
                let n = some_at nodes short.place (omega (arith, less, inside)) in
                let low : short.place ≤ root = omega (arith, less) in
                record {
                  place = short.place;
                  before = n.0;
                  after = short.after;
                  was = n.1;
                  is = back short.place low o ∙ short.is;
                  collects = subst IsCollecting (own-work short.place short.before n.0 low o short.was n.1) short.collects;
                  short = short.short;
                }
            by_own false o = absurd (no-leaf short.before.work short.collects (stranger short.place short.before less o short.was).leaf)

        -- where turns end at a fault, those that came to their end have none
        pub part-sound : (stop : Stop) → CameToEnd (as_works s k fs ts) stop ended → stop ≡ First → AreSoundOwn homes home root after
        part-sound stop came first i m l o e = subst (λ x. CameToEnd (as_works s k fs ts) x ended) first came i m (sym (back i l o) ∙ e)

        pub part-became : (became : List (List ℕ) → List (Node (StageWork S K P Q)) → List (Node (StageWork S K P Q)) → Type 0) → became room.ins renewed ended → NoneShort ended
            → IsPart s k fs ts (became part) part homes home root nodes after
        part-became became turned enough = record {
          net = renewed;
          ended = ended;
          is_net = is-net;
          turned = subst (λ xss. became xss renewed ended) is.ins turned;
          enough = enough;
          count = after-count;
          back = back;
          other = λ i l o. other i o;
          beyond = beyond;
        }
