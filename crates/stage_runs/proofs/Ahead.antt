-- How far the readers of the last part have read, where it ended at a fault.
use Rattle.std.proofs.Common.{◌≡◌, ◌≢◌, ◌⊎◌, ℕ, suc, ◌+◌, ◌-◌, ◌*◌, ◌<◌, ◌≤◌, nat_lt, Bool, true, false, true≢false, cond, inl, inr, List, [], map, length, Option, Some, None, option_map, slice_get, refl, ap, sym, subst, ◌∙◌, arith}
use Rattle.std.specs.Prelude.{sum_by}
use Rattle.std.proofs.Math.Nat.{mul-le-mul_right, mul_comm}
use Rattle.std.proofs.lemmas.Bool.Decides.{eqb_tells, leb_tells}
use Rattle.std.proofs.lemmas.Option.{none-some, same_Some, slice_get_within}
use Rattle.file_devices.specs.declared.devices.Source as source
use Rattle.file_devices.specs.declared.devices.Sink as sink
use Rattle.cloud_points.specs.Extents.{Extent}
use Rattle.cloud_points.specs.declared.faults.StageFault.{StageFault}
use Rattle.las_reader.specs.declared.reader.LasReader.{LasReader}
use Rattle.las_reader.specs.declared.reader.Progress.TheVariants.{Records}
use Rattle.network_theory.specs.Ahead.{AreUnder, CountsPoints}
use Rattle.network_theory.specs.Due.{total}
use Rattle.network_theory.specs.Forest.{children, IsForest}
use Rattle.network_theory.specs.Opening.{IsFresh}
use Rattle.network_theory.specs.Shape.{In}
use Rattle.network_core.specs.declared.node.Node.{Node}
use Rattle.network_core.specs.Shown.{shown, work_of}
use Rattle.network_core.proofs.Opened.{some_at}
use Rattle.network_solo.specs.Ahead.{BeginsNear, EndedAtNode, at_node, read_beyond, sum_at, told_by}
use Rattle.network_solo.specs.Trees.{LeavesTell, NoneCame}
use Rattle.stage_kinds.specs.Held.{op_of}
use Rattle.stage_kinds.specs.Leads.{ahead_of, begins_at, extent_in, extent_of, lead_of, number_of, reached_of, read_at, taken_in, AreInFront, HaveNoEvlrs}
use Rattle.stage_kinds.specs.Stages.{is_leaf}
use Rattle.stage_kinds.specs.declared.stage_work.StageWork.{StageWork}
use Rattle.stage_kinds.specs.declared.stage_work.StageWork.TheVariants.{Reader, Filter, Plug, Tally, Collector, Views, ViewFiles, Writer}
use Rattle.stage_kinds.proofs.Counted.{writer-counts}
use Rattle.stage_kinds.proofs.Leading.{begins-near, lead-read, reaches, reads-most}
use Rattle.pipeline_json.specs.Trees.{IsTree}
use Rattle.stage_options.specs.Roles.{is_gathering, is_reading}
use Rattle.stage_options.specs.Shapes.{shapes}
use Rattle.stage_options.specs.declared.stage.StageSpec.{StageSpec}
use Rattle.stage_parts.specs.Parts.{AreHomes, home_at, is_of, part_ins, strangers}
use Rattle.stage_parts.proofs.Counted.{each-in}
use Rattle.stage_parts.proofs.Trees.{at_inner, at_root, beyond, strange}
use Rattle.answer_model.specs.Values.{IsDown, Opened, options_at, role_at, setting_at, stage_at}
use Rattle.answer_model.proofs.Values.{tree-down}
use Rattle.stage_forms.specs.Starts.{IsAtStart}
use Rattle.stage_runs.specs.Ahead.{KeepPoints, EndedAtWriter, RecordsFit, ReadNoMore, most_read}
use Rattle.stage_runs.specs.Parts.{gathers_of, AreRunBefore, Besides, IsPartStopped}
use Rattle.stage_runs.specs.Works.{as_works, ins_of, AreNewStages, RunOn}
use Rattle.stage_runs.proofs.AtStart.{keeps-at, leaf-first, reader-reads, writer-first}
use Rattle.stage_runs.proofs.Forests.{children-are}
use Rattle.stage_runs.proofs.Later.{stopped-turned}
use Rattle.stage_runs.proofs.Part.{IsRoot, gathers-are, leaves-tell, quiet}
use Rattle.stage_runs.proofs.Places.{map-at, mapped-at}
use Rattle.stage_runs.proofs.Ran.{leaf-at, start-at}
use Rattle.stage_runs.proofs.Steps.{lt-false, lt-true, true-lt}
use Rattle.stage_runs.proofs.Totals.{nodes-total, total-le, total-times, total-up}
use Rattle.stage_runs.proofs.Turns.{all-forest, ins-size, some-stages}
use Rattle.stage_runs.proofs.Under.{none-skipped, taken-below, under-below}
use Rattle.plug_stages.specs.declared.filter.PlugFilter as plug_type
use Rattle.plug_stages.specs.declared.tally.PlugTally as tally_type
use Rattle.stage_runs.proofs.ReadBytes.{node-lead, reader-bytes}
use Rattle.stage_runs.proofs.KeepAll.{none-gathers, in-append, cond-zero, read_of, home-is, of-last, own-last}

module _ {S K P Q : Type 0} (s : source.Ghosts S) (k : sink.Ghosts K) (fs : plug_type.Ghosts P) (ts : tally_type.Ghosts Q) (stages : List StageSpec) (tree : IsTree (shapes stages)) (old : List (Node (StageWork S K P Q))) (new : AreNewStages s k fs ts stages old)
    (homes : List ℕ) (are : AreHomes (gathers_of stages) (ins_of stages) homes) (besides : Besides S K P Q) (now : List (Node (StageWork S K P Q))) (count : length now ≡ length stages)
    (done : AreRunBefore s k fs ts stages homes old (length stages) now) (bounded : Type 0) (is_bounded : bounded) (queue chunk : ℕ) (after : List (Node (StageWork S K P Q)))
    (part : IsPartStopped s k fs ts bounded queue chunk (part_ins (gathers_of stages) (ins_of stages) homes (length stages) (length stages - 1)) homes (length stages) (length stages - 1) now after)
    (cuts : (j : ℕ) (n : Node (StageWork S K P Q)) → slice_get old j ≡ Some n → n.chunk ≡ chunk)
    (keep : KeepPoints stages) (opened : Opened) (on : RunOn s fs ts stages old opened) (plain : HaveNoEvlrs (map work_of old)) (front : AreInFront s.reached (map work_of old))
    (i : ℕ) (f : StageFault) (over : EndedAtWriter stages (map (λ (n : Node (StageWork S K P Q)). n.fault) after) i f) where
  abbrev root : ℕ
  root = length stages - 1

  abbrev ins : List (List ℕ)
  ins = part_ins (gathers_of stages) (ins_of stages) homes (length stages) root

  down : IsDown stages
  down = tree-down stages tree

  forest : IsForest (ins_of stages) (length (ins_of stages) - 1)
  forest = all-forest stages tree

  size : length (ins_of stages) ≡ length stages
  size = ins-size stages

  some : 0 < length stages
  some = some-stages stages tree

  streams : (j : ℕ) → is_gathering (role_at stages j) ≡ false
  streams = none-gathers stages keep

  all-home : (j : ℕ) → j < length stages → home_at homes j ≡ length stages
  all-home = home-is s k fs ts stages tree old new homes are besides keep

  all-of : (j : ℕ) → j < length stages → is_of homes (length stages) j ≡ true
  all-of = of-last s k fs ts stages tree old new homes are besides keep

  waits : (j : ℕ) (n : Node (StageWork S K P Q)) → j < length stages → slice_get now j ≡ Some n → slice_get old j ≡ Some n
  waits j n l e = done.waits j n e (lt-false (home_at homes j) (length stages) (let h = all-home j l in omega (arith, h))) (λ m g. true≢false (sym g ∙ streams j))

  net-size : length part.net ≡ length stages
  net-size = let c = part.is_net.count in omega (arith, c, some)

  ended-size : length part.ended ≡ length stages
  ended-size = part.turned.0.count ∙ net-size

  -- a node of the net is made of the work of its stage, which had no turn yet
  record Begins (j : ℕ) (n : Node (StageWork S K P Q)) : Type 0 where
    first : Node (StageWork S K P Q)
    at : slice_get old j ≡ Some first
    same : n.work ≡ first.work
    cut : n.chunk ≡ chunk

  begins : (j : ℕ) (n : Node (StageWork S K P Q)) → j < length stages → slice_get part.net j ≡ Some n → Begins j n
  begins j n l e = elim (eqb_tells j root) [
    | inl p ↦ (
        let here : slice_get part.net root ≡ Some n = ap (slice_get part.net) (sym p.1) ∙ e in
        let o = some_at now root (omega (arith, some, count)) in
        record {
          first = o.0;
          at = ap (slice_get old) p.1 ∙ waits root o.0 (omega (arith, some)) o.1;
          same = part.is_net.work n o.0 here o.1;
          cut = part.turned.3 n (ap (slice_get part.net) (let c = part.is_net.count in let q = p.1 in omega (arith, c, q)) ∙ e);
        })
    | inr p ↦ (
        let less : j < root = (let q = p.1 in omega (arith, l, q)) in
        let there = waits j n l (part.is_net.own j n less (all-of j l) e) in
        record { first = n; at = there; same = refl; cut = cuts j n there })
  ]

  starts : (j : ℕ) (n : Node (StageWork S K P Q)) → Begins j n → IsAtStart k.bytes (options_at stages j) (setting_at stages opened j) n.work
  starts j n b = subst (IsAtStart k.bytes (options_at stages j) (setting_at stages opened j)) (sym b.same) (start-at s k fs ts stages old new down opened on j b.first b.at)

  -- ---- what stands under the writer

  ends-read : (j : ℕ) → j < length stages → (stage_at stages j).ins ≡ [] → is_reading (role_at stages j) ≡ true
  ends-read j l none = go (is_leaf o.0.work) refl
    where
      o : (n : Node (StageWork S K P Q)) × (slice_get old j ≡ Some n)
      o = some_at old j (let c = new.count in omega (arith, c, l))

      fresh : IsFresh (shown (as_works s k fs ts) ((stage_at stages j).ins) o.0)
      fresh = new.fresh j o.0 o.1

      go : (b : Bool) → is_leaf o.0.work ≡ b → is_reading (role_at stages j) ≡ true
      go true leaf = (leaf-at s k fs ts stages old new down opened on j o.0 o.1 leaf).reads
      go false inner = absurd (let a = fresh.inner inner in let b = fresh.inputs in let c = ap length none in omega (arith, a, b, c))

  net-child : (c j : ℕ) → In c (children ins j) → (j < length stages) × In c ((stage_at stages j).ins)
  net-child c j h = elim (eqb_tells j root) [
    | inl p ↦ (
        let here = subst (In c) (ap (children ins) p.1 ∙ at_root (gathers_of stages) (ins_of stages) homes (length stages) root) h in (
          (let q = p.1 in omega (arith, q, some)),
          elim (in-append c (children (ins_of stages) root) (strangers homes (length stages) root) here) [
            | inl m ↦ subst (In c) (children-are stages root ∙ ap (λ x. (stage_at stages x).ins) (sym p.1)) m
            | inr m ↦ (let x = strange homes (length stages) root c m in absurd (x.1 (all-home c (let l = x.0 in omega (arith, l)))))
          ],
        ))
    | inr p ↦ elim (leb_tells (suc j) root) [
      | inl q ↦ (
          let l : j < length stages = (let m = q.1 in omega (arith, m)) in
          (l, subst (In c) (at_inner (gathers_of stages) (ins_of stages) homes (length stages) root j q.1 (all-of j l) (gathers-are stages j ∙ streams j) ∙ children-are stages j) h))
      | inr q ↦ absurd (subst (In c) (beyond (gathers_of stages) (ins_of stages) homes (length stages) root j (let m = q.1 in let n = p.1 in omega (arith, m, n))) h)
    ]
  ]

  abbrev under : ℕ → Bool
  under j = nat_lt j i

  are-under : AreUnder (children ins) root i under
  are-under = record {
    self = lt-false i i (omega arith);
    top = lt-false root i (let l = over.inside in omega (arith, l));
    within = λ j u. let l = true-lt j i u in let m = over.inside in omega (arith, l, m);
    child = λ j h. each-in (λ c. under c ≡ true) (children ins j) (λ c m. lt-true c i (let b = taken-below stages tree c j (net-child c j m).1 in let l = low j h in omega (arith, b, l)));
    other = λ j u n. each-in (λ c. under c ≡ false) (children ins j) (λ c m.
        let x = net-child c j m in
        lt-false c i (none-skipped stages tree ends-read i j c over.readers (behind j u n) x.0 x.1));
  }
    where
      low : (j : ℕ) → (under j ≡ true) ⊎ (j ≡ i) → j ≤ i
      low j (inl u) = let l = true-lt j i u in omega (arith, l)
      low j (inr e) = omega (arith, e)

      behind : (j : ℕ) → under j ≡ false → j ≢ i → i < j
      behind j u n = elim (leb_tells (suc j) i) [
        | inl p ↦ absurd (true≢false (sym (lt-true j i p.1) ∙ u))
        | inr p ↦ (let m = p.1 in omega (arith, m, n))
      ]

  -- ---- the end of the turns

  back : (j : ℕ) → j < length stages → slice_get after j ≡ slice_get part.ended j
  back j l = part.back j (omega (arith, l)) (own-last s k fs ts stages tree old new homes are besides keep j l)

  fault-in : (j : ℕ) (m : Node (StageWork S K P Q)) → j < length stages → slice_get part.ended j ≡ Some m → slice_get (map (λ (n : Node (StageWork S K P Q)). n.fault) after) j ≡ Some m.fault
  fault-in j m l e = map-at (λ (n : Node (StageWork S K P Q)). n.fault) after j m (back j l ∙ e)

  net-at : (j : ℕ) → j < length stages → (n : Node (StageWork S K P Q)) × (slice_get part.net j ≡ Some n)
  net-at j l = some_at part.net j (omega (arith, l, net-size))

  ended-at : (j : ℕ) → j < length stages → (n : Node (StageWork S K P Q)) × (slice_get part.ended j ≡ Some n)
  ended-at j l = some_at part.ended j (omega (arith, l, ended-size))

  within-net : (j : ℕ) (n : Node (StageWork S K P Q)) → slice_get part.net j ≡ Some n → j < length stages
  within-net j n e = let a = slice_get_within part.net j n e in omega (arith, a, net-size)

  within-ended : (j : ℕ) (n : Node (StageWork S K P Q)) → slice_get part.ended j ≡ Some n → j < length stages
  within-ended j n e = let a = slice_get_within part.ended j n e in omega (arith, a, ended-size)

  last-number : root ≡ length part.net - 1
  last-number = let n = net-size in omega (arith, n)

  ended-so : EndedAtNode (as_works s k fs ts) ins part.net part.ended i under taken_in number_of f
  ended-so =
      let n = net-at i over.inside in
      let w = writer-first fs ts k.bytes (options_at stages i) (setting_at stages opened i) n.0.work (starts i n.0 (begins i n.0 over.inside n.1)) over.writes in
      let m = mapped-at (λ (n : Node (StageWork S K P Q)). n.fault) after i (Some f) over.fault in
      record {
        under_it = subst (λ r. AreUnder (children ins) r i under) last-number are-under;
        keeps = λ j x e u l. keeps-at fs ts k.bytes (options_at stages j) (setting_at stages opened j) x.work (keep j) (starts j x (begins j x (within-net j x e) e)) l;
        first = n.0;
        at = n.1;
        inner = w.inner;
        counts = subst (λ x. CountsPoints x taken_in number_of) (sym w.meaning) writer-counts;
        none = w.none;
        sound = λ j x e u. over.earlier j x.fault (true-lt j i u) (fault-in j x (within-ended j x e) e);
        last = m.0;
        there = sym (back i over.inside) ∙ m.1;
        faulty = m.2;
        told = over.told;
      }

  near : BeginsNear (as_works s k fs ts) part.net
  near j n e l =
      let b = begins j n (within-net j n e) e in
      let r = leaf-first fs ts k.bytes (options_at stages j) (setting_at stages opened j) n.work (starts j n b) l in
      let t = on.tell j b.first r.reader b.at (sym b.same ∙ r.is) in
      let there = map-at work_of old j b.first b.at ∙ ap (λ w. Some w) (sym b.same ∙ r.is) in
      let none = begins-near K P Q s.bytes s.reached r.reader t.file t.told r.first (front j r.reader there (plain j r.reader there)) in
      let same : ahead_of s.bytes s.reached n.work ≡ 0 = ap (ahead_of s.bytes s.reached) r.is ∙ none in
      omega (arith, same)

  is_root : IsRoot stages homes (length stages) root
  is_root = inr (streams root, all-home root (omega (arith, some)))

  tells-all : LeavesTell (as_works s k fs ts) part.net
  tells-all = leaves-tell s k fs ts stages old new down homes are (length stages) root is_root now part.net part.is_net (λ j n l h g e. waits j n (omega (arith, l)) e) (λ n e. waits root n (omega (arith, some)) e)
      (λ j n l h g e. absurd (true≢false (sym g ∙ streams j))) (omega (arith, some, count)) (count ∙ sym new.count) opened on (λ j n l h g e. absurd (true≢false (sym g ∙ streams j)))

  none-came : NoneCame (as_works s k fs ts) part.net part.ended
  none-came = quiet s k fs ts stages old new down homes are (length stages) root is_root now part.net part.is_net (λ j n l h g e. waits j n (omega (arith, l)) e) (λ n e. waits root n (omega (arith, some)) e)
      (λ j n l h g e. absurd (true≢false (sym g ∙ streams j))) (omega (arith, some, count)) (count ∙ sym new.count) opened on (λ j n l h g e. absurd (true≢false (sym g ∙ streams j)))
      part.ended (stopped-turned s k fs ts ins part.net part.ended part.turned.0) part.enough (λ j m l h e. over.calm j m.fault (fault-in j m (within-ended j m e) e))

  law : sum_at under (told_by (as_works s k fs ts)) part.net + sum_at under (read_beyond (as_works s k fs ts)) part.ended
      ≤ sum_at under (told_by (as_works s k fs ts)) part.ended + number_of f + ((length part.net - 1) * queue + (length part.net - 1 + 2)) * chunk
  law = part.turned.2 is_bounded none-came tells-all near chunk (λ j n e. let b = (begins j n (within-net j n e) e).cut in omega (arith, b)) i under taken_in number_of f ended-so

  -- ---- what each reader read

  -- a reader was one at its start, which stands under the writer, and reads the same points
  record WasReader (j : ℕ) (n : Node (StageWork S K P Q)) (r : LasReader S) : Type 0 where
    before : LasReader S
    first : Node (StageWork S K P Q)
    at : slice_get old j ≡ Some first
    was : first.work ≡ Reader before
    is : n.work ≡ Reader before
    file : List ℕ
    told : s.bytes before.source ≡ Some file
    start : before.progress ≡ Records 0
    under_it : under j ≡ true
    extent : extent_of {K = K} {P = P} {Q = Q} s.bytes (Reader r) ≡ extent_of {K = K} {P = P} {Q = Q} s.bytes (Reader before)

  was-reader : (j : ℕ) (n m : Node (StageWork S K P Q)) (r : LasReader S) → slice_get part.net j ≡ Some n → slice_get part.ended j ≡ Some m → m.work ≡ Reader r → WasReader j n r
  was-reader j n m r e g is =
      let calm = part.turned.0.calm j n m e g in
      let leaf : is_leaf n.work ≡ true = sym calm.leaf ∙ ap is_leaf is in
      let inside = within-net j n e in
      let b = begins j n inside e in
      let start = starts j n b in
      let w = leaf-first fs ts k.bytes (options_at stages j) (setting_at stages opened j) n.work start leaf in
      let t = on.tell j b.first w.reader b.at (sym b.same ∙ w.is) in
      let reads = reader-reads fs ts k.bytes (options_at stages j) (setting_at stages opened j) w.reader (subst (IsAtStart k.bytes (options_at stages j) (setting_at stages opened j)) w.is start) in
      record {
        before = w.reader;
        first = b.first;
        at = b.at;
        was = sym b.same ∙ w.is;
        is = w.is;
        file = t.file;
        told = t.told;
        start = w.first;
        under_it = lt-true j i (under-below stages tree i j (over.readers j inside reads));
        extent = sym (ap (extent_of s.bytes) is) ∙ calm.extent leaf ∙ ap (extent_of s.bytes) w.is;
      }

  -- a leaf that gives views would have been one at its start
  no-views : (j : ℕ) (n m : Node (StageWork S K P Q)) → slice_get part.net j ≡ Some n → slice_get part.ended j ≡ Some m → is_leaf m.work ≡ true → op_of m.work ≡ None → ⊥
  no-views j n m e g leaf none =
      let calm = part.turned.0.calm j n m e g in
      let w = leaf-first fs ts k.bytes (options_at stages j) (setting_at stages opened j) n.work (starts j n (begins j n (within-net j n e) e)) (sym calm.leaf ∙ leaf) in
      none-some _ (sym none ∙ calm.op ∙ ap op_of w.is)

  each : (j : ℕ) → j < length stages → at_node (λ m. read_of s.reached (work_of m)) (slice_get after j) + cond (under j) (at_node (told_by (as_works s k fs ts)) (slice_get part.ended j)) 0
      ≤ cond (under j) (at_node (told_by (as_works s k fs ts)) (slice_get part.net j)) 0 + cond (under j) (at_node (read_beyond (as_works s k fs ts)) (slice_get part.ended j)) 0
  each j l = rw (back j l ∙ m.1, m.1, n.1) (by_work m.0.work refl)
    where
      m : (x : Node (StageWork S K P Q)) × (slice_get part.ended j ≡ Some x)
      m = ended-at j l

      n : (x : Node (StageWork S K P Q)) × (slice_get part.net j ≡ Some x)
      n = net-at j l

      by_work : (w : StageWork S K P Q) → m.0.work ≡ w → read_of s.reached m.0.work + cond (under j) (told_by (as_works s k fs ts) m.0) 0
          ≤ cond (under j) (told_by (as_works s k fs ts) n.0) 0 + cond (under j) (read_beyond (as_works s k fs ts) m.0) 0
      by_work (Reader r) e =
          let x = was-reader j n.0 m.0 r n.1 m.1 e in
          let y = reads-most K P Q s.bytes s.reached x.before r x.file x.told x.start x.extent in
          rw (x.under_it, e, x.is) y
      by_work (Views h) e = absurd (no-views j n.0 m.0 n.1 m.1 (ap is_leaf e) (ap op_of e))
      by_work (ViewFiles t) e = absurd (no-views j n.0 m.0 n.1 m.1 (ap is_leaf e) (ap op_of e))
      by_work (Filter x) e = rw e (let z = cond-zero (under j) in omega (arith, z))
      by_work (Plug x) e = rw e (let z = cond-zero (under j) in omega (arith, z))
      by_work (Tally x) e = rw e (let z = cond-zero (under j) in omega (arith, z))
      by_work (Collector c) e = rw e (let z = cond-zero (under j) in omega (arith, z))
      by_work (Writer x) e = rw e (let z = cond-zero (under j) in omega (arith, z))

  -- ---- all readers

  after-size : length after ≡ length stages
  after-size = part.count ∙ count

  abbrev read_in : ℕ → ℕ
  read_in j = at_node (λ m. read_of s.reached (work_of m)) (slice_get after j)

  abbrev most : ℕ
  most = most_read (number_of f) (length stages) queue chunk

  all-read : total read_in (length stages) ≤ most
  all-read =
      let a = total-le read_in (λ j. cond (under j) (at_node (told_by (as_works s k fs ts)) (slice_get part.ended j)) 0) (λ j. cond (under j) (at_node (told_by (as_works s k fs ts)) (slice_get part.net j)) 0)
      (λ j. cond (under j) (at_node (read_beyond (as_works s k fs ts)) (slice_get part.ended j)) 0) (length stages) each in
      let b = ap (total (λ j. cond (under j) (at_node (told_by (as_works s k fs ts)) (slice_get part.net j)) 0)) net-size in
      let c = ap (total (λ j. cond (under j) (at_node (told_by (as_works s k fs ts)) (slice_get part.ended j)) 0)) ended-size in
      let d = ap (total (λ j. cond (under j) (at_node (read_beyond (as_works s k fs ts)) (slice_get part.ended j)) 0)) ended-size in
      let e : ((length part.net - 1) * queue + (length part.net - 1 + 2)) * chunk ≡ ((length stages - 1) * queue + length stages + 1) * chunk = ap (λ x. x * chunk)
      (let p : (length part.net - 1) * queue ≡ (length stages - 1) * queue = ap (λ x. (x - 1) * queue) net-size in let q = net-size in omega (arith, p, q, some)) in
      let h = law in
      omega (arith, a, b, c, d, e, h)

  records-read : sum_by (lead_of s.reached) (map work_of after) ≤ most
  records-read =
      let a = nodes-total (lead_of s.reached) after in
      let b = ap (total (λ j. at_node (λ m. lead_of s.reached (work_of m)) (slice_get after j))) after-size in
      let c = total-up (λ j. at_node (λ m. lead_of s.reached (work_of m)) (slice_get after j)) read_in (length stages) (λ j. node-lead s (slice_get after j)) in
      let d = all-read in
      omega (arith, a, b, c, d)

  bytes-read : (wide : ℕ) → RecordsFit wide (map work_of old) → sum_by (reached_of s.reached) (map work_of after) ≤ sum_by begins_at (map work_of old) + most * wide
  bytes-read wide fit =
      let a = nodes-total (reached_of s.reached) after in
      let b = ap (total (λ j. at_node (λ m. reached_of s.reached (work_of m)) (slice_get after j))) after-size in
      let c = nodes-total begins_at old in
      let d = ap (total (λ j. at_node (λ m. begins_at (work_of m)) (slice_get old j))) new.count in
      let e = total-times (λ j. at_node (λ m. reached_of s.reached (work_of m)) (slice_get after j)) (λ j. at_node (λ m. begins_at (work_of m)) (slice_get old j)) read_in wide (length stages) one in
      let h = mul-le-mul_right wide all-read in
      omega (arith, a, b, c, d, e, h)
    where
      one : (j : ℕ) → j < length stages → at_node (λ m. reached_of s.reached (work_of m)) (slice_get after j) ≤ at_node (λ m. begins_at (work_of m)) (slice_get old j) + read_in j * wide
      one j l = rw (back j l ∙ m.1) (by_work m.0.work refl)
        where
          m : (x : Node (StageWork S K P Q)) × (slice_get part.ended j ≡ Some x)
          m = ended-at j l

          n : (x : Node (StageWork S K P Q)) × (slice_get part.net j ≡ Some x)
          n = net-at j l

          by_work : (w : StageWork S K P Q) → m.0.work ≡ w → reached_of s.reached m.0.work ≤ at_node (λ m. begins_at (work_of m)) (slice_get old j) + read_of s.reached m.0.work * wide
          by_work (Reader r) e =
              let x = was-reader j n.0 m.0 r n.1 m.1 e in
              rw (e, x.at, x.was) (reader-bytes K P Q s wide r x.before x.file x.told x.extent (fit j x.before (map-at work_of old j x.first x.at ∙ ap (λ w. Some w) x.was)))
          by_work (Filter x) e = rw e (omega arith)
          by_work (Plug x) e = rw e (omega arith)
          by_work (Tally x) e = rw e (omega arith)
          by_work (Collector c) e = rw e (omega arith)
          by_work (Views h) e = rw e (omega arith)
          by_work (ViewFiles t) e = rw e (omega arith)
          by_work (Writer x) e = rw e (omega arith)

  pub last-ahead : ReadNoMore s most (map work_of old) (map work_of after)
  last-ahead = record { records = records-read; bytes = bytes-read }
