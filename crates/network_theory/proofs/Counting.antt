-- What a node counts of the points that it takes, and how far leaves are read when it has a fault.
use Rattle.std.proofs.Common.{◌≡◌, ℕ, ◌+◌, ◌-◌, ◌*◌, ◌^◌, ◌<◌, ◌≤◌, Bool, false, List, [], ◌∷◌, ◌++◌, length, Option, Some, None, inl, inr, refl, ap, subst, sym, ◌∙◌, arith, length-append, true≢false}
use Rattle.std.specs.Prelude.{◌==◌, nat_lt}
use Rattle.std.proofs.lemmas.Bool.{eq-eqb}
use Rattle.std.proofs.lemmas.Bool.Decides.{eqb_tells}
use Rattle.cloud_points.specs.Marks.{Item, Points, End_view, End_all, points_in}
use Rattle.cloud_points.specs.Queue.{up_to_limit}
use Rattle.network_theory.specs.Machine.{Machine, is_cut, one_end}
use Rattle.network_theory.specs.Net.{Node, Net, Choice, Outcome, Turned, Took, Gave, Made, Idle, Done, Empty, Full, given, taken, end_made, takes, with_hand, step, open_ins, current_edge, IsQuiet}
use Rattle.network_theory.specs.Shape.{Each}
use Rattle.network_theory.specs.History.{item_points, points_taken, points_in_step, points_taken_by}
use Rattle.network_theory.specs.Schedule.{run_schedule, IsAllowedRun, IsQuietRun, KeepsLaws}
use Rattle.network_theory.specs.Ahead.{AreClean, CountsPoints}
use Rattle.network_theory.specs.Laws.{LeavesReadAhead}
use Rattle.network_theory.proofs.Turns.{either}
use Rattle.network_theory.proofs.Ahead.{is-none, item_points-length, reads-ahead, sound-before, waits-most}
use Rattle.network_theory.proofs.Flights.{Fits, IsNetFit, fit-step, fit-run, opening-fit}
use Rattle.network_theory.proofs.Sums.{ne-eqb}
use Rattle.network_theory.proofs.Run.{laws-step, step-same}

-- ---- a turn

module _ {S P F : Type 0} (c cap : ℕ) (root : Bool) (ch : Choice S P F) (n : Node S P F) (input out : List (Item P)) (seen : S → ℕ) (number : F → ℕ) (counts : CountsPoints n.work seen number)
    (inner : n.leaf ≡ false) (quiet : IsQuiet ch n) (sound : n.machine.fault ≡ None) (fits : Each (Fits c) input) where
  record Counted (o : Outcome S P F) : Type 0 where
    on : o.node.machine.fault ≡ None → (taken : ℕ) → seen n.machine.state ≡ up_to_limit taken → seen o.node.machine.state ≡ up_to_limit (taken + length (points_taken o.turned input))
    off : (f : F) → o.node.machine.fault ≡ Some f → (seen n.machine.state ≤ number f) × (length (points_taken o.turned input) ≤ c)

  -- a turn that took nothing
  idles : (m : Node S P F) (is es : List (Item P)) (t : Turned) → m.machine ≡ n.machine → points_taken t input ≡ [] → Counted (record { node = m; input = is; out = es; turned = t })
  idles m is es t e none = record {
    on = λ f taken so. let s = ap (λ (x : Machine S F). seen x.state) e in let l = ap (λ (ps : List P). length ps) none in omega (arith, s, l, so);
    off = λ f h. absurd (let g : None ≡ Some f = sym sound ∙ ap (λ (x : Machine S F). x.fault) (sym e) ∙ h in cc);
  }

  took-item : (it : Item P) → points_in it ≤ c → (f : Option F) (s : S) → (taken ch n it).machine.fault ≡ f → (taken ch n it).machine.state ≡ s →
      (f ≡ None → (taken : ℕ) → seen n.machine.state ≡ up_to_limit taken → seen s ≡ up_to_limit (taken + points_in it)) × ((g : F) → f ≡ Some g → seen n.machine.state ≤ number g)
  took-item it fit f s ef es = by_item it ef es
    where
      by_item : (it : Item P) → (taken ch n it).machine.fault ≡ f → (taken ch n it).machine.state ≡ s → (f ≡ None → (taken : ℕ) → seen n.machine.state ≡ up_to_limit taken → seen s ≡ up_to_limit (taken + points_in it)) × ((g : F) → f ≡ Some g → seen n.machine.state ≤ number g)
      by_item (Points ps) = rw (quiet.inner inner, sound) (λ ef es. (
        (λ none taken so. let p = counts.points n.machine.state ps (ef ∙ none) in let e = ap seen (sym es) in omega (arith, p, e, so)),
        (λ g some. counts.fault n.machine.state ps g (ef ∙ some)),
      ))
      by_item End_view = rw (quiet.inner inner, sound) (λ ef es. (
        (λ none taken so. let v = counts.view n.machine.state in let e = ap seen (sym es) in omega (arith, v, e, so)),
        (λ g some. absurd (let h : None ≡ Some g = ef ∙ some in cc)),
      ))
      by_item (End_all cut) = λ ef es. either (λ (m : Node S P F). m.machine.fault ≡ f → m.machine.state ≡ s → (f ≡ None → (taken : ℕ) → seen n.machine.state ≡ up_to_limit taken → seen s ≡ up_to_limit (taken + 0)) × ((g : F) → f ≡ Some g → seen n.machine.state ≤ number g)) (n.machine.ended + 1 == n.machine.inputs) _ _
          (λ _ ef es. (
            (λ none taken so. let v = counts.last n.machine.state (is_cut (one_end n.machine cut)) in let e = ap seen (sym es) in omega (arith, v, e, so)),
            (λ g some. absurd (let h : None ≡ Some g = sym sound ∙ ef ∙ some in cc)),
          ))
          (λ _ ef es. (
            (λ none taken so. let e = ap seen (sym es) in omega (arith, e, so)),
            (λ g some. absurd (let h : None ≡ Some g = sym sound ∙ ef ∙ some in cc)),
          )) ef es

  takes-counted : (is : List (Item P)) → input ≡ is → Counted (takes ch n is out)
  takes-counted [] e = idles n [] out (Idle Empty) refl refl
  takes-counted (it ∷ is) e =
      let fit : points_in it ≤ c = (subst (Each (Fits c)) e fits).0 in
      let t = took-item it fit (taken ch n it).machine.fault (taken ch n it).machine.state refl refl in
      let l : length (points_taken Took input) ≡ points_in it = ap (λ x. length (points_taken Took x)) e ∙ one-item it in
      record {
        on = λ f taken so. let s = t.0 f taken so in omega (arith, s, l);
        off = λ f h. (t.1 f h, omega (arith, l, fit));
      }
    where
      one-item : (it : Item P) → length (item_points it ++ []) ≡ points_in it
      one-item it = let a = length-append (item_points it) [] in let e = item_points-length it in omega (arith, a, e)

  counted-by : (h : Option (Item P)) → Counted (with_hand root cap ch n input out h)
  counted-by (Some i) = either Counted root _ _
      (λ _. idles (given n i) input out Gave refl refl)
      (λ _. either Counted (nat_lt (length out) cap) _ _ (λ _. idles (given n i) input (out ++ i ∷ []) Gave refl refl) (λ _. idles n input out (Idle Full) refl refl))
  counted-by None = either Counted n.done _ _
      (λ _. idles n input out Done refl refl)
      (λ _. either Counted n.ending _ _
      (λ _. idles (end_made n) input out Made refl refl)
      (λ _. either Counted n.leaf _ _
      (λ l. absurd (true≢false (sym l ∙ inner)))
      (λ _. takes-counted input refl)))

-- ---- a whole schedule

module _ {S P F : Type 0} (c cap root i : ℕ) (seen : S → ℕ) (number : F → ℕ) where
  -- as many points were taken as are counted, or with a fault no more than its number and one chunk
  pub record HasCounted (net : Net S P F) (taken : ℕ) : Type 0 where
    pub on : (net.node i).machine.fault ≡ None → seen (net.node i).machine.state ≡ up_to_limit taken
    pub off : (f : F) → (net.node i).machine.fault ≡ Some f → number f < 2 ^ 64 - 1 → taken ≤ number f + c

  module _ (net : Net S P F) (taken : ℕ) (counts : CountsPoints (net.node i).work seen number) (inner : (net.node i).leaf ≡ false) (fit : IsNetFit c cap net) (none : (net.node i).machine.fault ≡ None) (h : HasCounted net taken)
      (j : ℕ) (ch : Choice S P F) (quiet : IsQuiet ch (net.node j)) where
    abbrev after : Net S P F
    after = step net root cap j ch

    abbrev input : List (Item P)
    input = current_edge net.edge (open_ins (net.node i))

    input-fits : (os : List ℕ) → Each (Fits c) (current_edge net.edge os)
    input-fits [] = tt
    input-fits (k ∷ ks) = fit.edges k

    here : j ≡ i → HasCounted after (taken + length (points_in_step net root cap j ch i))
    here e =
        let t = counted-by c cap (i == root) ch (net.node i) input (net.edge i) seen number counts inner (subst (λ y. IsQuiet ch (net.node y)) e quiet) none (input-fits (open_ins (net.node i))) (net.node i).hand in
        subst (λ x. HasCounted (step net root cap x ch) (taken + length (points_in_step net root cap x ch i))) (sym e) (record {
          on = λ f. rw (eq-eqb i i refl) (t.on (rw (eq-eqb i i refl) at f) taken (h.on none));
          off = λ f g far. let s = t.off f (rw (eq-eqb i i refl) at g) in let o = h.on none in rw (eq-eqb i i refl) (let a = s.0 in let b = s.1 in omega (arith, a, b, o, far));
        })

    elsewhere : (j ≡ i → ⊥) → HasCounted after (taken + length (points_in_step net root cap j ch i))
    elsewhere z =
        let ne = ne-eqb i j (λ e. z (sym e)) in
        let same : after.node i ≡ net.node i = rw ne refl in
        let nothing : length (points_in_step net root cap j ch i) ≡ 0 = rw ne refl in
        record {
          on = λ _. let s = ap (λ (m : Node S P F). seen m.machine.state) same in let o = h.on none in omega (arith, s, o, nothing);
          off = λ f g far. absurd (let e : None ≡ Some f = sym none ∙ ap (λ (m : Node S P F). m.machine.fault) (sym same) ∙ g in cc);
        }

    counted-step : HasCounted after (taken + length (points_in_step net root cap j ch i))
    counted-step = elim (eqb_tells j i) [ inl p ↦ here p.1 | inr p ↦ elsewhere p.1 ]

  pub counted-run : (net : Net S P F) (taken : ℕ) (ts : List (ℕ × Choice S P F)) → i ≤ root → CountsPoints (net.node i).work seen number → (net.node i).leaf ≡ false → KeepsLaws net → IsNetFit c cap net
      → AreClean net root cap ts → IsAllowedRun net root cap ts → IsQuietRun net root cap ts → HasCounted net taken → HasCounted (run_schedule net root cap ts) (taken + length (points_taken_by net root cap ts i))
  counted-run net taken [] inside counts inner laws fit clean allowed quiet h = subst (HasCounted net) {x = taken} {y = taken + 0} (omega arith) h
  counted-run net taken (t ∷ ts) inside counts inner laws fit clean allowed quiet h =
      let next = step net root cap t.0 t.1 in
      let s = counted-step net taken counts inner fit (is-none (net.node i).machine.fault (clean.0 i inside)) h t.0 t.1 quiet.0 in
      let r = counted-run next (taken + length (points_in_step net root cap t.0 t.1 i)) ts inside
      (subst (λ m. CountsPoints m seen number) (sym (step-same net root cap t.0 t.1 i).work) counts) ((step-same net root cap t.0 t.1 i).leaf ∙ inner) (laws-step net root cap t.0 t.1 laws)
      (fit-step c cap net laws fit root t.0 t.1 allowed.0) clean.1 allowed.1 quiet.1 s in
      let l = length-append (points_in_step net root cap t.0 t.1 i) (points_taken_by next root cap ts i) in
      subst (HasCounted (run_schedule next root cap ts)) (omega (arith, l)) r

pub leaves-ahead : (S P F : Type 0) → LeavesReadAhead S P F
leaves-ahead S P F = λ net root cap chunk i under ts seen number f spare opens inside laws most allowed quiet h room.
    let last = run_schedule net root cap ts in
    let fit = opening-fit chunk cap net root opens most in
    let ends = fit-run chunk cap net root ts laws fit allowed in
    let calm = sound-before under net root cap ts h.under_it.within h.clean h.sound in
    let read = reads-ahead net root cap i under ts opens.tree h.under_it inside h.keeps quiet calm in
    let waits = waits-most chunk cap last root under spare ends room h.under_it.top in
    let none = (opens.fresh i h.inside).fault in
    let start : HasCounted chunk cap root i seen number net 0 = record { on = λ _. let n = h.none in omega (arith, n); off = λ g e far. absurd (let no : None ≡ Some g = sym none ∙ e in cc) } in
    let counted = (counted-run chunk cap root i seen number net 0 ts h.inside h.counts h.inner laws fit h.clean allowed quiet start).off f h.faulty h.told in
    let sum : root * (cap * chunk + chunk) ≡ root * cap * chunk + root * chunk = omega arith in
    let goal : (root * cap + (root + 2)) * chunk ≡ root * cap * chunk + root * chunk + 2 * chunk = omega arith in
    omega (arith, read, waits, counted, sum, goal)
