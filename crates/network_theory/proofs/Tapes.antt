-- A machine that reads several flows one behind the other does what it does that reads their join.
use Rattle.std.proofs.Common.{◌≡◌, ℕ, suc, ◌+◌, ◌<◌, Bool, true, false, ◌||◌, cond, List, [], ◌∷◌, ◌++◌, length, map, is_some, refl, ap, sym, ◌∙◌, append_assoc, append-nil, arith}
use Rattle.std.specs.Prelude.{◌==◌}
use Rattle.std.proofs.lemmas.Bool.{eq-eqb, ne_eqb}
use Rattle.cloud_points.specs.Flows.{Flow, points, join, join_all, empty_flow}
use Rattle.cloud_points.specs.Marks.{Mark, At, View_end, End, view_marks, piece_marks, flow_marks}
use Rattle.cloud_points.specs.Meaning.{Meaning}
use Rattle.cloud_points.proofs.FlowLaws.{marks-join, points-join}
use Rattle.network_theory.specs.History.{mark_points}
use Rattle.network_theory.specs.Machine.{Machine, next, gives, after_all, output, at_last, at_start, made_of, fault_on, state_after}
use Rattle.network_theory.proofs.Brought.{mark_points-append}
use Rattle.network_theory.proofs.WholeFlows.{points-of-flow}
use Rattle.network_theory.proofs.MachineLaws.{output-append, after_all-append}

-- the flows one behind the other
abbrev pub tape : {P : Type 0} → List (Flow P) → List (Mark P)
tape [] = []
tape (f ∷ fs) = flow_marks f ++ tape fs

-- they bring the points of their join
pub tape-points : {P : Type 0} (fs : List (Flow P)) → mark_points (tape fs) ≡ points (join_all fs)
tape-points [] = refl
tape-points (f ∷ fs) =
    mark_points-append (flow_marks f) (tape fs) ∙ ap (λ r. r ++ mark_points (tape fs)) (points-of-flow f)
    ∙ ap (λ r. points f ++ r) (tape-points fs) ∙ sym (points-join f (join_all fs))

abbrev NoEnd : {P : Type 0} → List (Mark P) → Type 0
NoEnd [] = Unit {0}
NoEnd (At p ∷ ms) = NoEnd ms
NoEnd (View_end ∷ ms) = NoEnd ms
NoEnd (End c ∷ ms) = ⊥

no_end-append : {P : Type 0} (a b : List (Mark P)) → NoEnd a → NoEnd b → NoEnd (a ++ b)
no_end-append [] b g h = h
no_end-append (At p ∷ a) b g h = no_end-append a b g h
no_end-append (View_end ∷ a) b g h = no_end-append a b g h
no_end-append (End c ∷ a) b g h = g

no_end-points : {P : Type 0} (ps : List P) → NoEnd (map At ps)
no_end-points [] = tt
no_end-points (p ∷ ps) = no_end-points ps

no_end-views : {P : Type 0} (vs : List (List P)) → NoEnd (view_marks vs)
no_end-views [] = tt
no_end-views (v ∷ vs) = no_end-append (map At v) (View_end ∷ view_marks vs) (no_end-points v) (no_end-views vs)

no_end-piece : {P : Type 0} (f : Flow P) → NoEnd (piece_marks f)
no_end-piece f = no_end-append (view_marks f.views) (map At f.open_view) (no_end-views f.views) (no_end-points f.open_view)

or_false : (b : Bool) → b || false ≡ b
or_false true = refl
or_false false = refl

or_assoc : (a b c : Bool) → (a || b) || c ≡ a || (b || c)
or_assoc true b c = refl
or_assoc false b c = refl

-- a flow and nothing more
join-nothing : {P : Type 0} (f : Flow P) → piece_marks (join f empty_flow) ≡ piece_marks f
join-nothing f = marks-join f empty_flow ∙ append-nil (piece_marks f)

module _ {S P F : Type 0} (m : Meaning S P F) where
  -- the same machine with other ends
  abbrev with_ends : Machine S F → Bool → ℕ → ℕ → Machine S F
  with_ends c x e n = record c { cut = x; ended = e; inputs = n }

  either_way : (b : Bool) (c d : Machine S F) (x : Bool) (e n : ℕ) → cond b (with_ends c x e n) (with_ends d x e n) ≡ with_ends (cond b c d) x e n
  either_way true c d x e n = refl
  either_way false c d x e n = refl

  after-ends : (c : Machine S F) (ms : List (Mark P)) → NoEnd ms → (x : Bool) (e n : ℕ) → after_all m (with_ends c x e n) ms ≡ with_ends (after_all m c ms) x e n
  after-ends c [] h x e n = refl
  after-ends c (At p ∷ ms) h x e n = ap (λ d. after_all m d ms) (either_way (is_some c.fault) c (record c { state = m.after c.state (p ∷ []); fault = m.fault c.state (p ∷ []) }) x e n) ∙ after-ends (next m c (At p)) ms h x e n
  after-ends c (View_end ∷ ms) h x e n = ap (λ d. after_all m d ms) (either_way (is_some c.fault) c (record c { state = (m.at_view c.state).0 }) x e n) ∙ after-ends (next m c View_end) ms h x e n
  after-ends c (End b ∷ ms) h x e n = absurd h

  output-ends : (c : Machine S F) (ms : List (Mark P)) → NoEnd ms → (x : Bool) (e n : ℕ) → output m (with_ends c x e n) ms ≡ output m c ms
  output-ends c [] h x e n = refl
  output-ends c (At p ∷ ms) h x e n = ap (λ z. gives m c (At p) ++ z) (ap (λ d. output m d ms) (either_way (is_some c.fault) c (record c { state = m.after c.state (p ∷ []); fault = m.fault c.state (p ∷ []) }) x e n) ∙ output-ends (next m c (At p)) ms h x e n)
  output-ends c (View_end ∷ ms) h x e n = ap (λ z. gives m c View_end ++ z) (ap (λ d. output m d ms) (either_way (is_some c.fault) c (record c { state = (m.at_view c.state).0 }) x e n) ∙ output-ends (next m c View_end) ms h x e n)
  output-ends c (End b ∷ ms) h x e n = absurd h

  -- a piece, and what comes behind it
  piece-output : (c : Machine S F) (ms more : List (Mark P)) → NoEnd ms → (x : Bool) (e n : ℕ)
      → output m (with_ends c x e n) (ms ++ more) ≡ output m c ms ++ output m (with_ends (after_all m c ms) x e n) more
  piece-output c ms more h x e n = output-append m (with_ends c x e n) ms more
      ∙ ap (λ z. z ++ output m (after_all m (with_ends c x e n) ms) more) (output-ends c ms h x e n)
      ∙ ap (λ d. output m c ms ++ output m d more) (after-ends c ms h x e n)

  piece-after : (c : Machine S F) (ms more : List (Mark P)) → NoEnd ms → (x : Bool) (e n : ℕ)
      → after_all m (with_ends c x e n) (ms ++ more) ≡ after_all m (with_ends (after_all m c ms) x e n) more
  piece-after c ms more h x e n = after_all-append m (with_ends c x e n) ms more ∙ ap (λ d. after_all m d more) (after-ends c ms h x e n)

  abbrev last_marks : Machine S F → Bool → List (Mark P)
  last_marks c x = cond ((m.at_end c.state (x || is_some c.fault)).1) (View_end ∷ End (x || is_some c.fault) ∷ []) (End (x || is_some c.fault) ∷ [])

  -- the last end, and one that is not the last
  last_end : (c : Machine S F) (x b : Bool) (e n : ℕ) → e + 1 ≡ n → output m (with_ends c x e n) (End b ∷ []) ≡ last_marks c (x || b)
  last_end c x b e n h = append-nil (cond (e + 1 == n) (last_marks c (x || b)) []) ∙ ap (λ t. cond t (last_marks c (x || b)) []) (eq-eqb (e + 1) n h)

  other_end : (c : Machine S F) (x b : Bool) (e n : ℕ) (more : List (Mark P)) → e + 1 < n → output m (with_ends c x e n) (End b ∷ more) ≡ output m (with_ends c (x || b) (e + 1) n) more
  other_end c x b e n more h =
      ap (λ t. cond t (last_marks c (x || b)) [] ++ output m (cond t (at_last m (with_ends c (x || b) (e + 1) n)) (with_ends c (x || b) (e + 1) n)) more) (ne_eqb (e + 1) n (λ q. omega (arith, h, q)))

  -- no end changes the fault
  end-fault : (t : Bool) (c d : Machine S F) → c.fault ≡ d.fault → (cond t c d).fault ≡ d.fault
  end-fault true c d h = h
  end-fault false c d h = refl

  fault_end : (c : Machine S F) (x b : Bool) (e n : ℕ) → (after_all m (with_ends c x e n) (End b ∷ [])).fault ≡ c.fault
  fault_end c x b e n = end-fault (e + 1 == n) (at_last m (with_ends c (x || b) (e + 1) n)) (with_ends c (x || b) (e + 1) n) refl

  -- the state behind the last end
  abbrev last_state : Machine S F → Bool → S
  last_state c x = (m.at_end c.state (x || is_some c.fault)).0

  state_end : (c : Machine S F) (x b : Bool) (e n : ℕ) → e + 1 ≡ n → (after_all m (with_ends c x e n) (End b ∷ [])).state ≡ last_state c (x || b)
  state_end c x b e n h = ap (λ t. (cond t (at_last m (with_ends c (x || b) (e + 1) n)) (with_ends c (x || b) (e + 1) n)).state) (eq-eqb (e + 1) n h)

  other_after : (c : Machine S F) (x b : Bool) (e n : ℕ) (more : List (Mark P)) → e + 1 < n → after_all m (with_ends c x e n) (End b ∷ more) ≡ after_all m (with_ends c (x || b) (e + 1) n) more
  other_after c x b e n more h =
      ap (λ t. after_all m (cond t (at_last m (with_ends c (x || b) (e + 1) n)) (with_ends c (x || b) (e + 1) n)) more) (ne_eqb (e + 1) n (λ q. omega (arith, h, q)))

  -- the last flow
  one-output : (f : Flow P) (c : Machine S F) (x : Bool) (e n : ℕ) → e + 1 ≡ n → output m (with_ends c x e n) (flow_marks f) ≡ output m c (piece_marks f) ++ last_marks (after_all m c (piece_marks f)) (x || f.cut)
  one-output f c x e n h = piece-output c (piece_marks f) (End f.cut ∷ []) (no_end-piece f) x e n
      ∙ ap (λ z. output m c (piece_marks f) ++ z) (last_end (after_all m c (piece_marks f)) x f.cut e n h)

  one-fault : (f : Flow P) (c : Machine S F) (x : Bool) (e n : ℕ) → (after_all m (with_ends c x e n) (flow_marks f)).fault ≡ (after_all m c (piece_marks f)).fault
  one-fault f c x e n = ap (λ d. d.fault) (piece-after c (piece_marks f) (End f.cut ∷ []) (no_end-piece f) x e n) ∙ fault_end (after_all m c (piece_marks f)) x f.cut e n

  one-state : (f : Flow P) (c : Machine S F) (x : Bool) (e n : ℕ) → e + 1 ≡ n → (after_all m (with_ends c x e n) (flow_marks f)).state ≡ last_state (after_all m c (piece_marks f)) (x || f.cut)
  one-state f c x e n h = ap (λ d. d.state) (piece-after c (piece_marks f) (End f.cut ∷ []) (no_end-piece f) x e n) ∙ state_end (after_all m c (piece_marks f)) x f.cut e n h

  -- several flows are their join
  several-output : (f : Flow P) (fs : List (Flow P)) (c : Machine S F) (x : Bool) (e n : ℕ) → e + suc (length fs) ≡ n
      → output m (with_ends c x e n) (tape (f ∷ fs)) ≡ output m c (piece_marks (join_all (f ∷ fs))) ++ last_marks (after_all m c (piece_marks (join_all (f ∷ fs)))) (x || (join_all (f ∷ fs)).cut)
  several-output f [] c x e n h = ap (output m (with_ends c x e n)) (append-nil (flow_marks f))
      ∙ one-output f c x e n (omega (arith, h))
      ∙ ap (λ z. output m c z ++ last_marks (after_all m c z) (x || f.cut)) (sym (join-nothing f))
      ∙ ap (λ b. output m c (piece_marks (join f empty_flow)) ++ last_marks (after_all m c (piece_marks (join f empty_flow))) (x || b)) (sym (or_false f.cut))
  several-output f (g ∷ gs) c x e n h =
      ap (output m (with_ends c x e n)) (append_assoc (piece_marks f) (End f.cut ∷ []) (tape (g ∷ gs)))
      ∙ piece-output c (piece_marks f) (End f.cut ∷ tape (g ∷ gs)) (no_end-piece f) x e n
      ∙ ap (λ z. output m c (piece_marks f) ++ z) (other_end d x f.cut e n (tape (g ∷ gs)) (omega (arith, h)) ∙ several-output g gs d (x || f.cut) (e + 1) n (omega (arith, h)))
      ∙ sym (append_assoc (output m c (piece_marks f)) (output m d (piece_marks rest)) (last_marks (after_all m d (piece_marks rest)) ((x || f.cut) || rest.cut)))
      ∙ ap (λ z. z ++ last_marks (after_all m d (piece_marks rest)) ((x || f.cut) || rest.cut)) (sym (output-append m c (piece_marks f) (piece_marks rest)))
      ∙ ap (λ q. output m c (piece_marks f ++ piece_marks rest) ++ last_marks q ((x || f.cut) || rest.cut)) (sym (after_all-append m c (piece_marks f) (piece_marks rest)))
      ∙ ap (λ z. output m c z ++ last_marks (after_all m c z) ((x || f.cut) || rest.cut)) (sym (marks-join f rest))
      ∙ ap (λ b. output m c (piece_marks (join f rest)) ++ last_marks (after_all m c (piece_marks (join f rest))) b) (or_assoc x f.cut rest.cut)
    where
      d : Machine S F
      d = after_all m c (piece_marks f)

      rest : Flow P
      rest = join_all (g ∷ gs)

  several-fault : (f : Flow P) (fs : List (Flow P)) (c : Machine S F) (x : Bool) (e n : ℕ) → e + suc (length fs) ≡ n
      → (after_all m (with_ends c x e n) (tape (f ∷ fs))).fault ≡ (after_all m c (piece_marks (join_all (f ∷ fs)))).fault
  several-fault f [] c x e n h = ap (λ z. (after_all m (with_ends c x e n) z).fault) (append-nil (flow_marks f))
      ∙ one-fault f c x e n ∙ ap (λ z. (after_all m c z).fault) (sym (join-nothing f))
  several-fault f (g ∷ gs) c x e n h =
      ap (λ z. (after_all m (with_ends c x e n) z).fault) (append_assoc (piece_marks f) (End f.cut ∷ []) (tape (g ∷ gs)))
      ∙ ap (λ z. z.fault) (piece-after c (piece_marks f) (End f.cut ∷ tape (g ∷ gs)) (no_end-piece f) x e n)
      ∙ ap (λ z. z.fault) (other_after d x f.cut e n (tape (g ∷ gs)) (omega (arith, h)))
      ∙ several-fault g gs d (x || f.cut) (e + 1) n (omega (arith, h))
      ∙ ap (λ z. z.fault) (sym (after_all-append m c (piece_marks f) (piece_marks (join_all (g ∷ gs)))))
      ∙ ap (λ z. (after_all m c z).fault) (sym (marks-join f (join_all (g ∷ gs))))
    where
      d : Machine S F
      d = after_all m c (piece_marks f)

  several-state : (f : Flow P) (fs : List (Flow P)) (c : Machine S F) (x : Bool) (e n : ℕ) → e + suc (length fs) ≡ n
      → (after_all m (with_ends c x e n) (tape (f ∷ fs))).state ≡ last_state (after_all m c (piece_marks (join_all (f ∷ fs)))) (x || (join_all (f ∷ fs)).cut)
  several-state f [] c x e n h = ap (λ z. (after_all m (with_ends c x e n) z).state) (append-nil (flow_marks f))
      ∙ one-state f c x e n (omega (arith, h))
      ∙ ap (λ z. last_state (after_all m c z) (x || f.cut)) (sym (join-nothing f))
      ∙ ap (λ b. last_state (after_all m c (piece_marks (join f empty_flow))) (x || b)) (sym (or_false f.cut))
  several-state f (g ∷ gs) c x e n h =
      ap (λ z. (after_all m (with_ends c x e n) z).state) (append_assoc (piece_marks f) (End f.cut ∷ []) (tape (g ∷ gs)))
      ∙ ap (λ z. z.state) (piece-after c (piece_marks f) (End f.cut ∷ tape (g ∷ gs)) (no_end-piece f) x e n)
      ∙ ap (λ z. z.state) (other_after d x f.cut e n (tape (g ∷ gs)) (omega (arith, h)))
      ∙ several-state g gs d (x || f.cut) (e + 1) n (omega (arith, h))
      ∙ ap (λ q. last_state q ((x || f.cut) || rest.cut)) (sym (after_all-append m c (piece_marks f) (piece_marks rest)))
      ∙ ap (λ z. last_state (after_all m c z) ((x || f.cut) || rest.cut)) (sym (marks-join f rest))
      ∙ ap (λ b. last_state (after_all m c (piece_marks (join f rest))) b) (or_assoc x f.cut rest.cut)
    where
      d : Machine S F
      d = after_all m c (piece_marks f)

      rest : Flow P
      rest = join_all (g ∷ gs)

  -- a work over several inputs makes what it makes of their join, and has the fault and the state that it has then
  pub output-tape : (fs : List (Flow P)) (s : S) → 0 < length fs → output m (at_start (length fs) s) (tape fs) ≡ made_of m s (join_all fs)
  output-tape [] s h = absurd (omega (arith, h))
  output-tape (f ∷ fs) s h = several-output f fs (at_start 0 s) false 0 (length (f ∷ fs)) (omega arith) ∙ sym (one-output (join_all (f ∷ fs)) (at_start 0 s) false 0 1 refl)

  pub fault-tape : (fs : List (Flow P)) (s : S) → 0 < length fs → (after_all m (at_start (length fs) s) (tape fs)).fault ≡ fault_on m s (join_all fs)
  fault-tape [] s h = absurd (omega (arith, h))
  fault-tape (f ∷ fs) s h = several-fault f fs (at_start 0 s) false 0 (length (f ∷ fs)) (omega arith) ∙ sym (one-fault (join_all (f ∷ fs)) (at_start 0 s) false 0 1)

  pub state-tape : (fs : List (Flow P)) (s : S) → 0 < length fs → (after_all m (at_start (length fs) s) (tape fs)).state ≡ state_after m s (join_all fs)
  state-tape [] s h = absurd (omega (arith, h))
  state-tape (f ∷ fs) s h = several-state f fs (at_start 0 s) false 0 (length (f ∷ fs)) (omega arith) ∙ sym (one-state (join_all (f ∷ fs)) (at_start 0 s) false 0 1 refl)
