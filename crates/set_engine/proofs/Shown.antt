-- What a work gives point by point, and view by view.
use Rattle.std.proofs.Common.{◌≡◌, ◌≤◌, ◌<◌, ◌+◌, true≢false, ◌≢◌, ℕ, zero, suc, Bool, true, false, List, [], ◌∷◌, ◌++◌, length, map, take, drop, get_or, Option, Some, None, is_some, ◌||◌, cond, refl, ap, sym, ◌∙◌, append_assoc, append-nil, arith}
use Rattle.std.proofs.lemmas.List.{map-append, take-append-drop, take_more}
use Rattle.std.proofs.lemmas.Option.{get_or_from_slice_get, none-some}
use Rattle.std.specs.Prelude.{slice_get}
use Rattle.cloud_points.specs.Events.{IsOf, happened, is_device, ran_short}
use Rattle.cloud_points.specs.Flows.{Flow}
use Rattle.cloud_points.specs.Marks.{Mark, At, View_end, End, flow_marks, piece_marks, view_marks}
use Rattle.cloud_points.specs.Meaning.{KeepsCutting, Meaning}
use Rattle.cloud_points.specs.declared.faults.StageFault.{StageFault}
use Rattle.cloud_points.specs.declared.point.Point.{Point}
use Rattle.cloud_points.specs.declared.work.Work.{Ghosts}
use Rattle.cloud_points.specs.declared.faults.StageFault.TheVariants as stage
use Rattle.file_devices.specs.declared.devices.Op.{Op}
use Rattle.network_theory.specs.Machine.{Machine, after_all, at_last, at_start, ending_marks, fault_on, made_of, next, one_end, output, state_after}
use Rattle.network_theory.proofs.MachineLaws.{after-chunk, after-faulted, after_all-append, output-append, output-chunk, output-faulted}
use Rattle.whole_filters.specs.Held.{view_at}
use Rattle.set_engine.specs.Showing.{IsPlain, WasShown}
use Rattle.set_engine.proofs.Giving.{view_marks-more}

no_points : {P : Type 0} (xs : List P) → length xs ≤ 0 → xs ≡ []
no_points [] h = refl
no_points (x ∷ xs) h = absurd (omega (arith, h))

-- a flow with more points in its open view, and then with that view ended where its end goes on
abbrev pub with_more : {P : Type 0} → Flow P → List P → Flow P
with_more f ps = record f { open_view = f.open_view ++ ps }

abbrev pub with_end : {P : Type 0} → Flow P → Flow P
with_end f = record f { views = f.views ++ f.open_view ∷ []; open_view = [] }

-- ---- the points of a view

module _ {S P F : Type 0} (m : Meaning S P F) (law : KeepsCutting m) (s : S) where
  -- before the first one
  emits-none : m.emit s [] ≡ []
  emits-none = no_points (m.emit s []) (law.no_longer s [])

  -- one more, which is shown to a work that means the same
  module _ (before : List P) (sound : m.fault s before ≡ None) (n : Meaning S P F) (same : n ≡ m) (t : S) (there : t ≡ m.after s before) (p : P) (shown : List P) (is : shown ≡ p ∷ []) where
    alike : {A : Type 0} (f : Meaning S P F → S → List P → A) → f n t shown ≡ f m (m.after s before) (p ∷ [])
    alike f = ap (f n t) is ∙ ap (λ x. f x t (p ∷ [])) same ∙ ap (λ x. f m x (p ∷ [])) there

    after-more : n.after t shown ≡ m.after s (before ++ p ∷ [])
    after-more = alike (λ x. x.after) ∙ sym (law.goes_on s before (p ∷ []) sound)

    fault-more : n.fault t shown ≡ m.fault s (before ++ p ∷ [])
    fault-more = alike (λ x. x.fault) ∙ sym (law.finds s before (p ∷ []) sound)

    emits-more : m.emit s before ++ n.emit t shown ≡ m.emit s (before ++ p ∷ [])
    emits-more = ap (λ ps. m.emit s before ++ ps) (alike (λ x. x.emit)) ∙ sym (law.emits s before (p ∷ []) sound)

    -- and what it gave stands behind that of those before
    gave-more : (f g h : Flow P) (now : List P) → g ≡ with_more f (m.emit s before) → h ≡ with_more g now → now ≡ n.emit t shown → h ≡ with_more f (m.emit s (before ++ p ∷ []))
    gave-more f g h now so_far pushed gave =
        pushed ∙ ap (with_more g) gave ∙ ap (λ (x : Flow P). with_more x (n.emit t shown)) so_far
        ∙ ap (λ ps. record f { open_view = ps }) (append_assoc f.open_view (m.emit s before) (n.emit t shown) ∙ ap (λ ps. f.open_view ++ ps) emits-more)

  -- what stands behind a fault counts for nothing
  module _ (upto rest all : List P) (split : all ≡ upto ++ rest) (faulty : is_some (m.fault s upto) ≡ true) where
    stops : m.fault s upto ≢ None
    stops e = absurd (true≢false (sym faulty ∙ ap is_some e))

    after-stop : m.after s upto ≡ m.after s all
    after-stop = sym (law.stops_after s upto rest stops) ∙ ap (m.after s) (sym split)

    fault-stop : m.fault s upto ≡ m.fault s all
    fault-stop = sym (law.stops_fault s upto rest stops) ∙ ap (m.fault s) (sym split)

    emits-stop : m.emit s upto ≡ m.emit s all
    emits-stop = sym (law.stops_emit s upto rest stops) ∙ ap (m.emit s) (sym split)

-- ---- what came of the points of a view

-- so many of them left the work in this state and gave this fault, and what went on of them stands in the open view behind what stood there
pub record Came {S P F : Type 0} (m : Meaning S P F) (s : S) (points : List P) (f g : Flow P) (t : S) (fault : Option F) : Type 0 where
  pub after : t ≡ m.after s points
  pub faults : fault ≡ m.fault s points
  pub gave : g ≡ with_more f (m.emit s points)

-- none yet
pub none-came : {S P F : Type 0} (m : Meaning S P F) (law : KeepsCutting m) (s : S) (f : Flow P) → Came m s [] f f s None
none-came m law s f = record {
  after = sym (law.rests s);
  faults = sym (law.is_sound s);
  gave = ap (λ ps. record f { open_view = ps }) (sym (append-nil f.open_view)) ∙ ap (with_more f) (sym (emits-none m law s));
}

-- one more, at its place
one-came : {S P F : Type 0} (m : Meaning S P F) (law : KeepsCutting m) (s : S) (view : List P) (k : ℕ) (p : P) → k < length view → slice_get view k ≡ Some p → (f g : Flow P) (t : S) → Came m s (take k view) f g t None
    → (n : Meaning S P F) → n ≡ m → (shown : List P) → shown ≡ p ∷ [] → (h : Flow P) (u : S) (fault : Option F) → Came n t shown g h u fault → Came m s (take (k + 1) view) f h u fault
one-came m law s view k p lt at f g t before n same shown is h u fault here =
    let more : take (k + 1) view ≡ take k view ++ p ∷ [] = take_more view k p lt ∙ ap (λ q. take k view ++ q ∷ []) (get_or_from_slice_get view k p p at) in
    let sound : m.fault s (take k view) ≡ None = sym before.faults in
    record {
      after = here.after ∙ after-more m law s (take k view) sound n same t before.after p shown is ∙ ap (m.after s) (sym more);
      faults = here.faults ∙ fault-more m law s (take k view) sound n same t before.after p shown is ∙ ap (m.fault s) (sym more);
      gave = gave-more m law s (take k view) sound n same t before.after p shown is f g h (n.emit t shown) before.gave here.gave refl ∙ ap (λ ps. with_more f (m.emit s ps)) (sym more);
    }

-- up to a fault, behind which the others count for nothing
pub all-came : {S P F : Type 0} (m : Meaning S P F) (law : KeepsCutting m) (s : S) (view : List P) (k : ℕ) (f g : Flow P) (t : S) (fault : Option F) → is_some fault ≡ true → Came m s (take k view) f g t fault → Came m s view f g t fault
all-came m law s view k f g t fault faulty came =
    let split : view ≡ take k view ++ drop k view = sym (take-append-drop k view) in
    let stop : is_some (m.fault s (take k view)) ≡ true = ap is_some (sym came.faults) ∙ faulty in
    record {
      after = came.after ∙ after-stop m law s (take k view) (drop k view) view split stop;
      faults = came.faults ∙ fault-stop m law s (take k view) (drop k view) view split stop;
      gave = came.gave ∙ ap (with_more f) (emits-stop m law s (take k view) (drop k view) view split stop);
    }

-- ---- views

-- where a work with one input stands before the end of that
abbrev stands_at : {S F : Type 0} → S → Option F → Machine S F
stands_at state fault = record (at_start 1 state) { fault = fault }

-- the marks of views, with one of them set apart
views-split : {P : Type 0} (vs : List (List P)) (v : ℕ) (d : List P) → v < length vs
    → (rest : List (List P)) × (view_marks vs ≡ view_marks (take v vs) ++ (map At (get_or vs v d) ++ View_end ∷ view_marks rest))
views-split [] v d lt = absurd (omega (arith, lt))
views-split (w ∷ vs) zero d lt = (vs, refl)
views-split (w ∷ vs) (suc v) d lt =
    let later = views-split vs v d (omega (arith, lt)) in
    (later.0, ap (λ ms. map At w ++ View_end ∷ ms) later.1 ∙ sym (append_assoc (map At w) (View_end ∷ view_marks (take v vs)) (map At (get_or vs v d) ++ View_end ∷ view_marks later.0)))

module _ {P : Type 0} (f : Flow P) (v : ℕ) (view : List P) (is : view ≡ view_at f v) where
  pub piece-split : v < length f.views → (rest : List (List P)) × (piece_marks f ≡ (view_marks (take v f.views) ++ map At view) ++ (View_end ∷ (view_marks rest ++ map At f.open_view)))
  piece-split lt =
      let split = views-split f.views v f.open_view lt in (
        split.0,
        ap (λ ms. ms ++ map At f.open_view) (split.1 ∙ ap (λ (ps : List P). view_marks (take v f.views) ++ (map At ps ++ View_end ∷ view_marks split.0)) (sym is)
            ∙ sym (append_assoc (view_marks (take v f.views)) (map At view) (View_end ∷ view_marks split.0)))
            ∙ append_assoc (view_marks (take v f.views) ++ map At view) (View_end ∷ view_marks split.0) (map At f.open_view),
      )

  -- one view more
  pub taken-more : v < length f.views → view_marks (take (v + 1) f.views) ≡ view_marks (take v f.views) ++ (map At view ++ View_end ∷ [])
  taken-more lt = ap view_marks (take_more f.views v f.open_view lt) ∙ view_marks-more (take v f.views) (get_or f.views v f.open_view)
      ∙ ap (λ (ps : List P). view_marks (take v f.views) ++ (map At ps ++ View_end ∷ [])) (sym is)

  -- the open one stands behind all others
  pub last-split : v ≡ length f.views → piece_marks f ≡ view_marks (take v f.views) ++ map At view
  last-split at = ap (λ vs. view_marks vs ++ map At f.open_view) (sym (ap (λ k. take k f.views) at ∙ all f.views)) ∙ ap (λ (ps : List P). view_marks (take v f.views) ++ map At ps) (sym (is ∙ ap (view_at f) at ∙ beyond f.views f.open_view))
    where
      all : {A : Type 0} (xs : List A) → take (length xs) xs ≡ xs
      all [] = refl
      all (x ∷ xs) = ap (λ ys. x ∷ ys) (all xs)

      beyond : {A : Type 0} (xs : List A) (d : A) → get_or xs (length xs) d ≡ d
      beyond [] d = refl
      beyond (x ∷ xs) d = beyond xs d

more-marks : {P : Type 0} (f : Flow P) (ps : List P) → piece_marks (with_more f ps) ≡ piece_marks f ++ map At ps
more-marks f ps = ap (λ ms. view_marks f.views ++ ms) (map-append At f.open_view ps) ∙ sym (append_assoc (view_marks f.views) (map At f.open_view) (map At ps))

pub end-marks : {P : Type 0} (f : Flow P) → piece_marks (with_end f) ≡ piece_marks f ++ View_end ∷ []
end-marks f = append-nil (view_marks (f.views ++ f.open_view ∷ [])) ∙ view_marks-more f.views f.open_view ∙ sym (append_assoc (view_marks f.views) (map At f.open_view) (View_end ∷ []))

module _ {S P F : Type 0} (m : Meaning S P F) (law : KeepsCutting m) where
  -- nothing comes behind a fault before the end
  module _ (c : Machine S F) (faulty : is_some c.fault ≡ true) where
    next-end : next m c View_end ≡ c
    next-end = rw faulty refl

    after-views : (vs : List (List P)) → after_all m c (view_marks vs) ≡ c
    after-views [] = refl
    after-views (v ∷ vs) = after_all-append m c (map At v) (View_end ∷ view_marks vs) ∙ ap (λ d. after_all m (next m d View_end) (view_marks vs)) (after-faulted m c v faulty)
        ∙ ap (λ d. after_all m d (view_marks vs)) next-end ∙ after-views vs

    gives-end : (ms : List (Mark P)) → output m c (View_end ∷ ms) ≡ output m c ms
    gives-end ms = rw faulty refl

    gives-views : (vs : List (List P)) → output m c (view_marks vs) ≡ []
    gives-views [] = refl
    gives-views (v ∷ vs) = output-append m c (map At v) (View_end ∷ view_marks vs)
        ∙ ap (λ ms. ms ++ output m (after_all m c (map At v)) (View_end ∷ view_marks vs)) (output-faulted m c v faulty)
        ∙ ap (λ d. output m d (View_end ∷ view_marks vs)) (after-faulted m c v faulty) ∙ gives-end (view_marks vs) ∙ gives-views vs

    behind-after : (vs : List (List P)) (ps : List P) → after_all m c (View_end ∷ (view_marks vs ++ map At ps)) ≡ c
    behind-after vs ps = ap (λ d. after_all m d (view_marks vs ++ map At ps)) next-end ∙ after_all-append m c (view_marks vs) (map At ps) ∙ ap (λ d. after_all m d (map At ps)) (after-views vs) ∙ after-faulted m c ps faulty

    behind-gives : (vs : List (List P)) (ps : List P) → output m c (View_end ∷ (view_marks vs ++ map At ps)) ≡ []
    behind-gives vs ps = gives-end (view_marks vs ++ map At ps) ∙ output-append m c (view_marks vs) (map At ps)
        ∙ ap (λ ms. ms ++ output m (after_all m c (view_marks vs)) (map At ps)) (gives-views vs) ∙ ap (λ d. output m d (map At ps)) (after-views vs) ∙ output-faulted m c ps faulty

  module _ (s t : S) (ms : List (Mark P)) (f : Flow P) (so_far : WasShown m s ms f t None) (view : List P) (n : Meaning S P F) (same : n ≡ m) (g : Flow P) (u : S) (fault : Option F) (came : Came n t view f g u fault) where
    -- and then the points of a view
    pub points-shown : WasShown m s (ms ++ map At view) g u fault
    points-shown = record {
      reached = after_all-append m (at_start 1 s) ms (map At view) ∙ ap (λ d. after_all m d (map At view)) so_far.reached ∙ after-chunk m law (at_start 1 t) view refl
          ∙ ap (λ (x : Meaning S P F). stands_at (x.after t view) (x.fault t view)) (sym same) ∙ ap (λ x. stands_at x (n.fault t view)) (sym came.after) ∙ ap (stands_at u) (sym came.faults);
      gave = output-append m (at_start 1 s) ms (map At view) ∙ ap (λ d. output m (at_start 1 s) ms ++ output m d (map At view)) so_far.reached
          ∙ ap (λ xs. xs ++ output m (at_start 1 t) (map At view)) so_far.gave ∙ ap (λ xs. piece_marks f ++ xs) (output-chunk m law (at_start 1 t) view refl)
          ∙ ap (λ (x : Meaning S P F). piece_marks f ++ map At (x.emit t view)) (sym same) ∙ sym (more-marks f (n.emit t view)) ∙ ap piece_marks (sym came.gave);
    }

    -- and its end, where it has no fault
    module _ (sound : fault ≡ None) (p : Meaning S P F) (alike : p ≡ m) (w : S) (ended : w ≡ (p.at_view u).0) (h : Flow P) (goes : piece_marks h ≡ piece_marks g ++ cond ((p.at_view u).1) (View_end ∷ []) []) where
      points-sound : after_all m (at_start 1 s) (ms ++ map At view) ≡ at_start 1 u
      points-sound = points-shown.reached ∙ ap (stands_at u) sound

      pub view-shown : WasShown m s (ms ++ (map At view ++ View_end ∷ [])) h w None
      view-shown = record {
        reached = ap (after_all m (at_start 1 s)) (sym (append_assoc ms (map At view) (View_end ∷ []))) ∙ after_all-append m (at_start 1 s) (ms ++ map At view) (View_end ∷ [])
            ∙ ap (λ d. next m d View_end) points-sound ∙ ap (λ (x : Meaning S P F). at_start 1 ((x.at_view u).0)) (sym alike) ∙ ap (at_start 1) (sym ended);
        gave = ap (output m (at_start 1 s)) (sym (append_assoc ms (map At view) (View_end ∷ []))) ∙ output-append m (at_start 1 s) (ms ++ map At view) (View_end ∷ [])
            ∙ ap (λ d. output m (at_start 1 s) (ms ++ map At view) ++ output m d (View_end ∷ [])) points-sound
            ∙ ap (λ xs. xs ++ (cond ((m.at_view u).1) (View_end ∷ []) [] ++ [])) points-shown.gave
            ∙ ap (λ xs. piece_marks g ++ xs) (append-nil (cond ((m.at_view u).1) (View_end ∷ []) []))
            ∙ ap (λ (x : Meaning S P F). piece_marks g ++ cond ((x.at_view u).1) (View_end ∷ []) []) (sym alike) ∙ sym goes;
      }

    -- behind a fault in the view all that is left changes nothing
    pub stopped-shown : is_some fault ≡ true → (rest : List (List P)) (ps : List P) (all : List (Mark P)) → all ≡ (ms ++ map At view) ++ (View_end ∷ (view_marks rest ++ map At ps)) → WasShown m s all g u fault
    stopped-shown faulty rest ps all split = record {
      reached = ap (after_all m (at_start 1 s)) split ∙ after_all-append m (at_start 1 s) (ms ++ map At view) (View_end ∷ (view_marks rest ++ map At ps))
          ∙ ap (λ d. after_all m d (View_end ∷ (view_marks rest ++ map At ps))) points-shown.reached ∙ behind-after (stands_at u fault) faulty rest ps;
      gave = ap (output m (at_start 1 s)) split ∙ output-append m (at_start 1 s) (ms ++ map At view) (View_end ∷ (view_marks rest ++ map At ps))
          ∙ ap (λ d. output m (at_start 1 s) (ms ++ map At view) ++ output m d (View_end ∷ (view_marks rest ++ map At ps))) points-shown.reached
          ∙ ap (λ xs. output m (at_start 1 s) (ms ++ map At view) ++ xs) (behind-gives (stands_at u fault) faulty rest ps) ∙ append-nil (output m (at_start 1 s) (ms ++ map At view)) ∙ points-shown.gave;
    }

-- ---- the end

module _ {S P F : Type 0} (m : Meaning S P F) (s t : S) (taken given : Flow P) (fault : Option F) (shown : WasShown m s (piece_marks taken) given t fault) where
  -- where it stands before the end, and whether that is cut
  abbrev before : Machine S F
  before = stands_at t fault

  abbrev cuts : Bool
  cuts = taken.cut || is_some fault

  flow-after : after_all m (at_start 1 s) (flow_marks taken) ≡ at_last m (one_end before taken.cut)
  flow-after = after_all-append m (at_start 1 s) (piece_marks taken) (End taken.cut ∷ []) ∙ ap (λ c. next m c (End taken.cut)) shown.reached

  pub flow-fault : fault_on m s taken ≡ fault
  flow-fault = ap (λ (c : Machine S F). c.fault) flow-after

  flow-state : state_after m s taken ≡ (m.at_end t cuts).0
  flow-state = ap (λ (c : Machine S F). c.state) flow-after

  flow-made : made_of m s taken ≡ piece_marks given ++ cond ((m.at_end t cuts).1) (View_end ∷ End cuts ∷ []) (End cuts ∷ [])
  flow-made = output-append m (at_start 1 s) (piece_marks taken) (End taken.cut ∷ []) ∙ ap (λ c. output m (at_start 1 s) (piece_marks taken) ++ output m c (End taken.cut ∷ [])) shown.reached
      ∙ ap (λ ms. ms ++ (ending_marks m (one_end before taken.cut) ++ [])) shown.gave ∙ ap (λ ms. piece_marks given ++ ms) (append-nil (ending_marks m (one_end before taken.cut)))

  -- by a work that means the same
  module _ (n : Meaning S P F) (same : n ≡ m) (cut ends : Bool) (u : S) (is : cut ≡ cuts) (gives : n.at_end t cut ≡ (u, ends)) where
    at : m.at_end t cuts ≡ (u, ends)
    at = ap (λ (x : Meaning S P F). x.at_end t cuts) (sym same) ∙ ap (n.at_end t) (sym is) ∙ gives

    pub ended-state : u ≡ state_after m s taken
    ended-state = ap (λ (y : S × Bool). y.0) (sym at) ∙ sym flow-state

    pub ended-marks : (h : Flow P) → flow_marks h ≡ piece_marks given ++ cond ends (View_end ∷ End cut ∷ []) (End cut ∷ []) → flow_marks h ≡ made_of m s taken
    ended-marks h e = e ∙ ap (λ b. piece_marks given ++ cond ends (View_end ∷ End b ∷ []) (End b ∷ [])) is
        ∙ ap (λ (y : S × Bool). piece_marks given ++ cond y.1 (View_end ∷ End cuts ∷ []) (End cuts ∷ [])) (sym at) ∙ sym flow-made

-- the marks of views that are at their end
pub end-is : {P : Type 0} (f g h : Flow P) (ends cut : Bool) → f.cut ≡ false → g ≡ cond ends (with_end f) f → h ≡ cond cut (record g { cut = true }) g
    → flow_marks h ≡ piece_marks f ++ cond ends (View_end ∷ End cut ∷ []) (End cut ∷ [])
end-is {P} f g h ends cut uncut mid last = ap flow_marks (last ∙ ap (λ (x : Flow P). cond cut (record x { cut = true }) x) mid) ∙ go ends cut
  where
    behind : (c : Bool) → piece_marks (with_end f) ++ End c ∷ [] ≡ piece_marks f ++ View_end ∷ End c ∷ []
    behind c = ap (λ ms. ms ++ End c ∷ []) (end-marks f) ∙ append_assoc (piece_marks f) (View_end ∷ []) (End c ∷ [])

    go : (ends cut : Bool) → flow_marks (let x = cond ends (with_end f) f in cond cut (record x { cut = true }) x) ≡ piece_marks f ++ cond ends (View_end ∷ End cut ∷ []) (End cut ∷ [])
    go true true = behind true
    go true false = ap (λ c. piece_marks (with_end f) ++ End c ∷ []) uncut ∙ behind false
    go false true = refl
    go false false = ap (λ c. piece_marks f ++ End c ∷ []) uncut

-- ---- calls without an event

pub no-device : (op : Option Op) (fault : Option StageFault) → op ≡ None → IsOf op fault → is_device fault ≡ false
no-device op None none named = refl
no-device op (Some (stage.Point f)) none named = refl
no-device op (Some (stage.Device o)) none named = absurd (none-some o (sym none ∙ named))

-- a work without a device and with room for what it takes
calm : (op : Option Op) (fault : Option StageFault) (before now : Bool) → op ≡ None → IsOf op fault → now ≡ false → happened fault before now ≡ false
calm op fault before now none named ample = go fault named
  where
    short : (before now : Bool) → now ≡ false → ran_short before now ≡ false
    short true now e = refl
    short false now e = e

    go : (fault : Option StageFault) → IsOf op fault → happened fault before now ≡ false
    go None named = short before now ample
    go (Some (stage.Point f)) named = short before now ample
    go (Some (stage.Device o)) named = absurd (none-some o (sym none ∙ named))

pub none-is : {A : Type 0} (o : Option A) → is_some o ≡ false → o ≡ None
none-is None e = refl
none-is (Some x) e = absurd (true≢false e)

-- ---- calls of a work

module _ {W S : Type 0} (work : Ghosts W S) (first old new : W) (plain : IsPlain work old) (same : work.meaning old ≡ work.meaning first) (still : work.meaning new ≡ work.meaning old) where
  pub plain-still : work.leaf new ≡ work.leaf old → work.op new ≡ work.op old → IsPlain work new
  plain-still leaf op = record {
    inner = leaf ∙ plain.inner;
    op = op ∙ plain.op;
    ample = λ v e. plain.ample v (e ∙ still);
  }

  -- it was shown the point at a place of a view, behind those before that
  pub shown-here : KeepsCutting (work.meaning first) → (view : List Point) (k : ℕ) (p : Point) → k < length view → slice_get view k ≡ Some p → (f g h : Flow Point) → Came (work.meaning first) (work.state first) (take k view) f g (work.state old) None
      → (shown given : List Point) → shown ≡ p ∷ [] → (fault : Option StageFault) → IsOf (work.op old) fault
      → (happened fault (work.short old) (work.short new) ≡ false → work.state new ≡ (work.meaning old).after (work.state old) shown)
      → (happened fault (work.short old) (work.short new) ≡ false → given ≡ (work.meaning old).emit (work.state old) shown)
      → (happened fault (work.short old) (work.short new) ≡ false → fault ≡ (work.meaning old).fault (work.state old) shown)
      → (pushed : List Point) → h ≡ with_more g pushed → pushed ≡ given → Came (work.meaning first) (work.state first) (take (k + 1) view) f h (work.state new) fault
  shown-here law view k p lt at f g h before shown given is fault named after gave faults put pushed those =
      let quiet = calm (work.op old) fault (work.short old) (work.short new) plain.op named (plain.ample new still) in
      one-came (work.meaning first) law (work.state first) view k p lt at f g (work.state old) before (work.meaning old) same shown is h (work.state new) fault
      (record { after = after quiet; faults = faults quiet; gave = pushed ∙ ap (with_more g) (those ∙ gave quiet) })
