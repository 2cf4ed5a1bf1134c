-- A work that does the same with each view, up to its first fault.
use Rattle.std.proofs.Common.{◌≡◌, ℕ, ◌+◌, ◌-◌, ◌≤◌, ◌<◌, Bool, true, false, ◌||◌, cond, List, [], ◌∷◌, ◌++◌, length, map, take, Option, Some, None, is_some, refl, ap, sym, ◌∙◌, append_assoc, arith}
use Rattle.std.specs.Option.{option_map}
use Rattle.std.specs.Prelude.{◌==◌}
use Rattle.std.proofs.lemmas.Bool.{lt-ltb, le-ltb}
use Rattle.cloud_points.specs.Events.{first_fault}
use Rattle.cloud_points.specs.Flows.{Flow, all_of, points, with_view, views_upto, upto, map_views}
use Rattle.cloud_points.specs.Marks.{Mark, At, View_end, End, view_marks, piece_marks, flow_marks}
use Rattle.cloud_points.specs.Meaning.{Meaning, KeepsCutting}
use Rattle.network_theory.specs.Machine.{Machine, next, after_all, output, at_last, one_end, at_start}
use Rattle.network_theory.proofs.MachineLaws.{output-append, after_all-append, after-chunk, output-chunk, chunked, output-faulted, after-faulted}
use Rattle.stage_meanings.specs.Filters.{found, first_from, before_stop}

-- what stands before a stop, where n points stand before the flow
abbrev pub before_from : {P R : Type 0} → ℕ → Option (ℕ × R) → Flow P → Flow P
before_from n None flow = flow
before_from n (Some s) flow = upto flow (s.0 - n)

abbrev pub number_of : {R : Type 0} → Option (ℕ × R) → ℕ
number_of None = 0
number_of (Some s) = s.0

module _ {P R : Type 0} (why : P → Option R) where
  pub within : (n : ℕ) (a : List P) (k : ℕ) (r : R) → first_from why n a ≡ Some (k, r) → (n ≤ k) × (k < n + length a)
  within n [] k r e = absurd cc
  within n (p ∷ a) k r e = go (why p) (within (n + 1) a k r) e
    where
      go : (o : Option R) → (first_from why (n + 1) a ≡ Some (k, r) → (n + 1 ≤ k) × (k < n + 1 + length a)) → found n o (first_from why (n + 1) a) ≡ Some (k, r) → (n ≤ k) × (k < n + length (p ∷ a))
      go (Some q) ih e = let same : n ≡ k = ap number_of e in (omega (arith, same), omega (arith, same))
      go None ih e = let low = (ih e).0 in let high = (ih e).1 in (omega (arith, low), omega (arith, high))

  pub first-append : (n : ℕ) (a b : List P) → first_from why n (a ++ b) ≡ first_fault (first_from why n a) (first_from why (n + length a) b)
  first-append n [] b = ap (λ z. first_from why z b) (omega arith)
  first-append n (p ∷ a) b = go (why p) (first-append (n + 1) a b)
    where
      go : (o : Option R) → first_from why (n + 1) (a ++ b) ≡ first_fault (first_from why (n + 1) a) (first_from why (n + 1 + length a) b)
          → found n o (first_from why (n + 1) (a ++ b)) ≡ first_fault (found n o (first_from why (n + 1) a)) (first_from why (n + length (p ∷ a)) b)
      go (Some r) ih = refl
      go None ih = ih ∙ ap (λ z. first_fault (first_from why (n + 1) a) (first_from why z b)) (omega arith)

-- what stood before a view, as far as it tells where the next stop is
pub record Stops (H P R : Type 0) : Type 0 where
  -- how many points stood there, the next stop among these points, and what stands before what comes behind them
  pub count : H → ℕ
  pub first : H → List P → Option (ℕ × R)
  pub behind : H → List P → H
  -- a stop is one of the points, whose numbers go on; and what comes behind a stop is no matter
  pub counted : (h : H) (a : List P) → count (behind h a) ≡ count h + length a
  pub within : (h : H) (a : List P) (k : ℕ) (r : R) → first h a ≡ Some (k, r) → (count h ≤ k) × (k < count h + length a)
  pub append : (h : H) (a b : List P) → first h (a ++ b) ≡ first_fault (first h a) (first (behind h a) b)

-- a reason at each point by itself
abbrev pub each_stops : {P R : Type 0} → (P → Option R) → Stops ℕ P R
each_stops why = record {
  count = λ n. n;
  first = first_from why;
  behind = λ n a. n + length a;
  counted = λ n a. refl;
  within = within why;
  append = first-append why;
}

module _ {H P R : Type 0} (st : Stops H P R) (last : List P) (cut : Bool) where
  -- a stop behind a view
  later : (h : H) (v : List P) (vs : List (List P)) (o : Option (ℕ × R)) → st.first (st.behind h v) (all_of vs ++ last) ≡ o
      → before_from (st.count h) o (record { views = v ∷ vs; open_view = last; cut = cut }) ≡ with_view v (before_from (st.count (st.behind h v)) o (record { views = vs; open_view = last; cut = cut }))
  later h v vs None e = refl
  later h v vs (Some s) e = let low = (st.within (st.behind h v) (all_of vs ++ last) s.0 s.1 e).0 in let count = st.counted h v in
      let n : ℕ = st.count h in
      let far : length v ≤ s.0 - n = omega (arith, low, count) in
      let less : s.0 - n - length v ≡ s.0 - st.count (st.behind h v) = omega (arith, count) in
      ap (λ b. cond b (record { views = []; open_view = take (s.0 - n) v; cut = true }) (with_view v (views_upto vs last (s.0 - n - length v)))) (le-ltb (s.0 - n) (length v) far)
      ∙ ap (λ k. with_view v (views_upto vs last k)) less

  -- a stop in the first view
  here : (h : H) (v : List P) (vs : List (List P)) (k : ℕ) (r : R) → st.first h v ≡ Some (k, r)
      → before_from (st.count h) (Some (k, r)) (record { views = v ∷ vs; open_view = last; cut = cut }) ≡ record { views = []; open_view = take (k - st.count h) v; cut = true }
  here h v vs k r e = let high = (st.within h v k r e).1 in let low = (st.within h v k r e).0 in
      let n : ℕ = st.count h in
      let near : k - n < length v = omega (arith, high, low) in
      ap (λ b. cond b (record { views = []; open_view = take (k - n) v; cut = true }) (with_view v (views_upto vs last (k - n - length v)))) (lt-ltb (k - n) (length v) near)

  all-first : (h : H) (v : List P) (vs : List (List P)) (o : Option (ℕ × R)) → st.first h v ≡ o
      → st.first h ((v ++ all_of vs) ++ last) ≡ first_fault o (st.first (st.behind h v) (all_of vs ++ last))
  all-first h v vs o e = ap (st.first h) (append_assoc v (all_of vs) last) ∙ st.append h v (all_of vs ++ last) ∙ ap (λ z. first_fault z (st.first (st.behind h v) (all_of vs ++ last))) e

or-false : (b : Bool) → b || false ≡ b
or-false true = refl
or-false false = refl

or-true : (b : Bool) → b || true ≡ true
or-true true = refl
or-true false = refl

marks-with_view : {P : Type 0} (w : List P) (f : Flow P) → flow_marks (with_view w f) ≡ map At w ++ View_end ∷ flow_marks f
marks-with_view w f = ap (λ z. z ++ End f.cut ∷ []) (append_assoc (map At w) (View_end ∷ view_marks f.views) (map At f.open_view))
    ∙ append_assoc (map At w) (View_end ∷ piece_marks f) (End f.cut ∷ [])

-- a faulted node drops what comes before the end, and keeps its fault
dropped : {S P F : Type 0} (m : Meaning S P F) (c : Machine S F) (vs : List (List P)) (ms : List (Mark P)) → is_some c.fault ≡ true → output m c (view_marks vs ++ ms) ≡ output m c ms
dropped m c [] ms h = refl
dropped m c (v ∷ vs) ms h = ap (output m c) (append_assoc (map At v) (View_end ∷ view_marks vs) ms)
    ∙ output-append m c (map At v) (View_end ∷ (view_marks vs ++ ms))
    ∙ ap (λ z. z ++ output m (after_all m c (map At v)) (View_end ∷ (view_marks vs ++ ms))) (output-faulted m c v h)
    ∙ ap (λ d. output m d (View_end ∷ (view_marks vs ++ ms))) (after-faulted m c v h)
    ∙ view_end (is_some c.fault) h
    ∙ dropped m c vs ms h
  where
    view_end : (b : Bool) → b ≡ true → cond b [] (cond ((m.at_view c.state).1) (View_end ∷ []) []) ++ output m (cond b c (record c { state = (m.at_view c.state).0 })) (view_marks vs ++ ms) ≡ output m c (view_marks vs ++ ms)
    view_end true e = refl
    view_end false e = absurd cc

keeps_fault : {S P F : Type 0} (m : Meaning S P F) (c : Machine S F) (f : F) (ms : List (Mark P)) → c.fault ≡ Some f → (after_all m c ms).fault ≡ Some f
keeps_fault m c f [] h = h
keeps_fault m c f (At p ∷ ms) h = keeps_fault m (next m c (At p)) f ms (go (is_some c.fault) (ap is_some h))
  where
    go : (b : Bool) → b ≡ true → (cond b c (record c { state = m.after c.state (p ∷ []); fault = m.fault c.state (p ∷ []) })).fault ≡ Some f
    go true e = h
    go false e = absurd cc
keeps_fault m c f (View_end ∷ ms) h = keeps_fault m (next m c View_end) f ms (go (is_some c.fault))
  where
    go : (b : Bool) → (cond b c (record c { state = (m.at_view c.state).0 })).fault ≡ Some f
    go true = h
    go false = h
keeps_fault m c f (End cut ∷ ms) h = keeps_fault m (next m c (End cut)) f ms (go (c.ended + 1 == c.inputs))
  where
    go : (b : Bool) → (cond b (at_last m (one_end c cut)) (one_end c cut)).fault ≡ Some f
    go true = h
    go false = h

-- what it does from the beginning of a view, behind what stood before, by what it gives of a whole view and where it stops
pub record StreamsBy {S P F H R : Type 0} (m : Meaning S P F) (st : Stops H P R) (told : ℕ × R → F) (start : H → S) (g : List P → List P) : Type 0 where
  pub fault : (h : H) (v : List P) → m.fault (start h) v ≡ option_map told (st.first h v)
  pub gives : (h : H) (v : List P) → st.first h v ≡ None → m.emit (start h) v ≡ g v
  pub stops : (h : H) (v : List P) (k : ℕ) (r : R) → st.first h v ≡ Some (k, r) → m.emit (start h) v ≡ g (take (k - st.count h) v)
  pub anew : (h : H) (v : List P) → st.first h v ≡ None → m.at_view (m.after (start h) v) ≡ (start (st.behind h v), true)
  pub ends : (h : H) (v : List P) (cut : Bool) → (m.at_end (m.after (start h) v) cut).1 ≡ false

module _ {S P F H R : Type 0} (m : Meaning S P F) (law : KeepsCutting m) (st : Stops H P R) (told : ℕ × R → F) (start : H → S) (g : List P → List P) (by : StreamsBy m st told start g) where
  abbrev pub at : H → List P → Machine S F
  at h v = chunked m (at_start 1 (start h)) v

  clear : (h : H) (v : List P) → st.first h v ≡ None → m.fault (start h) v ≡ None
  clear h v e = by.fault h v ∙ ap (option_map told) e

  faulty : (h : H) (v : List P) (s : ℕ × R) → st.first h v ≡ Some s → m.fault (start h) v ≡ Some (told s)
  faulty h v s e = by.fault h v ∙ ap (option_map told) e

  points-then : (h : H) (v : List P) (ms : List (Mark P)) → output m (at_start 1 (start h)) (map At v ++ ms) ≡ map At (m.emit (start h) v) ++ output m (at h v) ms
  points-then h v ms = output-append m (at_start 1 (start h)) (map At v) ms
      ∙ ap (λ z. z ++ output m (after_all m (at_start 1 (start h)) (map At v)) ms) (output-chunk m law (at_start 1 (start h)) v refl)
      ∙ ap (λ d. map At (m.emit (start h) v) ++ output m d ms) (after-chunk m law (at_start 1 (start h)) v refl)

  pub after-points : (h : H) (v : List P) (ms : List (Mark P)) → after_all m (at_start 1 (start h)) (map At v ++ ms) ≡ after_all m (at h v) ms
  after-points h v ms = after_all-append m (at_start 1 (start h)) (map At v) ms ∙ ap (λ d. after_all m d ms) (after-chunk m law (at_start 1 (start h)) v refl)

  -- a view's end, where there was no fault
  view-gives : (h : H) (v : List P) (ms : List (Mark P)) → st.first h v ≡ None → output m (at h v) (View_end ∷ ms) ≡ View_end ∷ output m (at_start 1 (start (st.behind h v))) ms
  view-gives h v ms e = rw (clear h v e, by.anew h v e) refl

  pub view-leaves : (h : H) (v : List P) → st.first h v ≡ None → next m (at h v) View_end ≡ at_start 1 (start (st.behind h v))
  view-leaves h v e = rw (clear h v e, by.anew h v e) refl

  ending : (h : H) (v : List P) (cut b : Bool) → is_some (m.fault (start h) v) ≡ b → output m (at h v) (End cut ∷ []) ≡ End (cut || b) ∷ []
  ending h v true b e = rw (by.ends h v true) refl
  ending h v false b e = rw (e, by.ends h v b) refl

  module _ (last : List P) (cut : Bool) where
    abbrev tail : List (Mark P)
    tail = map At last ++ End cut ∷ []

    abbrev flow : List (List P) → Flow P
    flow vs = record { views = vs; open_view = last; cut = cut }

    abbrev shown : H → Option (ℕ × R) → Flow P → List (Mark P)
    shown h o f = flow_marks (map_views g (before_from (st.count h) o f))

    open_end : (h : H) (o : Option (ℕ × R)) → st.first h last ≡ o → map At (m.emit (start h) last) ++ output m (at h last) (End cut ∷ []) ≡ shown h o (flow [])
    open_end h None e = ap (λ z. map At (m.emit (start h) last) ++ z) (ending h last cut false (ap is_some (clear h last e)) ∙ ap (λ b. End b ∷ []) (or-false cut))
        ∙ ap (λ z. map At z ++ End cut ∷ []) (by.gives h last e)
    open_end h (Some s) e = ap (λ z. map At (m.emit (start h) last) ++ z) (ending h last cut true (ap is_some (faulty h last s e)) ∙ ap (λ b. End b ∷ []) (or-true cut))
        ∙ ap (λ z. map At z ++ End true ∷ []) (by.stops h last s.0 s.1 e)

    -- behind its fault it gives only its end
    faulted-gives : (h : H) (v : List P) (vs : List (List P)) → is_some (m.fault (start h) v) ≡ true → output m (at h v) (view_marks vs ++ tail) ≡ End true ∷ []
    faulted-gives h v vs f = dropped m (at h v) vs tail f
        ∙ output-append m (at h v) (map At last) (End cut ∷ [])
        ∙ ap (λ z. z ++ output m (after_all m (at h v) (map At last)) (End cut ∷ [])) (output-faulted m (at h v) last f)
        ∙ ap (λ d. output m d (End cut ∷ [])) (after-faulted m (at h v) last f)
        ∙ ending h v cut true f ∙ ap (λ b. End b ∷ []) (or-true cut)

    rest : (h : H) (v : List P) (vs : List (List P)) (o : Option (ℕ × R)) → st.first h v ≡ o
        → ((k : H) → output m (at_start 1 (start k)) (view_marks vs ++ tail) ≡ shown k (st.first k (points (flow vs))) (flow vs))
        → map At (m.emit (start h) v) ++ output m (at h v) (View_end ∷ (view_marks vs ++ tail)) ≡ shown h (st.first h (points (flow (v ∷ vs)))) (flow (v ∷ vs))
    rest h v vs None e ih =
        ap (λ z. map At (m.emit (start h) v) ++ z) (view-gives h v (view_marks vs ++ tail) e ∙ ap (λ z. View_end ∷ z) (ih (st.behind h v)))
        ∙ ap (λ z. map At z ++ View_end ∷ shown (st.behind h v) (st.first (st.behind h v) (points (flow vs))) (flow vs)) (by.gives h v e)
        ∙ sym (marks-with_view (g v) (map_views g (before_from (st.count (st.behind h v)) (st.first (st.behind h v) (points (flow vs))) (flow vs))))
        ∙ ap (λ z. flow_marks (map_views g z)) (sym (later st last cut h v vs (st.first (st.behind h v) (all_of vs ++ last)) refl))
        ∙ ap (λ z. shown h z (flow (v ∷ vs))) (sym (all-first st last cut h v vs None e))
    rest h v vs (Some s) e ih =
        ap (λ z. map At (m.emit (start h) v) ++ z) (view_end (is_some (m.fault (start h) v)) (ap is_some (faulty h v s e)) ∙ faulted-gives h v vs (ap is_some (faulty h v s e)))
        ∙ ap (λ z. map At z ++ End true ∷ []) (by.stops h v s.0 s.1 e)
        ∙ ap (λ z. flow_marks (map_views g z)) (sym (here st last cut h v vs s.0 s.1 e))
        ∙ ap (λ z. shown h z (flow (v ∷ vs))) (sym (all-first st last cut h v vs (Some s) e))
      where
        view_end : (b : Bool) → b ≡ true → cond b [] (cond ((m.at_view (m.after (start h) v)).1) (View_end ∷ []) []) ++ output m (cond b (at h v) (record (at h v) { state = (m.at_view (m.after (start h) v)).0 })) (view_marks vs ++ tail) ≡ output m (at h v) (view_marks vs ++ tail)
        view_end true e = refl
        view_end false e = absurd cc

    flows : (vs : List (List P)) (h : H) → output m (at_start 1 (start h)) (view_marks vs ++ tail) ≡ shown h (st.first h (points (flow vs))) (flow vs)
    flows [] h = points-then h last (End cut ∷ []) ∙ open_end h (st.first h last) refl
    flows (v ∷ vs) h = ap (output m (at_start 1 (start h))) (append_assoc (map At v) (View_end ∷ view_marks vs) tail)
        ∙ points-then h v (View_end ∷ (view_marks vs ++ tail))
        ∙ rest h v vs (st.first h v) refl (flows vs)

    faults : (vs : List (List P)) (h : H) → (after_all m (at_start 1 (start h)) (view_marks vs ++ tail)).fault ≡ option_map told (st.first h (all_of vs ++ last))
    faults [] h = ap (λ d. d.fault) (after-points h last (End cut ∷ [])) ∙ by.fault h last
    faults (v ∷ vs) h = ap (λ z. (after_all m (at_start 1 (start h)) z).fault) (append_assoc (map At v) (View_end ∷ view_marks vs) tail)
        ∙ ap (λ d. d.fault) (after-points h v (View_end ∷ (view_marks vs ++ tail)))
        ∙ go (st.first h v) refl (faults vs)
        ∙ ap (option_map told) (sym (all-first st last cut h v vs (st.first h v) refl))
      where
        go : (o : Option (ℕ × R)) → st.first h v ≡ o → ((k : H) → (after_all m (at_start 1 (start k)) (view_marks vs ++ tail)).fault ≡ option_map told (st.first k (all_of vs ++ last)))
            → (after_all m (at h v) (View_end ∷ (view_marks vs ++ tail))).fault ≡ option_map told (first_fault o (st.first (st.behind h v) (all_of vs ++ last)))
        go None e ih = ap (λ d. (after_all m d (view_marks vs ++ tail)).fault) (view-leaves h v e) ∙ ih (st.behind h v)
        go (Some s) e ih = keeps_fault m (at h v) (told s) (View_end ∷ (view_marks vs ++ tail)) (faulty h v s e)

  from_zero : (n : ℕ) → n ≡ 0 → (o : Option (ℕ × R)) (f : Flow P) → before_from n o f ≡ before_stop o f
  from_zero n e None f = refl
  from_zero n e (Some s) f = ap (upto f) (let z : s.0 - n ≡ s.0 = omega (arith, e) in z)

  -- what a node with this work gives for a flow, and its fault
  pub streams_give : (h : H) → st.count h ≡ 0 → (f : Flow P) → output m (at_start 1 (start h)) (flow_marks f) ≡ flow_marks (map_views g (before_stop (st.first h (points f)) f))
  streams_give h e f = ap (output m (at_start 1 (start h))) (append_assoc (view_marks f.views) (map At f.open_view) (End f.cut ∷ []))
      ∙ flows f.open_view f.cut f.views h
      ∙ ap (λ z. flow_marks (map_views g z)) (from_zero (st.count h) e (st.first h (points f)) f)

  pub streams_fault : (h : H) (f : Flow P) → (after_all m (at_start 1 (start h)) (flow_marks f)).fault ≡ option_map told (st.first h (points f))
  streams_fault h f = ap (λ z. (after_all m (at_start 1 (start h)) z).fault) (append_assoc (view_marks f.views) (map At f.open_view) (End f.cut ∷ []))
      ∙ faults f.open_view f.cut f.views h

map_same : {P : Type 0} (vs : List (List P)) → map (λ v. v) vs ≡ vs
map_same [] = refl
map_same (v ∷ vs) = ap (λ z. v ∷ z) (map_same vs)

-- a flow of the same views
pub views_same : {P : Type 0} (f : Flow P) → map_views (λ v. v) f ≡ f
views_same f = ap (λ vs. record f { views = vs }) (map_same f.views)

-- without a reason at any point it has no fault
abbrev never : {P : Type 0} → P → Option ⊥
never p = None

none_found : {P : Type 0} (n : ℕ) (v : List P) → first_from never n v ≡ None
none_found n [] = refl
none_found n (p ∷ v) = none_found (n + 1) v

-- a work that does the same to each view, and gives its end on
module _ {S P F : Type 0} (m : Meaning S P F) (law : KeepsCutting m) (s : S) (g : List P → List P)
    (sound : (v : List P) → m.fault s v ≡ None) (gives_it : (v : List P) → m.emit s v ≡ g v)
    (anew : (v : List P) → m.at_view (m.after s v) ≡ (s, true)) (ends : (v : List P) (cut : Bool) → (m.at_end (m.after s v) cut).1 ≡ false) where
  no_told : ℕ × ⊥ → F
  no_told r = absurd r.1

  by : StreamsBy m (each_stops never) no_told (λ n. s) g
  by = record {
    fault = λ n v. sound v ∙ sym (ap (option_map no_told) (none_found n v));
    gives = λ n v e. gives_it v;
    stops = λ n v k r e. absurd r;
    anew = λ n v e. anew v;
    ends = λ n v cut. ends v cut;
  }

  pub stream_gives : (f : Flow P) → output m (at_start 1 s) (flow_marks f) ≡ flow_marks (map_views g f)
  stream_gives f = streams_give m law (each_stops never) no_told (λ n. s) g by 0 refl f ∙ ap (λ o. flow_marks (map_views g (before_stop o f))) (none_found 0 (points f))

  pub stream_sound : (f : Flow P) → (after_all m (at_start 1 s) (flow_marks f)).fault ≡ None
  stream_sound f = streams_fault m law (each_stops never) no_told (λ n. s) g by 0 f ∙ ap (option_map no_told) (none_found 0 (points f))
