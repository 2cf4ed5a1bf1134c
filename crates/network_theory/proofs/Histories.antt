-- What was given to an edge and taken from it keeps the rule of a queue.
use Rattle.std.proofs.Common.{◌≡◌, ◌≢◌, ℕ, zero, suc, ◌+◌, ◌≤◌, ◌<◌, Bool, true, false, cond, inl, inr, List, [], ◌∷◌, ◌++◌, length, drop, take, Option, Some, None, refl, ap, subst, sym, ◌∙◌, append_assoc, append-nil, arith, length-append}
use Rattle.std.specs.Prelude.{◌==◌, ◌||◌}
use Rattle.std.proofs.lemmas.Bool.{eq-eqb}
use Rattle.std.proofs.lemmas.Bool.Decides.{eqb_tells}
use Rattle.cloud_points.specs.Marks.{Item, is_end}
use Rattle.cloud_points.specs.Queue.{up_to_limit, IsNumbered, EndsOnlyLast, has_end}
use Rattle.network_theory.specs.Net.{Node, Net, Choice, Outcome, Turned, Gave, takes, turn, turn_at, with_turn, step, open_ins, current_edge, is_current, numbers_above, numbers_left}
use Rattle.network_theory.specs.Shape.{Each, IsTree, ins_of}
use Rattle.network_theory.specs.Sound.{IsSound}
use Rattle.network_theory.specs.Opening.{IsOpening}
use Rattle.network_theory.specs.Schedule.{run_schedule, IsSchedule}
use Rattle.network_theory.specs.History.{numbered, number_of, ends_all, held, gave, took, gave_in_step, took_in_step, given_by, taken_from}
use Rattle.network_theory.proofs.Keeps.{conflict}
use Rattle.network_theory.proofs.Run.{tree-step}
use Rattle.network_theory.proofs.Safe.{sound-step}
use Rattle.network_theory.proofs.Hands.{GivesNone, GivesOne, Hands, TakesNone, TakesOne, turn-hands}

-- lists of sent items that grow by one
numbered-last : {P : Type 0} (ns : List ℕ) (is : List (Item P)) (n : ℕ) (i : Item P) → length ns ≡ length is → numbered (ns ++ n ∷ []) (is ++ i ∷ []) ≡ numbered ns is ++ (n, i) ∷ []
numbered-last [] [] n i h = refl
numbered-last [] (j ∷ is) n i h = absurd (omega arith)
numbered-last (m ∷ ns) [] n i h = absurd (omega arith)
numbered-last (m ∷ ns) (j ∷ is) n i h = ap (λ z. (m, j) ∷ z) (numbered-last ns is n i (omega arith))

pub length-numbered : {P : Type 0} (ns : List ℕ) (is : List (Item P)) → length ns ≡ length is → length (numbered ns is) ≡ length is
length-numbered [] [] h = refl
length-numbered [] (j ∷ is) h = absurd (omega arith)
length-numbered (m ∷ ns) [] h = absurd (omega arith)
length-numbered (m ∷ ns) (j ∷ is) h = let r = length-numbered ns is (omega arith) in omega (arith, r)

module _ {T : Type 0} (number : T → ℕ) (ends : T → Bool) where
  IsNumbered-last : (k : ℕ) (xs : List T) (x : T) → IsNumbered number ends k xs → number x ≡ up_to_limit (k + length xs) → IsNumbered number ends k (xs ++ x ∷ [])
  IsNumbered-last k [] x h e = (e ∙ ap up_to_limit (omega arith), tt)
  IsNumbered-last k (y ∷ xs) x h e = (h.0, IsNumbered-last (k + 1) xs x h.1 (e ∙ ap up_to_limit (omega arith)))

  EndsOnlyLast-last : (xs : List T) (x : T) → EndsOnlyLast number ends xs → has_end number ends xs ≡ false → EndsOnlyLast number ends (xs ++ x ∷ [])
  EndsOnlyLast-last [] x h e = ((λ _. refl), tt)
  EndsOnlyLast-last (y ∷ xs) x h e = ((λ z. conflict (ends y) z (left (ends y) (has_end number ends xs) e)), EndsOnlyLast-last xs x h.1 (right (ends y) (has_end number ends xs) e))
    where
      left : (a b : Bool) → a || b ≡ false → a ≡ false
      left true b z = z
      left false b z = refl

      right : (a b : Bool) → a || b ≡ false → b ≡ false
      right true b z = absurd (let q : true ≡ false = z in cc)
      right false b z = z

  has_end-last : (xs : List T) (x : T) → has_end number ends (xs ++ x ∷ []) ≡ has_end number ends xs || ends x
  has_end-last [] x = or_false (ends x)
    where
      or_false : (b : Bool) → b || false ≡ b
      or_false true = refl
      or_false false = refl
  has_end-last (y ∷ xs) x = ap (λ z. ends y || z) (has_end-last xs x) ∙ or_assoc (ends y) (has_end number ends xs) (ends x)
    where
      or_assoc : (a b c : Bool) → a || (b || c) ≡ (a || b) || c
      or_assoc true b c = refl
      or_assoc false b c = refl

-- what was sent over each edge and got from it so far
pub record InOrder {S P F : Type 0} (net : Net S P F) (root cap : ℕ) (sent got : ℕ → List (ℕ × Item P)) : Type 0 where
  pub level : (k : ℕ) → k ≢ root → length (net.numbers k) ≡ length (net.edge k)
  pub order : (k : ℕ) → k ≢ root → got k ++ held net k ≡ sent k
  pub room : (k : ℕ) → length (net.edge k) ≤ cap
  pub numbers : (k : ℕ) → IsNumbered number_of ends_all 0 (sent k)
  pub last : (k : ℕ) → EndsOnlyLast number_of ends_all (sent k)
  pub count : (k : ℕ) → k ≤ root → (net.node k).sent ≡ up_to_limit (length (sent k))
  pub done : (k : ℕ) → k ≤ root → (net.node k).done ≡ has_end number_of ends_all (sent k)

Each-drop : {A : Type 0} (P : A → Type 0) (n : ℕ) (xs : List A) → Each P xs → Each P (drop n xs)
Each-drop P zero xs h = h
Each-drop P (suc n) [] h = h
Each-drop P (suc n) (x ∷ xs) h = Each-drop P n xs h.1

ne-eqb : (a b : ℕ) → a ≢ b → (a == b) ≡ false
ne-eqb a b h = elim (eqb_tells a b) [ inl p ↦ absurd (h p.1) | inr p ↦ p.0 ]

not_among : (j i : ℕ) (os : List ℕ) → Each (λ c. c < i) os → i ≤ j → is_current j os ≡ false
not_among j i [] h b = refl
not_among j i (c ∷ cs) h b = ne-eqb j c (λ e. let l = h.0 in omega arith)

gave_one : {P : Type 0} (t : Turned) (hand : Option (Item P)) (k : ℕ) (i : Item P) → t ≡ Gave → hand ≡ Some i → gave t hand k ≡ (k, i) ∷ []
gave_one t hand k i e h = rw (e, h) refl

above_gave : (root : Bool) (t : Turned) (ns : List ℕ) (k : ℕ) → t ≡ Gave → root ≡ false → numbers_above root t ns k ≡ ns ++ k ∷ []
above_gave root t ns k e r = rw (e, r) refl

length-cons : {A : Type 0} (xs : List A) (x : A) → length (xs ++ x ∷ []) ≡ length xs + 1
length-cons xs x = let o : length (x ∷ []) ≡ 1 = refl in omega (arith, length-append xs (x ∷ []), o)

limits : (n m l : ℕ) → n ≡ up_to_limit m → l ≡ m + 1 → up_to_limit (n + 1) ≡ up_to_limit l
limits n m l e h = omega (arith, e, h)

-- of edge k before and after a turn of node i, by the place of k
module _ {P : Type 0} (sent got : List (ℕ × Item P)) (ns : List ℕ) (es : List (Item P)) (level : length ns ≡ length es) (order : got ++ numbered ns es ≡ sent) where
  order-given : (n : ℕ) (i : Item P) → got ++ numbered (ns ++ n ∷ []) (es ++ i ∷ []) ≡ sent ++ (n, i) ∷ []
  order-given n i = ap (λ z. got ++ z) (numbered-last ns es n i level) ∙ sym (append_assoc got (numbered ns es) ((n, i) ∷ [])) ∙ ap (λ z. z ++ (n, i) ∷ []) order

  first-of : (xs : List ℕ) → ns ≡ xs → (i : Item P) (is : List (Item P)) → es ≡ i ∷ is → (length (drop 1 ns) ≡ length is) × ((got ++ take 1 (numbered ns es)) ++ numbered (drop 1 ns) is ≡ sent)
  first-of [] e i is h = absurd (let a : length ns ≡ 0 = ap length e in let b : length es ≡ length (i ∷ is) = ap length h in omega (arith, a, b))
  first-of (x ∷ xs) e i is h = (
    (let a : length ns ≡ length (x ∷ xs) = ap length e in let b : length es ≡ length (i ∷ is) = ap length h in rw e (omega (arith, a, b, level))),
    rw (e, h) (append_assoc got ((x, i) ∷ []) (numbered xs is) ∙ sym (ap (λ z. got ++ z) (ap (λ a. numbered a es) e ∙ ap (numbered (x ∷ xs)) h)) ∙ order),
  )

module _ {S P F : Type 0} (net : Net S P F) (root cap : ℕ) (tree : IsTree (ins_of net) root) (sound : IsSound net) (sent got : ℕ → List (ℕ × Item P)) (ok : InOrder net root cap sent got) (i : ℕ) (inside : i ≤ root) (o : Outcome S P F) (hands : Hands (i == root) cap (net.node i) (current_edge net.edge (open_ins (net.node i))) (net.edge i) o) where
  abbrev new : Net S P F
  new = with_turn net root i o

  abbrev given_now : ℕ → List (ℕ × Item P)
  given_now k = cond (k == i) (gave o.turned (net.node i).hand (net.node i).sent) []

  abbrev taken_now : ℕ → List (ℕ × Item P)
  taken_now k = cond (is_current k (open_ins (net.node i))) (took o.turned (held net k)) []

  abbrev sent' : ℕ → List (ℕ × Item P)
  sent' k = sent k ++ given_now k

  abbrev got' : ℕ → List (ℕ × Item P)
  got' k = got k ++ taken_now k

  opens_below : Each (λ j. j < i) (open_ins (net.node i))
  opens_below = Each-drop _ (net.node i).machine.ended _ (tree.below i)

  -- at node i itself
  record Here : Type 0 where
    level : i ≢ root → length (new.numbers i) ≡ length (new.edge i)
    order : i ≢ root → got' i ++ held new i ≡ sent' i
    room : length (new.edge i) ≤ cap
    numbers : IsNumbered number_of ends_all 0 (sent' i)
    last : EndsOnlyLast number_of ends_all (sent' i)
    count : (new.node i).sent ≡ up_to_limit (length (sent' i))
    done : (new.node i).done ≡ has_end number_of ends_all (sent' i)

  here-is : (i == i) ≡ true
  here-is = eq-eqb i i refl

  not-mine : is_current i (open_ins (net.node i)) ≡ false
  not-mine = not_among i i (open_ins (net.node i)) opens_below (omega arith)

  got-here : got' i ≡ got i
  got-here = rw not-mine (append-nil (got i))

  sent-here : sent' i ≡ sent i ++ gave o.turned (net.node i).hand (net.node i).sent
  sent-here = rw here-is refl

  edge-here : new.edge i ≡ o.out
  edge-here = rw here-is refl

  node-here : new.node i ≡ o.node
  node-here = rw here-is refl

  numbers-here : new.numbers i ≡ numbers_above (i == root) o.turned (net.numbers i) (net.node i).sent
  numbers-here = rw here-is refl

  held-here : held new i ≡ numbered (numbers_above (i == root) o.turned (net.numbers i) (net.node i).sent) o.out
  held-here = ap (λ ns. numbered ns (new.edge i)) numbers-here ∙ ap (numbered (numbers_above (i == root) o.turned (net.numbers i) (net.node i).sent)) edge-here

  here : Here
  here = elim hands.gives [ inl g ↦ none g | inr g ↦ one g ]
    where
      none : GivesNone (i == root) (net.node i) (net.edge i) o → Here
      none g =
          let s : sent' i ≡ sent i = sent-here ∙ ap (λ z. sent i ++ z) g.nothing ∙ append-nil (sent i) in
          let e : new.edge i ≡ net.edge i = edge-here ∙ g.out in
          let n : new.numbers i ≡ net.numbers i = numbers-here ∙ g.numbers (net.numbers i) (net.node i).sent in
          record {
            level = λ r. ap length n ∙ ok.level i r ∙ sym (ap length e);
            order = λ r. ap (λ z. z ++ held new i) got-here ∙ ap (λ z. got i ++ z) (ap (λ ns. numbered ns (new.edge i)) n ∙ ap (numbered (net.numbers i)) e) ∙ ok.order i r ∙ sym s;
            room = let l = ap length e in let m = ok.room i in omega (arith, l, m);
            numbers = subst (IsNumbered number_of ends_all 0) (sym s) (ok.numbers i);
            last = subst (EndsOnlyLast number_of ends_all) (sym s) (ok.last i);
            count = ap (λ (m : Node S P F). m.sent) node-here ∙ g.sent ∙ ok.count i inside ∙ ap (λ xs. up_to_limit (length xs)) (sym s);
            done = ap (λ (m : Node S P F). m.done) node-here ∙ g.done ∙ ok.done i inside ∙ ap (has_end number_of ends_all) (sym s);
          }

      one : GivesOne (i == root) cap (net.node i) (net.edge i) o → Here
      one g =
          let s : sent' i ≡ sent i ++ ((net.node i).sent, g.item) ∷ [] = sent-here ∙ ap (λ z. sent i ++ z) (gave_one o.turned (net.node i).hand (net.node i).sent g.item g.turned g.hand) in
          let l = length-cons (sent i) ((net.node i).sent, g.item) in
          -- a done node has nothing in its hand
          let open_still : has_end number_of ends_all (sent i) ≡ false = not_done (net.node i).done refl g.hand in
          record {
            level = λ r. let f = ne-eqb i root r in
                ap length (numbers-here ∙ above_gave (i == root) o.turned (net.numbers i) (net.node i).sent g.turned f)
                ∙ length-cons (net.numbers i) (net.node i).sent ∙ ap (λ z. z + 1) (ok.level i r) ∙ sym (length-cons (net.edge i) g.item) ∙ sym (ap length (edge-here ∙ g.out f));
            order = λ r. let f = ne-eqb i root r in
                ap (λ z. z ++ held new i) got-here
                ∙ ap (λ z. got i ++ z) (held-here ∙ ap (λ ns. numbered ns o.out) (above_gave (i == root) o.turned (net.numbers i) (net.node i).sent g.turned f) ∙ ap (numbered (net.numbers i ++ (net.node i).sent ∷ [])) (g.out f))
                ∙ order-given (sent i) (got i) (net.numbers i) (net.edge i) (ok.level i r) (ok.order i r) (net.node i).sent g.item
                ∙ sym s;
            room = by_root (i == root) refl g;
            numbers = subst (IsNumbered number_of ends_all 0) (sym s) (IsNumbered-last number_of ends_all 0 (sent i) ((net.node i).sent, g.item) (ok.numbers i) (ok.count i inside ∙ ap up_to_limit (omega arith)));
            last = subst (EndsOnlyLast number_of ends_all) (sym s) (EndsOnlyLast-last number_of ends_all (sent i) ((net.node i).sent, g.item) (ok.last i) open_still);
            count = ap (λ (m : Node S P F). m.sent) node-here ∙ g.sent ∙ limits (net.node i).sent (length (sent i)) (length (sent' i)) (ok.count i inside) (ap length s ∙ l);
            done = ap (λ (m : Node S P F). m.done) node-here ∙ g.done ∙ ap (λ z. z || is_end g.item) (ok.done i inside) ∙ sym (has_end-last number_of ends_all (sent i) ((net.node i).sent, g.item)) ∙ ap (has_end number_of ends_all) (sym s);
          }
        where
          not_done : (b : Bool) → (net.node i).done ≡ b → (net.node i).hand ≡ Some g.item → has_end number_of ends_all (sent i) ≡ false
          not_done true d h = absurd (let z : Some g.item ≡ None = sym h ∙ (sound.nodes i).rests d in cc)
          not_done false d h = sym (ok.done i inside) ∙ d

          by_root : (r : Bool) → (i == root) ≡ r → GivesOne r cap (net.node i) (net.edge i) o → length (new.edge i) ≤ cap
          by_root true e q = let l : length (new.edge i) ≡ length (net.edge i) = ap length (edge-here ∙ q.laid refl) in let m = ok.room i in omega (arith, l, m)
          by_root false e q = let l : length (new.edge i) ≡ length (net.edge i ++ q.item ∷ []) = ap length (edge-here ∙ q.out refl) in let k = length-cons (net.edge i) q.item in let m = q.room refl in omega (arith, l, k, m)

  -- at another node: what is above it
  record Away (k : ℕ) : Type 0 where
    level : k ≢ root → length (new.numbers k) ≡ length (new.edge k)
    order : k ≢ root → got' k ++ held new k ≡ sent' k
    room : length (new.edge k) ≤ cap

  sent-away : (k : ℕ) → (k == i) ≡ false → sent' k ≡ sent k
  sent-away k h = rw h (append-nil (sent k))

  untouched : (k : ℕ) → (k == i) ≡ false → (es : List (Item P)) (ns : List ℕ) (now : List (ℕ × Item P)) → new.edge k ≡ es → new.numbers k ≡ ns → taken_now k ≡ now → length es ≤ cap → (k ≢ root → length ns ≡ length es) → (k ≢ root → (got k ++ now) ++ numbered ns es ≡ sent k) → Away k
  untouched k h es ns now e n t room level order = record {
    level = λ r. ap length n ∙ level r ∙ sym (ap length e);
    order = λ r. ap (λ z. (got k ++ z) ++ held new k) t ∙ ap (λ z. (got k ++ now) ++ z) (ap (λ a. numbered a (new.edge k)) n ∙ ap (numbered ns) e) ∙ order r ∙ sym (sent-away k h);
    room = let l = ap length e in omega (arith, l);
  }

  stays-away : (k : ℕ) → (k == i) ≡ false → is_current k (open_ins (net.node i)) ≡ false → Away k
  stays-away k h c = untouched k h (net.edge k) (net.numbers k) [] (rw (h, c)) (rw (h, c)) (rw c) (ok.room k) (ok.level k)
      (λ r. ap (λ z. z ++ held net k) (append-nil (got k)) ∙ ok.order k r)

  current-away : (c : ℕ) (cs : List ℕ) → open_ins (net.node i) ≡ c ∷ cs → (c == i) ≡ false → Away c
  current-away c cs q h = elim hands.takes [ inl t ↦ none t | inr t ↦ one t ]
    where
      is-current : is_current c (open_ins (net.node i)) ≡ true
      is-current = rw q (eq-eqb c c refl)

      edge-is : new.edge c ≡ o.input
      edge-is = rw (h, is-current)

      numbers-is : new.numbers c ≡ numbers_left o.turned (net.numbers c)
      numbers-is = rw (h, is-current)

      taken-is : taken_now c ≡ took o.turned (held net c)
      taken-is = rw is-current

      before-is : current_edge net.edge (open_ins (net.node i)) ≡ net.edge c
      before-is = ap (current_edge net.edge) q

      none : TakesNone (current_edge net.edge (open_ins (net.node i))) o → Away c
      none t = untouched c h (net.edge c) (net.numbers c) [] (edge-is ∙ t.input ∙ before-is) (numbers-is ∙ t.numbers (net.numbers c)) (taken-is ∙ t.nothing (held net c)) (ok.room c) (ok.level c)
          (λ r. ap (λ z. z ++ held net c) (append-nil (got c)) ∙ ok.order c r)

      one : TakesOne (current_edge net.edge (open_ins (net.node i))) o → Away c
      one t =
          let f : net.edge c ≡ t.item ∷ o.input = sym before-is ∙ t.first in
          let room : length o.input ≤ cap = (let l : length (net.edge c) ≡ length (t.item ∷ o.input) = ap length f in let m = ok.room c in omega (arith, l, m)) in
          untouched c h o.input (drop 1 (net.numbers c)) (take 1 (held net c)) edge-is (numbers-is ∙ ap (λ x. numbers_left x (net.numbers c)) t.turned) (taken-is ∙ ap (λ x. took x (held net c)) t.turned) room
          (λ r. (first-of (sent c) (got c) (net.numbers c) (net.edge c) (ok.level c r) (ok.order c r) (net.numbers c) refl t.item o.input f).0)
          (λ r. (first-of (sent c) (got c) (net.numbers c) (net.edge c) (ok.level c r) (ok.order c r) (net.numbers c) refl t.item o.input f).1)

  away : (k : ℕ) → (k == i) ≡ false → (os : List ℕ) → open_ins (net.node i) ≡ os → Away k
  away k h [] q = stays-away k h (rw q)
  away k h (c ∷ cs) q = elim (eqb_tells k c) [
    | inl p ↦ subst Away (sym p.1) (current-away c cs q (sym (ap (λ z. z == i) p.1) ∙ h))
    | inr p ↦ stays-away k h (rw (q, p.0))
  ]

  node-away : (k : ℕ) → (k == i) ≡ false → new.node k ≡ net.node k
  node-away k h = rw h

  at : (Q : ℕ → Type 0) (k : ℕ) → Q i → ((k == i) ≡ false → Q k) → Q k
  at Q k h f = elim (eqb_tells k i) [ inl p ↦ subst Q (sym p.1) h | inr p ↦ f p.0 ]

  pub in_order-turn : InOrder new root cap sent' got'
  in_order-turn = record {
    level = λ k. at (λ z. z ≢ root → length (new.numbers z) ≡ length (new.edge z)) k here.level (λ f. (away k f (open_ins (net.node i)) refl).level);
    order = λ k. at (λ z. z ≢ root → got' z ++ held new z ≡ sent' z) k here.order (λ f. (away k f (open_ins (net.node i)) refl).order);
    room = λ k. at (λ z. length (new.edge z) ≤ cap) k here.room (λ f. (away k f (open_ins (net.node i)) refl).room);
    numbers = λ k. at (λ z. IsNumbered number_of ends_all 0 (sent' z)) k here.numbers (λ f. subst (IsNumbered number_of ends_all 0) (sym (sent-away k f)) (ok.numbers k));
    last = λ k. at (λ z. EndsOnlyLast number_of ends_all (sent' z)) k here.last (λ f. subst (EndsOnlyLast number_of ends_all) (sym (sent-away k f)) (ok.last k));
    count = λ k b. at (λ z. (new.node z).sent ≡ up_to_limit (length (sent' z))) k here.count (λ f. ap (λ (m : Node S P F). m.sent) (node-away k f) ∙ ok.count k b ∙ ap (λ xs. up_to_limit (length xs)) (sym (sent-away k f)));
    done = λ k b. at (λ z. (new.node z).done ≡ has_end number_of ends_all (sent' z)) k here.done (λ f. ap (λ (m : Node S P F). m.done) (node-away k f) ∙ ok.done k b ∙ ap (has_end number_of ends_all) (sym (sent-away k f)));
  }

-- the same with equal lists
same_order : {S P F : Type 0} (net : Net S P F) (root cap : ℕ) (sent sent2 got got2 : ℕ → List (ℕ × Item P)) → sent ≡ sent2 → got ≡ got2 → InOrder net root cap sent got → InOrder net root cap sent2 got2
same_order {P = P} net root cap sent sent' got got' e f h = subst (λ (p : (ℕ → List (ℕ × Item P)) × (ℕ → List (ℕ × Item P))). InOrder net root cap p.0 p.1) (λ i. (e i, f i)) h

pub in_order-run : {S P F : Type 0} (net : Net S P F) (root cap : ℕ) (sent got : ℕ → List (ℕ × Item P)) (ts : List (ℕ × Choice S P F)) → IsTree (ins_of net) root → IsSound net → IsSchedule root ts → InOrder net root cap sent got →
    InOrder (run_schedule net root cap ts) root cap (λ k. sent k ++ given_by net root cap ts k) (λ k. got k ++ taken_from net root cap ts k)
in_order-run net root cap sent got [] tree sound s ok = same_order net root cap sent _ got _ (λ i k. sym (append-nil (sent k)) i) (λ i k. sym (append-nil (got k)) i) ok
in_order-run net root cap sent got (t ∷ ts) tree sound s ok =
    same_order (run_schedule (step net root cap t.0 t.1) root cap ts) root cap _ _ _ _
    (λ i k. append_assoc (sent k) (gave_in_step net root cap t.0 t.1 k) (given_by (step net root cap t.0 t.1) root cap ts k) i)
    (λ i k. append_assoc (got k) (took_in_step net root cap t.0 t.1 k) (taken_from (step net root cap t.0 t.1) root cap ts k) i)
    (in_order-run (step net root cap t.0 t.1) root cap (λ k. sent k ++ gave_in_step net root cap t.0 t.1 k) (λ k. got k ++ took_in_step net root cap t.0 t.1 k) ts
    (tree-step net root cap t.0 t.1 tree) (sound-step net root tree sound t.0 cap t.1) s.1
    (in_order-turn net root cap tree sound sent got ok t.0 s.0 (turn_at net root cap t.0 t.1) (turn-hands (t.0 == root) cap (net.node t.0) _ _ t.1)))

pub opening-in_order : {S P F : Type 0} (net : Net S P F) (root cap : ℕ) → IsOpening net root → InOrder net root cap (λ _. []) (λ _. [])
opening-in_order net root cap o = record {
  level = λ k _. ap length (o.numbers k) ∙ sym (ap length (o.edges k));
  order = λ k _. ap (λ ns. numbered ns (net.edge k)) (o.numbers k);
  room = λ k. let l : length (net.edge k) ≡ 0 = ap length (o.edges k) in omega (arith, l);
  numbers = λ k. tt;
  last = λ k. tt;
  count = λ k b. (o.fresh k b).sent ∙ zero_limit;
  done = λ k b. (o.fresh k b).done;
}
  where
    zero_limit : 0 ≡ up_to_limit 0
    zero_limit = refl
