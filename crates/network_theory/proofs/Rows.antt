-- The rows of a turn: what is given, made or left, and what is taken.
use Rattle.std.proofs.Common.{◌≡◌, ℕ, ◌+◌, Bool, true, false, ◌⊎◌, inl, inr, List, [], ◌∷◌, ◌++◌, length, map, Option, Some, None, refl, ap, sym, ◌∙◌, append_assoc, arith}
use Rattle.std.proofs.lemmas.List.{append-nil}
use Rattle.std.specs.Prelude.{nat_lt}
use Rattle.cloud_points.specs.Marks.{Mark, At, View_end, End, Item, Points, End_view, End_all, marks, all_marks, views_in, points_in}
use Rattle.cloud_points.specs.Events.{first_fault}
use Rattle.network_theory.specs.Machine.{Machine, is_cut}
use Rattle.cloud_points.specs.Queue.{up_to_limit}
use Rattle.network_theory.specs.Net.{Node, Choice, Quiet, Failed, Short, Makes, Outcome, Turned, Took, Gave, Made, Idle, Done, Full, taken, given, makes, of_machine, remains, last_of, Last, open_ins, takes, with_hand, turn, IsQuiet, IsPart, count_views, count_points}
use Rattle.network_theory.proofs.Turns.{either}

pub count_views-append : {P : Type 0} (xs ys : List (Mark P)) → count_views (xs ++ ys) ≡ count_views xs + count_views ys
count_views-append [] ys = omega arith
count_views-append (At p ∷ xs) ys = count_views-append xs ys
count_views-append (View_end ∷ xs) ys = omega (arith, count_views-append xs ys)
count_views-append (End c ∷ xs) ys = count_views-append xs ys

pub count_points-append : {P : Type 0} (xs ys : List (Mark P)) → count_points (xs ++ ys) ≡ count_points xs + count_points ys
count_points-append [] ys = omega arith
count_points-append (At p ∷ xs) ys = omega (arith, count_points-append xs ys)
count_points-append (View_end ∷ xs) ys = count_points-append xs ys
count_points-append (End c ∷ xs) ys = count_points-append xs ys

pub no_views : {P : Type 0} (ps : List P) → count_views (map At ps) ≡ 0
no_views [] = refl
no_views (p ∷ ps) = no_views ps

pub all_points : {P : Type 0} (ps : List P) → count_points (map At ps) ≡ length ps
all_points [] = refl
all_points (p ∷ ps) = omega (arith, all_points ps)

count_views-marks : {P : Type 0} (i : Item P) → count_views (marks i) ≡ views_in i
count_views-marks (Points ps) = no_views ps
count_views-marks End_view = refl
count_views-marks (End_all c) = refl

pub count_points-marks : {P : Type 0} (i : Item P) → count_points (marks i) ≡ points_in i
count_points-marks (Points ps) = all_points ps
count_points-marks End_view = refl
count_points-marks (End_all c) = refl

pub all_marks-last : {P : Type 0} (xs : List (Item P)) (i : Item P) → all_marks (xs ++ i ∷ []) ≡ all_marks xs ++ marks i
all_marks-last [] i = append-nil (marks i)
all_marks-last (x ∷ xs) i = ap (λ r. marks x ++ r) (all_marks-last xs i) ∙ sym (append_assoc (marks x) (all_marks xs) (marks i))

pub same_last : {S F : Type 0} (m m' : Option (Machine S F)) (f f' : Option F) (v v' p p' : ℕ) → m ≡ m' → f ≡ f' → v ≡ v' → p ≡ p' → ◌≡◌ {A = Last S F} (record { machine = m; fault = f; views = v; points = p }) (record { machine = m'; fault = f'; views = v'; points = p' })
same_last m m' f f' v v' p p' a b c d = cc

sums : (v a b c : ℕ) → c ≡ a + b → up_to_limit (up_to_limit (v + a) + b) ≡ up_to_limit (v + c)
sums v a b c h = omega arith

pub fault_first : {F : Type 0} (a b c : Option F) → first_fault (first_fault a b) c ≡ first_fault a (first_fault b c)
fault_first (Some x) b c = refl
fault_first None (Some x) c = refl
fault_first None None c = refl

-- the turn changes nothing of what is still to come, and takes nothing
pub record Stands {S P F : Type 0} (root : Bool) (n : Node S P F) (input out : List (Item P)) (o : Outcome S P F) : Type 0 where
  pub input_stays : o.input ≡ input
  pub ins : open_ins o.node ≡ open_ins n
  pub flows : root ≡ false → (x : List (Mark P)) → all_marks o.out ++ remains o.node x ≡ all_marks out ++ remains n x
  pub ends : (x : List (Mark P)) → last_of o.node x ≡ last_of n x

-- the first item of the current edge is taken
pub record Takes {S P F : Type 0} (n : Node S P F) (input out : List (Item P)) (o : Outcome S P F) : Type 0 where
  pub item : Item P
  pub rest : List (Item P)
  pub first : input ≡ item ∷ rest
  pub outcome : o ≡ record { node = taken Quiet n item; input = rest; out = out; turned = Took }
  pub hand : n.hand ≡ None
  pub ending : n.ending ≡ false
  pub leaf : n.leaf ≡ false

abbrev pub Keeps : {S P F : Type 0} → Bool → Node S P F → List (Item P) → List (Item P) → Outcome S P F → Type 0
Keeps root n input out o = Stands root n input out o ⊎ Takes n input out o

module _ {S P F : Type 0} (root : Bool) (n : Node S P F) (input out : List (Item P)) where
  idles : (t : Turned) → Keeps root n input out (record { node = n; input = input; out = out; turned = t })
  idles t = inl (record { input_stays = refl; ins = refl; flows = λ _ x. refl; ends = λ x. refl })

  pub gone : (i : Item P) (x : List (Mark P)) → n.hand ≡ Some i → marks i ++ remains (given n i) x ≡ remains n x
  gone i x h = rw h

  pub given-last : (i : Item P) (x : List (Mark P)) → n.hand ≡ Some i → last_of (given n i) x ≡ last_of n x
  given-last i x h =
      let whole = gone i x h in
      let all_views : count_views (remains n x) ≡ views_in i + count_views (remains (given n i) x) = ap count_views (sym whole) ∙ count_views-append (marks i) _ ∙ ap (λ k. k + count_views (remains (given n i) x)) (count_views-marks i) in
      let all_points : count_points (remains n x) ≡ points_in i + count_points (remains (given n i) x) = ap count_points (sym whole) ∙ count_points-append (marks i) _ ∙ ap (λ k. k + count_points (remains (given n i) x)) (count_points-marks i) in
      same_last _ _ _ _ _ _ _ _ refl refl (sums n.views _ _ _ all_views) (sums n.points _ _ _ all_points)

  gives_one : (i : Item P) (t : Turned) → n.hand ≡ Some i → Keeps root n input out (record { node = given n i; input = input; out = out ++ i ∷ []; turned = t })
  gives_one i t h = inl (record { input_stays = refl; ins = refl; flows = λ _ x. ap (λ r. r ++ remains (given n i) x) (all_marks-last out i) ∙ append_assoc (all_marks out) (marks i) _ ∙ ap (λ r. all_marks out ++ r) (gone i x h); ends = λ x. given-last i x h })

  lays_down : (i : Item P) (t : Turned) → root ≡ true → n.hand ≡ Some i → Keeps root n input out (record { node = given n i; input = input; out = out; turned = t })
  lays_down i t r h = inl (record { input_stays = refl; ins = refl; flows = λ e x. cc; ends = λ x. given-last i x h })

  same_flow : (n' : Node S P F) (t : Turned) → open_ins n' ≡ open_ins n → ((x : List (Mark P)) → remains n' x ≡ remains n x) → ((x : List (Mark P)) → (last_of n' x).machine ≡ (last_of n x).machine) → ((x : List (Mark P)) → (last_of n' x).fault ≡ (last_of n x).fault) → n'.views ≡ n.views → n'.points ≡ n.points → Keeps root n input out (record { node = n'; input = input; out = out; turned = t })
  same_flow n' t o r m f v p = inl (record {
    input_stays = refl;
    ins = o;
    flows = λ _ x. ap (λ s. all_marks out ++ s) (r x);
    ends = λ x. same_last _ _ _ _ _ _ _ _ (m x) (f x) (rw (v, r x)) (rw (p, r x));
  })

  ends : (t : Turned) → n.hand ≡ None → n.ending ≡ true → Keeps root n input out (record { node = of_machine n n.machine (Some (End_all (is_cut n.machine))) false; input = input; out = out; turned = t })
  ends t h e = same_flow _ t refl (λ x. rw (h, e)) (λ x. refl) (λ x. refl) refl refl

  makes_one : (ch : Choice S P F) (t : Turned) → n.hand ≡ None → n.ending ≡ false → n.leaf ≡ true → IsPart ch n → Keeps root n input out (record { node = makes ch n; input = input; out = out; turned = t })
  makes_one (Makes i f s told tf pl vl) t h e l p = same_flow _ t refl (λ x. rw (h, e, l, p.part)) (λ x. rw l) (λ x. rw (l, p.fault_part) (fault_first n.machine.fault f tf)) refl refl
  makes_one Quiet t h e l p = absurd p
  makes_one (Failed f s) t h e l p = absurd p
  makes_one (Short s) t h e l p = absurd p

  takes_one : (ch : Choice S P F) → n.hand ≡ None → n.ending ≡ false → n.leaf ≡ false → ch ≡ Quiet → (input' : List (Item P)) → input ≡ input' → Keeps root n input out (takes ch n input' out)
  takes_one ch h e l q [] i = inl (record { input_stays = sym i; ins = refl; flows = λ _ x. refl; ends = λ x. refl })
  takes_one ch h e l q (x ∷ xs) i = inr (record { item = x; rest = xs; first = i; outcome = ap (λ c. record { node = taken c n x; input = xs; out = out; turned = Took }) q; hand = h; ending = e; leaf = l })

  by_hand : (cap : ℕ) (ch : Choice S P F) → IsQuiet ch n → (h : Option (Item P)) → n.hand ≡ h → Keeps root n input out (with_hand root cap ch n input out h)
  by_hand cap ch q (Some i) h = either (Keeps root n input out) root _ _
      (λ r. lays_down i Gave r h)
      (λ r. either (Keeps root n input out) (nat_lt (length out) cap) _ _ (λ _. gives_one i Gave h) (λ _. idles (Idle Full)))
  by_hand cap ch q None h = either (Keeps root n input out) n.done _ _
      (λ _. idles Done)
      (λ d. either (Keeps root n input out) n.ending _ _
      (λ e. ends Made h e)
      (λ e. either (Keeps root n input out) n.leaf _ _
      (λ l. makes_one ch Made h e l (q.leaf l h d e))
      (λ l. takes_one ch h e l (q.inner l) input refl)))

  -- each turn without an event keeps what is still to come, or takes
  pub turn-keeps : (cap : ℕ) (ch : Choice S P F) → IsQuiet ch n → Keeps root n input out (turn root cap ch n input out)
  turn-keeps cap ch q = by_hand cap ch q n.hand refl
