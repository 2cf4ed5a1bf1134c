-- Each turn that does work lowers what is owed.
use Rattle.std.proofs.Common.{◌≡◌, ℕ, ◌+◌, ◌*◌, ◌≤◌, ◌<◌, Bool, true, false, cond, List, [], ◌∷◌, ◌++◌, length, Option, Some, None, is_some, refl, ap, subst, sym, ◌∙◌, arith, length-append}
use Rattle.std.proofs.Math.Nat.{mul-le-mul_left}
use Rattle.std.specs.Prelude.{◌==◌, nat_lt, ◌||◌}
use Rattle.std.proofs.lemmas.Bool.{eqb-true, ltb-true, lt-ltb, le-ltb}
use Rattle.cloud_points.specs.Marks.{Item, Points, End_view, End_all, is_end}
use Rattle.network_theory.specs.Machine.{is_cut, one_end}
use Rattle.network_theory.specs.Net.{Node, Choice, Quiet, Failed, Short, Makes, Outcome, Turned, Idle, Done, Full, taken, taken_end, taken_points, taken_view, given, makes, of_machine, takes, with_hand, turn, IsWithin, hand_owes, end_owes, owes, cost, works}
use Rattle.network_theory.proofs.Turns.{either}

-- a turn that works lowers the cost, any other changes nothing
pub record Lowers {S P F : Type 0} (e : ℕ) (n : Node S P F) (input out : List (Item P)) (o : Outcome S P F) : Type 0 where
  pub falls : works o.turned ≡ true → cost e o.node o.input o.out < cost e n input out
  pub stays : works o.turned ≡ false → o ≡ record { node = n; input = input; out = out; turned = o.turned }

owes-hand : {P : Type 0} (e : ℕ) (h : Option (Item P)) → hand_owes e h ≤ 2 * e + 1
owes-hand e None = omega arith
owes-hand e (Some i) = omega arith

or-false : (a b : Bool) → (a || b) || false ≡ a || b
or-false true b = refl
or-false false true = refl
or-false false false = refl

sum-gives : (a b x x' c e l l' i : ℕ) → x' ≡ x → l' ≡ l + 1 → (2 * e + 2) * a + (2 * e + 2) * b + x' + c + 0 + 2 * e * l' + (2 * e + 2) * i < (2 * e + 2) * a + (2 * e + 2) * b + x + c + (2 * e + 1) + 2 * e * l + (2 * e + 2) * i
sum-gives a b x x' c e l l' i h g = rw g (omega (arith, h))

sum-takes : (o o' e l i i' : ℕ) → o' ≤ o + (2 * e + 1) → i ≡ i' + 1 → o' + 2 * e * l + (2 * e + 2) * i' < o + 2 * e * l + (2 * e + 2) * i
sum-takes o o' e l i i' h g = rw g (omega (arith, h))

or-true : (a : Bool) → a || true ≡ true
or-true true = refl
or-true false = refl

choose : (b : Bool) (x : ℕ) → cond b x 0 ≤ x
choose true x = omega arith
choose false x = omega arith

fewer : (a b x : ℕ) → cond (nat_lt (a + 1) b) x 0 ≤ cond (nat_lt a b) x 0
fewer a b x = either (λ z. z ≤ cond (nat_lt a b) x 0) (nat_lt (a + 1) b) _ _
    (λ h. let l : a + 1 < b = ltb-true (a + 1) b h in let m : a < b = omega arith in rw (lt-ltb a b m) (omega arith))
    (λ h. omega arith)

times : (e a b : ℕ) → a ≤ b → (2 * e + 2) * a ≤ (2 * e + 2) * b
times e a b h = mul-le-mul_left (2 * e + 2) h

module _ {S P F : Type 0} (e : ℕ) (n : Node S P F) (input out : List (Item P)) where
  stands : (t : Turned) → works t ≡ false → Lowers e n input out (record { node = n; input = input; out = out; turned = t })
  stands t h = record { falls = λ w. absurd (let z : true ≡ false = sym w ∙ h in cc); stays = λ _. refl }

  -- giving keeps what is owed for the end
  end-given : (i : Item P) → n.hand ≡ Some i → end_owes e (given n i) ≡ end_owes e n
  end-given i h = rw h (ap (λ b. cond n.leaf (cond b 0 (2 * e + 2)) (cond (nat_lt n.machine.ended n.machine.inputs) (2 * e + 2) 0)) (or-false n.done (is_end i)))

  gives : (i : Item P) → n.hand ≡ Some i → cost e (given n i) input (out ++ i ∷ []) < cost e n input out
  gives i h = let s = end-given i h in let l = length-append out (i ∷ []) in
      subst (λ x. cost e (given n i) input (out ++ i ∷ []) < (2 * e + 2) * n.points_left + (2 * e + 2) * n.views_left + end_owes e n + cond n.ending (2 * e + 2) 0 + x + 2 * e * length out + (2 * e + 2) * length input) (ap (hand_owes e) (sym h))
      (sum-gives n.points_left n.views_left (end_owes e n) (end_owes e (given n i)) (cond n.ending (2 * e + 2) 0) e (length out) (length (out ++ i ∷ [])) (length input) s (l ∙ one (length out)))
    where
      one : (k : ℕ) → k + length (i ∷ []) ≡ k + 1
      one k = refl

  lays : (i : Item P) → n.hand ≡ Some i → cost e (given n i) input out < cost e n input out
  lays i h = let s = end-given i h in
      subst (λ x. cost e (given n i) input out < (2 * e + 2) * n.points_left + (2 * e + 2) * n.views_left + end_owes e n + cond n.ending (2 * e + 2) 0 + x + 2 * e * length out + (2 * e + 2) * length input) (ap (hand_owes e) (sym h))
      (omega (arith, s))

  ends : n.hand ≡ None → n.ending ≡ true → cost e (of_machine n n.machine (Some (End_all (is_cut n.machine))) false) input out < cost e n input out
  ends h g = by_leaf n.leaf refl
    where
      by_leaf : (b : Bool) → n.leaf ≡ b → cost e (of_machine n n.machine (Some (End_all (is_cut n.machine))) false) input out < cost e n input out
      by_leaf true l = rw (h, g, l, or-true n.done) (omega arith)
      by_leaf false l = rw (h, g, l) (omega arith)

  -- what a node that takes owes, besides the hand
  inner-owes : (n' : Node S P F) → n.hand ≡ None → n.ending ≡ false → n.leaf ≡ false → n'.points_left ≡ n.points_left → n'.views_left ≡ n.views_left → n'.leaf ≡ n.leaf →
      cond (nat_lt n'.machine.ended n'.machine.inputs) (2 * e + 2) 0 + cond n'.ending (2 * e + 2) 0 ≤ cond (nat_lt n.machine.ended n.machine.inputs) (2 * e + 2) 0 → owes e n' ≤ owes e n + (2 * e + 1)
  inner-owes n' h g l p v l' b = let k = owes-hand e n'.hand in rw (h, g, p, v, l', l) (omega arith)

  taken-owes : (ch : Choice S P F) (it : Item P) → n.hand ≡ None → n.ending ≡ false → n.leaf ≡ false → n.machine.ended < n.machine.inputs → owes e (taken ch n it) ≤ owes e n + (2 * e + 1)
  taken-owes ch (Points ps) h g l m = either (λ z. owes e z ≤ owes e n + (2 * e + 1)) (is_some n.machine.fault) _ _ (λ _. omega arith) (λ _. by_choice ch)
    where
      by_choice : (c : Choice S P F) → owes e (taken_points c n ps) ≤ owes e n + (2 * e + 1)
      by_choice Quiet = inner-owes (taken_points Quiet n ps) h g l refl refl refl (omega arith)
      by_choice (Failed f s) = inner-owes (taken_points (Failed f s) n ps) h g l refl refl refl (omega arith)
      by_choice (Short s) = inner-owes (taken_points (Short s) n ps) h g l refl refl refl (omega arith)
      by_choice (Makes i f s told tf pl vl) = omega arith
  taken-owes ch End_view h g l m = either (λ z. owes e z ≤ owes e n + (2 * e + 1)) (is_some n.machine.fault) _ _ (λ _. omega arith) (λ _. by_choice ch)
    where
      by_choice : (c : Choice S P F) → owes e (taken_view c n) ≤ owes e n + (2 * e + 1)
      by_choice Quiet = inner-owes (taken_view Quiet n) h g l refl refl refl (omega arith)
      by_choice (Short s) = inner-owes (taken_view (Short s) n) h g l refl refl refl (omega arith)
      by_choice (Failed f s) = omega arith
      by_choice (Makes i f s told tf pl vl) = omega arith
  taken-owes ch (End_all cut) h g l m = either (λ z. owes e z ≤ owes e n + (2 * e + 1)) (n.machine.ended + 1 == n.machine.inputs) _ _
      (λ t. inner-owes (taken_end n (one_end n.machine cut)) h g l refl refl refl (last_end _ (eqb-true _ _ t)))
      (λ _. inner-owes (of_machine n (one_end n.machine cut) None false) h g l refl refl refl (let f = fewer n.machine.ended n.machine.inputs (2 * e + 2) in omega arith))
    where
      last_end : (b : Bool) → n.machine.ended + 1 ≡ n.machine.inputs → cond (nat_lt (n.machine.ended + 1) n.machine.inputs) (2 * e + 2) 0 + cond b (2 * e + 2) 0 ≤ cond (nat_lt n.machine.ended n.machine.inputs) (2 * e + 2) 0
      last_end b t = let q : n.machine.inputs ≤ n.machine.ended + 1 = omega arith in rw (lt-ltb n.machine.ended n.machine.inputs m, le-ltb (n.machine.ended + 1) n.machine.inputs q) (omega (arith, choose b (2 * e + 2)))

  makes-lowers : (ch : Choice S P F) → n.hand ≡ None → n.done ≡ false → n.leaf ≡ true → IsWithin ch n → cost e (makes ch n) input out < cost e n input out
  makes-lowers (Makes (Points ps) f s told tf pl vl) h d l w =
      let p = times e (pl + 1) n.points_left (omega (arith, w.some, w.fewer_points)) in let v = times e vl n.views_left (omega (arith, w.fewer_views)) in rw (h, d, l) (omega (arith, p, v))
  makes-lowers (Makes End_view f s told tf pl vl) h d l w =
      let p = times e pl n.points_left (omega (arith, w.fewer_points)) in let v = times e (vl + 1) n.views_left (omega (arith, w.fewer_views)) in rw (h, d, l) (omega (arith, p, v))
  makes-lowers (Makes (End_all c) f s told tf pl vl) h d l w =
      let p = times e pl n.points_left (omega (arith, w.fewer_points)) in let v = times e vl n.views_left (omega (arith, w.fewer_views)) in rw (h, d, l) (omega (arith, p, v))
  makes-lowers Quiet h d l w = absurd w
  makes-lowers (Failed f s) h d l w = absurd w
  makes-lowers (Short s) h d l w = absurd w

  -- a turn that works lowers the cost
  lowers : (o : Outcome S P F) → works o.turned ≡ true → cost e o.node o.input o.out < cost e n input out → Lowers e n input out o
  lowers o w h = record { falls = λ _. h; stays = λ z. absurd (let q : true ≡ false = sym w ∙ z in cc) }

  takes-lowers : (ch : Choice S P F) → n.hand ≡ None → n.ending ≡ false → n.leaf ≡ false → n.machine.ended < n.machine.inputs → (is : List (Item P)) → input ≡ is → Lowers e n input out (takes ch n is out)
  takes-lowers ch h g l m [] q = rw q (record { falls = λ w. absurd (let z : false ≡ true = w in cc); stays = λ _. refl })
  takes-lowers ch h g l m (i ∷ is) q = lowers _ refl (rw q (sum-takes (owes e n) (owes e (taken ch n i)) e (length out) (length (i ∷ is)) (length is) (taken-owes ch i h g l m) (omega arith)))

  by_hand : (root : Bool) (cap : ℕ) (ch : Choice S P F) → (n.leaf ≡ true → n.hand ≡ None → n.done ≡ false → n.ending ≡ false → IsWithin ch n) → (n.leaf ≡ false → n.done ≡ false → n.ending ≡ false → n.hand ≡ None → n.machine.ended < n.machine.inputs) →
      (h : Option (Item P)) → n.hand ≡ h → Lowers e n input out (with_hand root cap ch n input out h)
  by_hand root cap ch w m (Some i) h = either (Lowers e n input out) root _ _
      (λ _. lowers _ refl (lays i h))
      (λ _. either (Lowers e n input out) (nat_lt (length out) cap) _ _ (λ _. lowers _ refl (gives i h)) (λ _. stands (Idle Full) refl))
  by_hand root cap ch w m None h = either (Lowers e n input out) n.done _ _
      (λ _. stands Done refl)
      (λ d. either (Lowers e n input out) n.ending _ _
      (λ g. lowers _ refl (ends h g))
      (λ g. either (Lowers e n input out) n.leaf _ _
      (λ l. lowers _ refl (makes-lowers ch h d l (w l h d g)))
      (λ l. takes-lowers ch h g l (m l d g h) input refl)))

  pub turn-lowers : (root : Bool) (cap : ℕ) (ch : Choice S P F) → (n.leaf ≡ true → n.hand ≡ None → n.done ≡ false → n.ending ≡ false → IsWithin ch n) → (n.leaf ≡ false → n.done ≡ false → n.ending ≡ false → n.hand ≡ None → n.machine.ended < n.machine.inputs) → Lowers e n input out (turn root cap ch n input out)
  turn-lowers root cap ch w m = by_hand root cap ch w m n.hand refl
