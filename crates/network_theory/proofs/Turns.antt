-- What each row of a turn keeps.
use Rattle.std.proofs.Common.{◌≡◌, ◌+◌, Bool, true, false, cond, List, [], ◌∷◌, ◌++◌, map, Option, Some, None, is_some, refl, sym, ◌∙◌}
use Rattle.std.proofs.lemmas.List.{append-nil}
use Rattle.std.specs.Prelude.{◌==◌}
use Rattle.cloud_points.specs.Meaning.{KeepsCutting}
use Rattle.cloud_points.specs.Marks.{Mark, At, View_end, End, Item, Points, End_view, End_all, marks}
use Rattle.network_theory.specs.Machine.{is_cut, one_end, after_all, output}
use Rattle.network_theory.proofs.MachineLaws.{after-chunk, output-chunk, after-faulted, output-faulted}
use Rattle.network_theory.specs.Net.{item_of, Node, Quiet, taken, in_hand, still_end}

pub either : {A : Type 0} (P : A → Type 0) (b : Bool) (x y : A) → (b ≡ true → P x) → (b ≡ false → P y) → P (cond b x y)
either P true x y f g = f refl
either P false x y f g = g refl

hand-chunk : {P : Type 0} (ps : List P) → in_hand (item_of ps) ≡ map At ps
hand-chunk [] = refl
hand-chunk (p ∷ ps) = refl

-- what a node does with an item that it takes is what its machine does with the item's marks
pub record TakenAs {S P F : Type 0} (n : Node S P F) (it : Item P) (n' : Node S P F) : Type 0 where
  pub machine : n'.machine ≡ after_all n.work n.machine (marks it)
  pub given : in_hand n'.hand ++ still_end n' ≡ output n.work n.machine (marks it)
  pub work : n'.work ≡ n.work
  pub leaf : n'.leaf ≡ n.leaf
  pub ins : n'.ins ≡ n.ins
  pub views : n'.views ≡ n.views
  pub points : n'.points ≡ n.points

none_of : {A : Type 0} (o : Option A) → is_some o ≡ false → o ≡ None
none_of None h = refl
none_of (Some x) h = cc

view_given : {P : Type 0} (b : Bool) → in_hand (cond {A = Option (Item P)} b (Some End_view) None) ++ [] ≡ cond {A = List (Mark P)} b (View_end ∷ []) [] ++ []
view_given true = refl
view_given false = refl

end_given : {P : Type 0} (b cut : Bool) → in_hand (cond {A = Option (Item P)} b (Some End_view) (Some (End_all cut))) ++ cond {A = List (Mark P)} b (End cut ∷ []) [] ≡ cond b (View_end ∷ End cut ∷ []) (End cut ∷ []) ++ []
end_given true cut = refl
end_given false cut = refl

module _ {S P F : Type 0} (n : Node S P F) (law : KeepsCutting n.work) (empty : n.hand ≡ None) (no_end : n.ending ≡ false) where
  faulted : (it : Item P) → after_all n.work n.machine (marks it) ≡ n.machine → output n.work n.machine (marks it) ≡ [] → TakenAs n it n
  faulted it e o = record {
    machine = sym e;
    given = rw (empty, no_end) (sym o);
    work = refl;
    leaf = refl;
    ins = refl;
    views = refl;
    points = refl;
  }

  pub took : (it : Item P) → TakenAs n it (taken Quiet n it)
  took (Points ps) = either (TakenAs n (Points ps)) (is_some n.machine.fault) _ _
      (λ h. faulted (Points ps) (after-faulted n.work n.machine ps h) (output-faulted n.work n.machine ps h))
      (λ h. record {
        machine = sym (after-chunk n.work law n.machine ps (none_of n.machine.fault h));
        given = append-nil _ ∙ hand-chunk (n.work.emit n.machine.state ps) ∙ sym (output-chunk n.work law n.machine ps (none_of n.machine.fault h));
        work = refl;
        leaf = refl;
        ins = refl;
        views = refl;
        points = refl;
      })
  took End_view = either (TakenAs n End_view) (is_some n.machine.fault) _ _
      (λ h. faulted End_view (rw h) (rw h))
      (λ h. record {
        machine = rw h;
        given = rw h (view_given ((n.work.at_view n.machine.state).1));
        work = refl;
        leaf = refl;
        ins = refl;
        views = refl;
        points = refl;
      })
  took (End_all cut) = either (TakenAs n (End_all cut)) (n.machine.ended + 1 == n.machine.inputs) _ _
      (λ h. record {
        machine = rw h;
        given = rw h (end_given ((n.work.at_end n.machine.state (is_cut (one_end n.machine cut))).1) (is_cut (one_end n.machine cut)));
        work = refl;
        leaf = refl;
        ins = refl;
        views = refl;
        points = refl;
      })
      (λ h. record {
        machine = rw h;
        given = rw h;
        work = refl;
        leaf = refl;
        ins = refl;
        views = refl;
        points = refl;
      })
