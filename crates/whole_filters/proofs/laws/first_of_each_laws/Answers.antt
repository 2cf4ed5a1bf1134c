use Rattle.std.proofs.Common.{◌≡◌, Bool, true, false, cond, List, [], ◌∷◌, ◌++◌, refl, ap, sym, ◌∙◌, append-nil}
use Rattle.std.specs.List.{list_any}
use Rattle.whole_filters.proofs.Groups.{distinct_push, on-keys}
use Rattle.whole_filters.proofs.laws.first_of_each_laws.Goals as goal

-- the same of lists that stand in front of no more
in-front : {P : Type 0} (kept more : List P) (p : P) (b : Bool) → more ≡ cond b kept (kept ++ p ∷ []) → more ++ [] ≡ (kept ++ []) ++ cond b [] (p ∷ [])
in-front kept more p true e = append-nil more ∙ e ∙ sym (append-nil (kept ++ []) ∙ append-nil kept)
in-front kept more p false e = append-nil more ∙ e ∙ ap (λ z. z ++ p ∷ []) (sym (append-nil kept))

pub returns : goal.returns
returns g c =
    let eq = g.K.PartialEq.eq in
    record {
      none = λ key. refl;
      one_more = λ key view p.
          in-front _ _ p (list_any (λ q. eq (key p) (key q)) view) (distinct_push (on-keys g.met.K.Eq.laws key) view p);
    }
