-- Lists of columns of at most 9 places.
use Rattle.std.proofs.Common.{◌≡◌, ℕ, ◌+◌, ◌<◌, ◌≤◌, List, [], ◌∷◌, ◌++◌, length, length-append, refl, sym, subst, ap, ◌∙◌, arith}
use Rattle.std.specs.List.{All}
use Rattle.std.proofs.lemmas.List.Elements.{All-nil, All-push}
use Rattle.text_writer.specs.declared.form.Column.{Column}

-- so many of all were listed
pub record Listed (count all : ℕ) (columns : List Column) : Type 0 where
  pub size : length columns ≡ count
  pub within : count ≤ all
  pub places : All (λ (c : Column). c.places ≤ 9) columns

pub none_listed : (all : ℕ) (columns : List Column) → columns ≡ [] → Listed 0 all columns
none_listed all [] none = record {
  size = refl;
  within = omega arith;
  places = All-nil (λ (c : Column). c.places ≤ 9);
}
none_listed all (c ∷ cs) none = absurd cc

pub one_listed : (count all : ℕ) (old new : List Column) (c : Column) → count < all → c.places ≤ 9 → new ≡ old ++ c ∷ [] → Listed count all old → Listed (count + 1) all new
one_listed count all old new c some places is was = record {
  size = ap length is ∙ length-append old (c ∷ []) ∙ ap (λ n. n + 1) was.size;
  within = omega arith;
  places = subst (All (λ (k : Column). k.places ≤ 9)) (sym is) (All-push (λ (k : Column). k.places ≤ 9) old c was.places places);
}
