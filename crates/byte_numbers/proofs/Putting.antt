-- Elements are put behind a list one after another, each as so many bytes.
use Rattle.std.proofs.Common.{◌≡◌, ℕ, ◌+◌, ◌*◌, ◌<◌, ◌≤◌, List, ◌++◌, length, take, get_or, ap, sym, ◌∙◌, arith, append_assoc, length-append}
use Rattle.std.specs.List.{flat_map}
use Rattle.std.proofs.lemmas.Grind.{common_steps, flat_map-append}
use Rattle.std.proofs.lemmas.List.{take_more}

pub record Putting {X : Type 0} (f : X → List ℕ) (width : ℕ) (xs : List X) (i : ℕ) (before after : List ℕ) : Type 0 where
  pub items : after ≡ before ++ flat_map f (take i xs)
  pub len : length after ≡ length before + width * i

pub putting_none : {X : Type 0} (f : X → List ℕ) (width : ℕ) (xs : List X) (bytes : List ℕ) → Putting f width xs 0 bytes bytes
putting_none f width xs bytes = record { items = grind (arith, common_steps); len = omega arith }

pub putting_more : {X : Type 0} (f : X → List ℕ) (width : ℕ) (xs : List X) (i : ℕ) (d : X) (before middle after : List ℕ)
    → i < length xs → length (f (get_or xs i d)) ≡ width → after ≡ middle ++ f (get_or xs i d)
    → Putting f width xs i before middle → Putting f width xs (i + 1) before after
putting_more f width xs i d before middle after h size put was = record {
  items = put ∙ ap (λ l. l ++ f (get_or xs i d)) was.items ∙ append_assoc before (flat_map f (take i xs)) (f (get_or xs i d))
      ∙ ap (λ l. before ++ l) (sym (one_more f xs i d h));
  len = omega (arith, was.len, size, ap length put, length-append middle (f (get_or xs i d)));
}
  where
    one_more : {X : Type 0} (f : X → List ℕ) (xs : List X) (i : ℕ) (d : X) → i < length xs → flat_map f (take (i + 1) xs) ≡ flat_map f (take i xs) ++ f (get_or xs i d)
    one_more f xs i d h = rw (take_more xs i d h, flat_map-append) grind (arith, common_steps)

pub putting_all : {X : Type 0} (f : X → List ℕ) (width : ℕ) (xs : List X) (i : ℕ) (before after : List ℕ)
    → length xs ≤ i → i ≤ length xs → Putting f width xs i before after → after ≡ before ++ flat_map f xs
putting_all f width xs i before after low high was = grind (arith, common_steps, was.items)
