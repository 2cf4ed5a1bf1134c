-- Places in lists, and which numbers they have.
use Rattle.std.proofs.Common.{ℕ, suc, ◌≡◌, ◌≤◌, ◌<◌, ◌+◌, ◌-◌, ◌==◌, ◌∙◌, ◌||◌, List, [], ◌∷◌, ◌++◌, map, filter, find, length, position, Bool, true, false, not, cond, Option, Some, None, option_map, unwrap_or, Bor, flat_map, refl, ap, arith}
use Rattle.std.specs.List.{list_any, range_with_len, prefix_len}
use Rattle.std.proofs.lemmas.List.{append_assoc}
use Rattle.std.proofs.lemmas.List.Folds.{list_any-append}
use Rattle.pipeline_json.specs.Lists.{has}

prefix_len-map : {X Y : Type 0} (p : Y → Bool) (f : X → Y) (xs : List X) → prefix_len p (map f xs) ≡ prefix_len (λ x. p (f x)) xs
prefix_len-map p f [] = refl
prefix_len-map p f (x ∷ xs) = ap (λ n. cond (p (f x)) (1 + n) 0) (prefix_len-map p f xs)

same_length : {X Y : Type 0} (f : X → Y) (xs : List X) → length (map f xs) ≡ length xs
same_length f [] = refl
same_length f (x ∷ xs) = ap suc (same_length f xs)

pub position_map : {X Y : Type 0} (p : Y → Bool) (f : X → Y) (xs : List X) → position p (map f xs) ≡ position (λ x. p (f x)) xs
position_map p f xs = rw (prefix_len-map (λ y. not (p y)) f xs, same_length f xs) refl

pub now_unwrap : (o : Option (Bor (List ℕ))) (d : Bor (List ℕ)) → (unwrap_or o d).now ≡ unwrap_or (option_map (λ s. s.now) o) d.now
now_unwrap None d = refl
now_unwrap (Some s) d = refl

-- a number is among the lists of a list where it is in one of them
pub any-flat_map : {X : Type 0} (f : X → List ℕ) (j : ℕ) (xs : List X) → has (flat_map f xs) j ≡ list_any (λ x. has (f x) j) xs
any-flat_map f j [] = refl
any-flat_map f j (x ∷ xs) = list_any-append (λ k. k == j) (f x) (flat_map f xs) ∙ ap (λ b. has (f x) j || b) (any-flat_map f j xs)

pub any-map : {X Y : Type 0} (p : Y → Bool) (f : X → Y) (xs : List X) → list_any p (map f xs) ≡ list_any (λ x. p (f x)) xs
any-map p f [] = refl
any-map p f (x ∷ xs) = ap (λ b. p (f x) || b) (any-map p f xs)

-- the numbers from one on, where it is below the end
pub range_from : (j n : ℕ) → j < n → range_with_len j (n - j) ≡ j ∷ range_with_len (j + 1) (n - (j + 1))
range_from j n h =
    let e : n - j ≡ suc (n - (j + 1)) = omega (arith, h) in
    rw e refl

pub range_end : (j n : ℕ) → n ≤ j → range_with_len j (n - j) ≡ []
range_end j n h =
    let e : n - j ≡ 0 = omega (arith, h) in
    rw e refl

-- a number that fails the test is passed over
pub find_next : (p : ℕ → Bool) (j n : ℕ) → j < n → p j ≡ false → find p (range_with_len j (n - j)) ≡ find p (range_with_len (j + 1) (n - (j + 1)))
find_next p j n h e = rw (range_from j n h, e) refl

pub filter_next : (p : ℕ → Bool) (j n : ℕ) → j < n → p j ≡ false → filter p (range_with_len j (n - j)) ≡ filter p (range_with_len (j + 1) (n - (j + 1)))
filter_next p j n h e = rw (range_from j n h, e) refl

pub filter_kept : (p : ℕ → Bool) (j n : ℕ) → j < n → p j ≡ true → filter p (range_with_len j (n - j)) ≡ j ∷ filter p (range_with_len (j + 1) (n - (j + 1)))
filter_kept p j n h e = rw (range_from j n h, e) refl

-- a number that passes goes to the end of those before it
pub pile_kept : (p : ℕ → Bool) (j n : ℕ) (ins more : List ℕ) → j < n → p j ≡ true → more ≡ ins ++ j ∷ []
    → ins ++ filter p (range_with_len j (n - j)) ≡ more ++ filter p (range_with_len (j + 1) (n - (j + 1)))
pile_kept p j n ins more h e is = rw (filter_kept p j n h e, is, append_assoc ins (j ∷ []) (filter p (range_with_len (j + 1) (n - (j + 1))))) refl
