-- Two pieces that are appended one after another.
use Rattle.std.proofs.Common.{◌≡◌, ℕ, zero, suc, List, [], ◌∷◌, ◌++◌, take, Option, Result, Ok, Err, OnOk, OnErr, refl, ap, subst, sym}
use Rattle.file_devices.specs.Content.{Appends, AppendsPart}
use Rattle.file_devices.proofs.ContentLemmas.{appends_more}

pub OnOk-more : {T E : Type 0} (r : Result T E) (P Q : Type 0) → (P → Q) → OnOk r P → OnOk r Q
OnOk-more (Ok x) P Q f h = f h
OnOk-more (Err e) P Q f h = tt

pub OnErr-more : {T E : Type 0} (r : Result T E) (P Q : Type 0) → (P → Q) → OnErr r P → OnErr r Q
OnErr-more (Ok x) P Q f h = tt
OnErr-more (Err e) P Q f h = f h

prefix_of_first : (xs ys : List ℕ) (k : ℕ) → (n : ℕ) × (take n (xs ++ ys) ≡ take k xs)
prefix_of_first [] ys zero = (0, refl)
prefix_of_first [] ys (suc k) = (0, refl)
prefix_of_first (x ∷ xs) ys zero = (0, refl)
prefix_of_first (x ∷ xs) ys (suc k) = let p = prefix_of_first xs ys k in (suc p.0, ap (λ rest. x ∷ rest) p.1)

prefix_of_second : (xs ys : List ℕ) (k : ℕ) → (n : ℕ) × (take n (xs ++ ys) ≡ xs ++ take k ys)
prefix_of_second [] ys k = (k, refl)
prefix_of_second (x ∷ xs) ys k = let p = prefix_of_second xs ys k in (suc p.0, ap (λ rest. x ∷ rest) p.1)

-- a part of the first piece is a part of both
pub part_of_first : (xs ys : List ℕ) (first last : Option (List ℕ)) → AppendsPart first xs last → AppendsPart first (xs ++ ys) last
part_of_first xs ys first last p =
    let n = prefix_of_first xs ys p.0 in
    (n.0, subst (λ piece. Appends first piece last) (sym n.1) p.1)

-- so is the first piece with a part of the second
pub part_of_second : (xs ys : List ℕ) (first middle last : Option (List ℕ)) → Appends first xs middle → AppendsPart middle ys last → AppendsPart first (xs ++ ys) last
part_of_second xs ys first middle last p q =
    let n = prefix_of_second xs ys q.0 in
    (n.0, subst (λ piece. Appends first piece last) (sym n.1) (appends_more first middle last xs (take q.0 ys) p q.1))
