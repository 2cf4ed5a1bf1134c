-- What is remembered is how many points have each class.
use Rattle.std.proofs.Common.{◌≡◌, ℕ, zero, suc, ◌+◌, ◌<◌, ◌≤◌, ◌==◌, Bool, true, false, cond, List, [], ◌∷◌, ℤ, pos, map, set, get_or, replicate, refl, ap, sym, ◌∙◌, arith}
use Rattle.std.specs.Prelude.{nat_abs, count_by}
use Rattle.std.specs.List.{range_with_len}
use Rattle.std.proofs.lemmas.Bool.{eq-eqb, ne_eqb}
use Rattle.std.proofs.lemmas.List.{map-set}
use Rattle.std.proofs.lemmas.List.Sums.{sum_by-cons}
use Rattle.cloud_points.specs.Queue.{up_to_limit}
use Rattle.cloud_points.specs.declared.point.Point.{Point}
use Rattle.plug_stages.specs.Classes.{told_text, came_from, class_counts, classes_text, none_counted, one_counted, count_with, count_text}
use Rattle.plug_stages.specs.Tallied.{tallied}

-- ---- a table of counts, of n classes from k on

abbrev table : (ℕ → ℕ) → ℕ → ℕ → List ℤ
table f k n = map pos (map f (range_with_len k n))

table_same : (f g : ℕ → ℕ) (k n : ℕ) → ((c : ℕ) → k ≤ c → f c ≡ g c) → table f k n ≡ table g k n
table_same f g k zero h = refl
table_same f g k (suc n) h = rw (h k (omega arith), table_same f g (k + 1) n (λ c low. h c (omega (arith, low)))) refl

-- one point more of class c
abbrev with_one : (ℕ → ℕ) → ℕ → ℕ → ℕ
with_one f c j = cond (c == j) (up_to_limit (f j + 1)) (f j)

at_class : (f : ℕ → ℕ) (c j : ℕ) → c ≡ j → with_one f c j ≡ up_to_limit (f j + 1)
at_class f c j e = rw (eq-eqb c j e) refl

past_class : (f : ℕ → ℕ) (c j : ℕ) → c < j → f j ≡ with_one f c j
past_class f c j l = rw (ne_eqb c j (λ e. omega (arith, l, e))) refl

-- class k + i stands at place i
one_more_at : (f : ℕ → ℕ) (k n i : ℕ) → set (table f k n) i (one_counted (get_or (table f k n) i (pos 0))) ≡ table (with_one f (k + i)) k n
one_more_at f k zero i = refl
one_more_at f k (suc n) zero =
    rw (at_class f (k + 0) k (omega arith)) (ap (λ z. pos (up_to_limit (f k + 1)) ∷ z) (table_same f (with_one f (k + 0)) (k + 1) n (λ c low. past_class f (k + 0) c (omega (arith, low)))))
one_more_at f k (suc n) (suc i) =
    let here : with_one f (k + suc i) k ≡ f k = rw (ne_eqb (k + suc i) k (λ e. omega (arith, e))) refl in
    let there : k + 1 + i ≡ k + suc i = omega arith in
    rw here (ap (λ z. pos (f k) ∷ z) (one_more_at f (k + 1) n i ∙ ap (λ c. table (with_one f c) (k + 1) n) there))

-- ---- all points

abbrev of_class : ℕ → List Point → ℕ
of_class c points = count_by (λ p. p.classification == c) points

-- so many before
abbrev counted : (ℕ → ℕ) → ℕ → ℕ
counted n c = up_to_limit (n c)

behind : (n : ℕ → ℕ) (points : List Point) → tallied count_with (table (counted n) 0 256) points ≡ table (counted (λ c. n c + of_class c points)) 0 256
behind n [] = table_same (counted n) (counted (λ c. n c + 0)) 0 256 (λ c low. ap up_to_limit (let z : n c ≡ n c + 0 = omega arith in z))
behind n (p ∷ ps) =
    ap (λ z. tallied count_with z ps) (one_more_at (counted n) 0 256 p.classification
    ∙ ap (λ k. table (with_one (counted n) k) 0 256) (let z : 0 + p.classification ≡ p.classification = omega arith in z)
    ∙ table_same (with_one (counted n) p.classification) (counted (λ c. n c + cond (p.classification == c) 1 0)) 0 256 (λ c low. one c (p.classification == c)))
    ∙ behind (λ c. n c + cond (p.classification == c) 1 0) ps
    ∙ table_same (counted (λ c. n c + cond (p.classification == c) 1 0 + of_class c ps)) (counted (λ c. n c + of_class c (p ∷ ps))) 0 256
    (λ c low. ap up_to_limit (let more : of_class c (p ∷ ps) ≡ cond (p.classification == c) 1 0 + of_class c ps = sum_by-cons (λ (q : Point). cond (q.classification == c) 1 0) p ps in
    let z : n c + cond (p.classification == c) 1 0 + of_class c ps ≡ n c + of_class c (p ∷ ps) = omega (arith, more) in z))
  where
    one : (c : ℕ) (b : Bool) → cond b (up_to_limit (counted n c + 1)) (counted n c) ≡ up_to_limit (n c + cond b 1 0)
    one c true = omega arith
    one c false = ap up_to_limit (let z : n c ≡ n c + 0 = omega arith in z)

zeros : (k n : ℕ) → map pos (replicate n 0) ≡ table (counted (λ c. 0)) k n
zeros k zero = refl
zeros k (suc n) = ap (λ z. pos 0 ∷ z) (zeros (k + 1) n)

same_counts : (xs : List ℕ) → map nat_abs (map pos xs) ≡ xs
same_counts [] = refl
same_counts (x ∷ xs) = ap (λ z. x ∷ z) (same_counts xs)

pub text_of_counts : (xs : List ℕ) → count_text (map pos xs) ≡ told_text (came_from 0 xs)
text_of_counts xs = ap (λ z. told_text (came_from 0 z)) (same_counts xs)

pub classes_told : (points : List Point) → count_text (tallied count_with none_counted points) ≡ classes_text points
classes_told points = ap (λ z. count_text (tallied count_with z points)) (zeros 0 256)
    ∙ ap count_text (behind (λ c. 0) points
    ∙ table_same (counted (λ c. 0 + of_class c points)) (counted (λ c. of_class c points)) 0 256 (λ c low. ap up_to_limit (let z : 0 + of_class c points ≡ of_class c points = omega arith in z)))
    ∙ text_of_counts (class_counts points)

-- a point is counted in its class
pub counted_one : (xs : List ℕ) (p : Point) (n : ℕ) → n ≡ up_to_limit (get_or xs p.classification 0 + 1) → map pos (set xs p.classification n) ≡ count_with (map pos xs) p
counted_one xs p n e = map-set pos xs p.classification n
    ∙ ap (λ z. set (map pos xs) p.classification (pos z)) (e ∙ ap (λ z. up_to_limit (nat_abs z + 1)) (sym (here xs p.classification)))
  where
    here : (ys : List ℕ) (i : ℕ) → get_or (map pos ys) i (pos 0) ≡ pos (get_or ys i 0)
    here [] i = refl
    here (y ∷ ys) zero = refl
    here (y ∷ ys) (suc i) = here ys i
