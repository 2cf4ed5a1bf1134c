-- Totals of points with one more.
use Rattle.std.proofs.Common.{◌≡◌, ◌≢◌, ℕ, zero, suc, ◌+◌, ◌-◌, ◌^◌, ◌<◌, pos, Bool, true, false, cond, List, [], ◌∷◌, ◌++◌, length, set, get_or, refl, ap, ◌∙◌, arith, length-append, eq-eqb, ne_eqb, ltb-true, ltb-false}
use Rattle.std.specs.Prelude.{◌==◌, nat_lt, neg_ℤ, if◌then◌else◌}
use Rattle.std.specs.List.{count_by}
use Rattle.std.specs.Int.{int_min, int_max}
use Rattle.std.proofs.lemmas.List.{map-append}
use Rattle.std.proofs.lemmas.List.Sums.{sum_by_push, fold-append}
use Rattle.cloud_points.specs.declared.point.Point.{Point}
use Rattle.file_devices.specs.Counts.{saturating}
use Rattle.forward_rules.specs.declared.form.LasForm.{LasForm}
use Rattle.las_writer.specs.Records.{point_record, raw_number}
use Rattle.cloud_points.specs.Queue.{up_to_limit}
use Rattle.las_writer.specs.Totals.{returns_from, least, greatest, raws, totals_of, one_more, with_record}

-- a count with one more
up_by_one : (n : ℕ) → up_to_limit (n + 1) ≡ saturating (up_to_limit n) 1
up_by_one n = omega arith

same_count : (k : ℕ) (points : List Point) (p : Point) → (p.return_number == k) ≡ false → count_by (λ q. q.return_number == k) (points ++ p ∷ []) ≡ count_by (λ q. q.return_number == k) points
same_count k points p h = sum_by_push (λ q. cond (q.return_number == k) 1 0) points p ∙ ap (λ b. count_by (λ q. q.return_number == k) points + cond b 1 0) h ∙ omega arith

more_count : (k : ℕ) (points : List Point) (p : Point) → (p.return_number == k) ≡ true → count_by (λ q. q.return_number == k) (points ++ p ∷ []) ≡ count_by (λ q. q.return_number == k) points + 1
more_count k points p h = sum_by_push (λ q. cond (q.return_number == k) 1 0) points p ∙ ap (λ b. count_by (λ q. q.return_number == k) points + cond b 1 0) h

-- counts of other return numbers
others_stay : (n k : ℕ) (points : List Point) (p : Point) → ((i : ℕ) → i < n → p.return_number ≢ k + i) → returns_from n k (points ++ p ∷ []) ≡ returns_from n k points
unfolding returns_from
others_stay zero k points p h = refl
others_stay (suc n) k points p h =
    let here : p.return_number ≢ k = λ e. h 0 (omega arith) (omega arith) in
    let there : (i : ℕ) → i < n → p.return_number ≢ k + 1 + i = λ i l e. h (suc i) (omega arith) (omega arith) in
    ap (λ m. up_to_limit m ∷ returns_from n (k + 1) (points ++ p ∷ [])) (same_count k points p (ne_eqb p.return_number k here))
    ∙ ap (λ counts. up_to_limit (count_by (λ q. q.return_number == k) points) ∷ counts) (others_stay n (k + 1) points p there)

-- counts of which one is of the point's return number
one_rises : (n k i : ℕ) (points : List Point) (p : Point) → i < n → p.return_number ≡ k + i
    → returns_from n k (points ++ p ∷ []) ≡ set (returns_from n k points) i (saturating (get_or (returns_from n k points) i 0) 1)
unfolding returns_from
one_rises zero k i points p l e = absurd (omega arith)
one_rises (suc n) k zero points p l e =
    let here : p.return_number ≡ k = omega arith in
    let there : (i : ℕ) → i < n → p.return_number ≢ k + 1 + i = λ i l is. absurd (omega arith) in
    let count = count_by (λ q. q.return_number == k) points in
    ap (λ m. up_to_limit m ∷ returns_from n (k + 1) (points ++ p ∷ [])) (more_count k points p (eq-eqb p.return_number k here))
    ∙ ap (λ m. m ∷ returns_from n (k + 1) (points ++ p ∷ [])) (up_by_one count)
    ∙ ap (λ counts. saturating (up_to_limit count) 1 ∷ counts) (others_stay n (k + 1) points p there)
one_rises (suc n) k (suc i) points p l e =
    let here : p.return_number ≢ k = λ is. absurd (omega arith) in
    ap (λ m. up_to_limit m ∷ returns_from n (k + 1) (points ++ p ∷ [])) (same_count k points p (ne_eqb p.return_number k here))
    ∙ ap (λ counts. up_to_limit (count_by (λ q. q.return_number == k) points) ∷ counts) (one_rises n (k + 1) i points p (omega arith) (omega arith))

returns_one_more : (points : List Point) (p : Point) → returns_from 16 0 (points ++ p ∷ []) ≡ one_more (returns_from 16 0 points) p.return_number
returns_one_more points p = by (nat_lt p.return_number 16) refl
  where
    by : (b : Bool) → nat_lt p.return_number 16 ≡ b
        → returns_from 16 0 (points ++ p ∷ []) ≡ (if b then set (returns_from 16 0 points) p.return_number (saturating (get_or (returns_from 16 0 points) p.return_number 0) 1) else returns_from 16 0 points)
    by true e = one_rises 16 0 p.return_number points p (ltb-true p.return_number 16 e) (omega arith)
    by false e = let above = ltb-false p.return_number 16 e in others_stay 16 0 points p (λ i l is. absurd (omega arith))

-- the least and the greatest number with one more
least_with : (form : LasForm) (axis : ℕ) (points : List Point) (p : Point) → least (raws form axis (points ++ p ∷ [])) ≡ int_min (least (raws form axis points)) (raw_number axis (point_record form p))
least_with form axis points p =
    ap least (map-append (λ q. raw_number axis (point_record form q)) points (p ∷ [])) ∙ fold-append int_min (pos (2 ^ 31 - 1)) (raws form axis points) (raw_number axis (point_record form p) ∷ [])

greatest_with : (form : LasForm) (axis : ℕ) (points : List Point) (p : Point) → greatest (raws form axis (points ++ p ∷ [])) ≡ int_max (greatest (raws form axis points)) (raw_number axis (point_record form p))
greatest_with form axis points p =
    ap greatest (map-append (λ q. raw_number axis (point_record form q)) points (p ∷ [])) ∙ fold-append int_max (neg_ℤ (pos (2 ^ 31))) (raws form axis points) (raw_number axis (point_record form p) ∷ [])

-- the totals of points with one more
pub totals_grow : (form : LasForm) (points : List Point) (p : Point) → totals_of form (points ++ p ∷ []) ≡ with_record (totals_of form points) p.return_number (point_record form p)
unfolding totals_of with_record
totals_grow form points p =
    let count : up_to_limit (length (points ++ p ∷ [])) ≡ saturating (up_to_limit (length points)) 1 = ap up_to_limit (length-append points (p ∷ [])) ∙ up_by_one (length points) in
    λ i. record {
      count = count i;
      returns = returns_one_more points p i;
      least = least_with form 0 points p i ∷ least_with form 1 points p i ∷ least_with form 2 points p i ∷ [];
      greatest = greatest_with form 0 points p i ∷ greatest_with form 1 points p i ∷ greatest_with form 2 points p i ∷ [];
    }
