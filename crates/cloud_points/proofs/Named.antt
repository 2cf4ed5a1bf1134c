-- Names in a list, and the dimensions that have them.
use Rattle.std.proofs.Common.{rules, not, length-append, ℕ, ◌≡◌, ◌<◌, refl, Bool, true, false, cond, List, [], ◌∷◌, ◌++◌, length, get_or, Some, None, arith}
use Rattle.std.specs.List.{position_or_len}
use Rattle.std.proofs.Math.ListN.{get_or-append}
use Rattle.std.proofs.Math.Seq.{get_or-append_seam}
use Rattle.std.proofs.lemmas.Slice.Eq.{bytes_eq-Decides}
use Rattle.std.proofs.lemmas.Bool.{lt-ltb, ltb-false}
use Rattle.std.proofs.lemmas.List.Sums.{prefix_len-le-length, fails_before_first, position_or_len_is}
use Rattle.std.proofs.lemmas.List.Quantifiers.{all_pairs_push}
use Rattle.cloud_points.specs.ExtraNames.{same_name, DifferentNames, NoneStandard, place_in, dim_in}
use Rattle.cloud_points.specs.declared.dims.Dim.TheVariants.{Extra}

same_itself : (name : List ℕ) → same_name name name ≡ true
same_itself name = search (rules, bytes_eq-Decides)

none_chosen : (b : Bool) (n : ℕ) → cond b (Some n) None ≡ None → b ≡ false
none_chosen true n h = cc
none_chosen false n h = refl

-- where a name has no place, its position is the length
new_position : (name : List ℕ) (names : List (List ℕ)) → place_in name names ≡ None → position_or_len (same_name name) names ≡ length names
new_position name names h =
    let most = prefix_len-le-length (λ x. not (same_name name x)) names in
    let least = ltb-false (position_or_len (same_name name) names) (length names) (none_chosen _ _ h) in
    omega arith

-- a new name stands at the end of the names to which it is put
pub place_new : (name : List ℕ) (names : List (List ℕ)) → place_in name names ≡ None → place_in name (names ++ name ∷ []) ≡ Some (length names)
place_new name names h =
    let at_end = new_position name names h in
    let more : position_or_len (same_name name) (names ++ name ∷ []) ≡ length names =
    position_or_len_is (same_name name) (names ++ name ∷ []) (length names) [] (omega (arith, length-append names (name ∷ [])))
    (λ k lt. rw (get_or-append names (name ∷ []) [] k lt) (fails_before_first (same_name name) names k [] (omega arith)))
    (λ _. rw (get_or-append_seam names name [] []) (same_itself name)) in
    rw (more, lt-ltb (length names) (length (names ++ name ∷ [])) (omega (arith, length-append names (name ∷ [])))) refl

pub different_new : (name : List ℕ) (names : List (List ℕ)) → place_in name names ≡ None → DifferentNames names → DifferentNames (names ++ name ∷ [])
different_new name names h different =
    all_pairs_push (λ earlier later. same_name later earlier ≡ false) names name different
    (λ k d lt. fails_before_first (same_name name) names k d (omega (arith, new_position name names h)))

-- each of different names stands at its own place
place_own : (names : List (List ℕ)) (k : ℕ) (d : List ℕ) → DifferentNames names → k < length names → place_in (get_or names k d) names ≡ Some k
place_own names k d different lt =
    let first : position_or_len (same_name (get_or names k d)) names ≡ k =
    position_or_len_is (same_name (get_or names k d)) names k d (omega arith) (λ i before. different i k d before lt) (λ _. same_itself (get_or names k d)) in
    rw (first, lt-ltb k (length names) lt) refl

-- a name among different ones, of which none is the standard's, is that of its place
pub extra_back : (place : ℕ) (names : List (List ℕ)) → place < length names → DifferentNames names → NoneStandard names → dim_in (get_or names place []) names ≡ Some (Extra place)
extra_back place names lt different none = rw (none place [] lt, place_own names place [] different lt) refl
