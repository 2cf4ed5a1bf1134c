-- Fields that are moved one after another.
use Rattle.std.proofs.Common.{◌≡◌, ℕ, zero, suc, ◌+◌, ◌<◌, ◌≤◌, All, List, [], ◌∷◌, ◌++◌, length, take, drop, get_or, map, slice_set, refl, ap, sym, subst, ◌∙◌, arith, append-nil}
use Rattle.std.proofs.lemmas.List.{take_all}
use Rattle.std.proofs.Math.ListN.{drop_of_length-le}
use Rattle.cloud_points.specs.declared.extra.ExtraField.{ExtraField}
use Rattle.extra_bytes.specs.Fields.{moved}

-- the first k were moved
abbrev pub moving : ℕ → ℕ → List ExtraField → List ExtraField
moving by k fields = map (moved by) (take k fields) ++ drop k fields

next_field : (by k : ℕ) (fields : List ExtraField) (d : ExtraField) → k < length fields → get_or (moving by k fields) k d ≡ get_or fields k d
next_field by k [] d l = absurd (omega (arith, l))
next_field by zero (f ∷ fields) d l = refl
next_field by (suc k) (f ∷ fields) d l = next_field by k fields d (omega (arith, l))

next_moved : (by k : ℕ) (fields : List ExtraField) (d : ExtraField) → k < length fields → slice_set (moving by k fields) k (moved by (get_or fields k d)) ≡ moving by (suc k) fields
next_moved by k [] d l = absurd (omega (arith, l))
next_moved by zero (f ∷ fields) d l = refl
next_moved by (suc k) (f ∷ fields) d l = ap (λ l. moved by f ∷ l) (next_moved by k fields d (omega (arith, l)))

pub move_near : (by k : ℕ) (fields now : List ExtraField) (d : ExtraField) → now ≡ moving by k fields → k < length fields → All (λ (f : ExtraField). f.at ≤ 64) fields → (get_or now k d).at ≤ 64
move_near by k fields now d is l near =
    subst (λ (f : ExtraField). f.at ≤ 64) (sym (ap (λ fs. get_or fs k d) is ∙ next_field by k fields d l)) (near k d l)

pub move_next : (by k : ℕ) (fields now : List ExtraField) (d : ExtraField) → now ≡ moving by k fields → k < length fields → slice_set now k (moved by (get_or now k d)) ≡ moving by (k + 1) fields
move_next by k fields now d is l =
    let number : suc k ≡ k + 1 = omega arith in
    ap (λ fs. slice_set fs k (moved by (get_or fs k d))) is ∙ ap (λ f. slice_set (moving by k fields) k (moved by f)) (next_field by k fields d l) ∙ next_moved by k fields d l ∙ ap (λ n. moving by n fields) number

pub move_all : (by k : ℕ) (fields now : List ExtraField) → now ≡ moving by k fields → length fields ≤ k → now ≡ map (moved by) fields
move_all by k fields now is l =
    is ∙ ap (λ fs. map (moved by) (take k fields) ++ fs) (drop_of_length-le fields l) ∙ append-nil (map (moved by) (take k fields)) ∙ ap (map (moved by)) (take_all k fields l)

-- a list that takes the place of one with as many
pub put_back : (n : ℕ) (now items : List ExtraField) → n ≡ length items → length now ≡ length items → take n (now ++ drop (length now) items) ≡ now
put_back n now items count same =
    let none : drop (length now) items ≡ [] = drop_of_length-le items (omega (arith, same)) in
    ap (λ fs. take n (now ++ fs)) none ∙ ap (take n) (append-nil now) ∙ take_all n now (omega (arith, count, same))
