-- Counts that are told step by step, and the order in which files are opened.
use Rattle.std.proofs.Common.{◌≡◌, ℕ, zero, suc, ◌+◌, ◌<◌, ◌⊎◌, true, false, if◌then◌else◌, List, [], ◌∷◌, ◌++◌, map, length, slice_get, Option, Some, None, option_map, refl, ap, sym, ◌∙◌, inl, inr, arith, append_assoc}
use Rattle.std.proofs.lemmas.Grind.{flat_map-append}
use Rattle.std.proofs.lemmas.Option.{none-some, same_Some}
use Rattle.file_devices.specs.Counts.{all_listed, listed}
use Rattle.file_devices.specs.Told.{IsAsTold}
use Rattle.stage_options.specs.Roles.{Role, Reads, Filters, Gathers, Writes, WritesEach, is_reading, is_writing}
use Rattle.stage_options.specs.declared.stage.StageSpec.{StageSpec}
use Rattle.answer_model.specs.Values.{role_at}
use Rattle.run_outcome.specs.Least.{OpensBefore, has_file, opens_at}

-- what is behind others that are told
pub behind : (o : Option (List ℕ)) (ns xs : List ℕ) → option_map (λ cs. ns ++ cs) o ≡ Some xs → (zs : List ℕ) × (o ≡ Some zs) × (ns ++ zs ≡ xs)
behind None ns xs e = absurd (none-some xs e)
behind (Some zs) ns xs e = (zs, refl, same_Some (ns ++ zs) xs e)

-- what is told in two steps
pub told-on : (a b : List ℕ) (first mid last : Option (List ℕ)) → IsAsTold mid (option_map (λ cs. a ++ cs) first) → IsAsTold last (option_map (λ cs. b ++ cs) mid) → IsAsTold last (option_map (λ cs. (b ++ a) ++ cs) first)
told-on a b first mid last one two xs e =
    let (zs, was, more) = behind mid b xs (two xs e) in
    let (ys, at, whole) = behind first a zs (one zs was) in
    ap (option_map (λ cs. (b ++ a) ++ cs)) at ∙ ap (λ l. Some l) (append_assoc b a ys ∙ ap (λ l. b ++ l) whole ∙ more)

-- the counts of objects in front, of one, and of those behind it
pub listed-parts : (xs ys : List (Option ℕ)) (y : Option ℕ) → all_listed (xs ++ y ∷ ys) ≡ all_listed xs ++ (listed y ++ all_listed ys)
listed-parts xs ys y = flat_map-append listed xs (y ∷ ys)

-- where an element of such a list stands
pub placed : {A : Type 0} (xs ys : List A) (y z : A) (j : ℕ) → slice_get (xs ++ y ∷ ys) j ≡ Some z
    → ((j < length xs) × (slice_get xs j ≡ Some z)) ⊎ (((j ≡ length xs) × (y ≡ z)) ⊎ ((k : ℕ) × (j ≡ length xs + 1 + k) × (slice_get ys k ≡ Some z)))
placed [] ys y z zero e = inr (inl (refl, same_Some y z e))
placed [] ys y z (suc j) e = inr (inr (j, omega arith, e))
placed (x ∷ xs) ys y z zero e = inl (omega arith, e)
placed (x ∷ xs) ys y z (suc j) e = elim (placed xs ys y z j e) [
  | inl p ↦ inl (let l = p.0 in omega (arith, l), p.1)
  | inr q ↦ elim q [
    | inl p ↦ inr (inl (let l = p.0 in omega (arith, l), p.1))
    | inr p ↦ inr (inr (p.0, (let l = p.1 in omega (arith, l)), p.2))
  ]
]

pub in-middle : {A : Type 0} (xs ys : List A) (y : A) → slice_get (xs ++ y ∷ ys) (length xs) ≡ Some y
in-middle [] ys y = refl
in-middle (x ∷ xs) ys y = in-middle xs ys y

-- where an element of a mapped list comes from
pub mapped-from : {A B : Type 0} (f : A → B) (xs : List A) (i : ℕ) (y : B) → slice_get (map f xs) i ≡ Some y → (x : A) × (slice_get xs i ≡ Some x) × (f x ≡ y)
mapped-from f [] i y e = absurd (none-some y e)
mapped-from f (x ∷ xs) zero y e = (x, refl, same_Some (f x) y e)
mapped-from f (x ∷ xs) (suc i) y e = mapped-from f xs i y e

-- a file is read or it is written
pub file-kind : (role : Role) → has_file role ≡ true → (is_reading role ≡ true) ⊎ (is_writing role ≡ true)
file-kind (Reads name) e = inl refl
file-kind Filters e = cc
file-kind Gathers e = cc
file-kind (Writes name) e = inr refl
file-kind (WritesEach name) e = cc

pub reads-file : (role : Role) → is_reading role ≡ true → has_file role ≡ true
reads-file (Reads name) e = refl
reads-file Filters e = cc
reads-file Gathers e = cc
reads-file (Writes name) e = cc
reads-file (WritesEach name) e = cc

pub writes-file : (role : Role) → is_writing role ≡ true → has_file role ≡ true
writes-file (Reads name) e = cc
writes-file Filters e = cc
writes-file Gathers e = cc
writes-file (Writes name) e = refl
writes-file (WritesEach name) e = cc

-- not both
pub not-written : (role : Role) → is_reading role ≡ true → is_writing role ≡ false
not-written (Reads name) e = refl
not-written Filters e = refl
not-written Gathers e = refl
not-written (Writes name) e = cc
not-written (WritesEach name) e = refl

in-front : (count i : ℕ) (role : Role) → is_reading role ≡ true → opens_at count role i ≡ i
in-front count i role e = ap (λ b. if b then count + i else i) (not-written role e)

at-end : (count i : ℕ) (role : Role) → is_writing role ≡ true → opens_at count role i ≡ count + i
at-end count i role e = ap (λ b. if b then count + i else i) e

module _ (stages : List StageSpec) (j i : ℕ) where
  -- before a file that is read come those that earlier stages read, and no others
  pub before-reading : is_reading (role_at stages i) ≡ true → i < length stages → is_reading (role_at stages j) ≡ true → j < i → OpensBefore stages j i
  before-reading here inside there less = record {
    inside = omega (arith, inside, less);
    has = reads-file (role_at stages j) there;
    sooner = (let a = in-front (length stages) j (role_at stages j) there in let b = in-front (length stages) i (role_at stages i) here in omega (arith, a, b, less));
  }

  pub reading-sooner : is_reading (role_at stages i) ≡ true → i < length stages → OpensBefore stages j i → (is_reading (role_at stages j) ≡ true) × (j < i)
  reading-sooner here inside before =
      let b = in-front (length stages) i (role_at stages i) here in
      let s = before.sooner in
      elim (file-kind (role_at stages j) before.has) [
        | inl there ↦ (there, (let a = in-front (length stages) j (role_at stages j) there in omega (arith, a, b, s)))
        | inr there ↦ absurd (let a = at-end (length stages) j (role_at stages j) there in omega (arith, a, b, s, inside))
      ]

  -- before one that is written come all that are read, and those that earlier stages write
  pub before-writing : is_writing (role_at stages i) ≡ true → j < length stages → has_file (role_at stages j) ≡ true → (is_reading (role_at stages j) ≡ true) ⊎ (j < i) → OpensBefore stages j i
  before-writing here inside has either = record {
    inside = inside;
    has = has;
    sooner = (
        let b = at-end (length stages) i (role_at stages i) here in
        elim (file-kind (role_at stages j) has) [
          | inl there ↦ (let a = in-front (length stages) j (role_at stages j) there in omega (arith, a, b, inside))
          | inr there ↦ elim either [
            | inl read ↦ (let no = sym (not-written (role_at stages j) read) ∙ there in absurd cc)
            | inr less ↦ (let a = at-end (length stages) j (role_at stages j) there in omega (arith, a, b, less))
          ]
        ]);
  }

  pub writing-later : is_writing (role_at stages i) ≡ true → OpensBefore stages j i → (is_reading (role_at stages j) ≡ true) ⊎ (j < i)
  writing-later here before = elim (file-kind (role_at stages j) before.has) [
    | inl there ↦ inl there
    | inr there ↦ inr (
        let a = at-end (length stages) j (role_at stages j) there in
        let b = at-end (length stages) i (role_at stages i) here in
        let s = before.sooner in
        omega (arith, a, b, s))
  ]
