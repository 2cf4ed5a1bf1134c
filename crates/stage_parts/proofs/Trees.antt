-- Each part is a tree.
use Rattle.std.proofs.Common.{◌≡◌, ◌≢◌, ℕ, ◌+◌, ◌-◌, ◌≤◌, ◌<◌, ◌==◌, ◌&&◌, Bool, true, false, true≢false, not, cond, inl, inr, List, [], ◌++◌, length, refl, ap, subst, sym, ◌∙◌, arith, eq-eqb}
use Rattle.std.specs.List.{range_with_len}
use Rattle.std.proofs.lemmas.Bool.{cases_lt, eqb-true}
use Rattle.std.proofs.lemmas.Bool.Decides.{eqb_tells}
use Rattle.std.proofs.lemmas.List.{get_or_past}
use Rattle.std.proofs.lemmas.List.FromFn.{length-map-range_with_len, get_or-map-range_with_len}
use Rattle.network_theory.specs.Shape.{Each, In, IsTree}
use Rattle.network_theory.specs.Forest.{children, count_in, count_all, IsForest}
use Rattle.network_theory.proofs.Forests.{forest-tree}
use Rattle.stage_parts.specs.Parts.{gathers_at, home_at, AreHomes, is_of, strangers, part_children, part_ins}
use Rattle.stage_parts.proofs.Members.{part_children-root, part_children-other}
use Rattle.stage_parts.proofs.Counted.{each-in, in-each, each-append, count_in-append, none-counted, once-counted, once-in_all, in-range, range-below, filtered, kept-counted}
use Rattle.stage_parts.proofs.Tops.{near, near_root, homes-above}

-- ---- the children in a part

module _ (gathers : List Bool) (ins : List (List ℕ)) (homes : List ℕ) (home root : ℕ) where
  pub own : (k : ℕ) → k ≤ root → children (part_ins gathers ins homes home root) k ≡ part_children gathers ins homes home root k
  own k h = get_or-map-range_with_len (part_children gathers ins homes home root) 0 (root + 1) k k [] (omega arith) (omega arith)

  pub beyond : (k : ℕ) → root < k → children (part_ins gathers ins homes home root) k ≡ []
  beyond k h = get_or_past (part_ins gathers ins homes home root) k [] (let n = length-map-range_with_len (part_children gathers ins homes home root) 0 (root + 1) in omega (arith, n))

  pub at_root : children (part_ins gathers ins homes home root) root ≡ children ins root ++ strangers homes home root
  at_root = own root (omega arith) ∙ part_children-root gathers ins homes home root

  within : (k : ℕ) → k < root → children (part_ins gathers ins homes home root) k ≡ cond (is_of homes home k && not (gathers_at gathers k)) (children ins k) []
  within k h = own k (omega arith) ∙ part_children-other gathers ins homes home root k (λ e. omega arith)

  -- an inner node keeps its children
  pub at_inner : (k : ℕ) → k < root → is_of homes home k ≡ true → gathers_at gathers k ≡ false → children (part_ins gathers ins homes home root) k ≡ children ins k
  at_inner k h o g = within k h ∙ rw (o, g)

  -- what gathers or is a stranger is a leaf
  pub at_gathering : (k : ℕ) → k < root → gathers_at gathers k ≡ true → children (part_ins gathers ins homes home root) k ≡ []
  at_gathering k h g = within k h ∙ by_test (is_of homes home k)
    where
      by_test : (b : Bool) → cond (b && not (gathers_at gathers k)) (children ins k) [] ≡ []
      by_test true = rw g
      by_test false = refl

  pub at_stranger : (k : ℕ) → k < root → is_of homes home k ≡ false → children (part_ins gathers ins homes home root) k ≡ []
  at_stranger k h o = within k h ∙ rw o

not-eqb : (a b : ℕ) → not (a == b) ≡ true → a ≢ b
not-eqb a b h e = true≢false (sym h ∙ ap not (eq-eqb a b e))

pub strange : (homes : List ℕ) (home root j : ℕ) → In j (strangers homes home root) → (j < root) × (home_at homes j ≢ home)
strange homes home root j h =
    let f = filtered (λ i. not (is_of homes home i)) j (range_with_len 0 root) h in
    ((let b = range-below j 0 root f.0 in omega arith), not-eqb (home_at homes j) home f.1)

-- ---- a home and its root

-- the root takes of this home alone, and each node of the home that another node takes has an inner node of the part above it
record IsPart (gathers : List Bool) (ins : List (List ℕ)) (homes : List ℕ) (home root : ℕ) : Type 0 where
  pub inside : root < length ins
  pub nearest : (j : ℕ) → In j (children ins root) → home_at homes j ≡ home
  pub inner : (j k : ℕ) → In j (children ins k) → k < length ins → home_at homes j ≡ home → k ≢ root
      → (k < root) × (home_at homes k ≡ home) × (gathers_at gathers k ≡ false)

module _ (gathers : List Bool) (ins : List (List ℕ)) (homes : List ℕ) (forest : IsForest ins (length ins - 1)) (are : AreHomes gathers ins homes) where
  gathered-part : (w : ℕ) → w < length ins → gathers_at gathers w ≡ true → IsPart gathers ins homes w w
  gathered-part w b g = record {
    inside = b;
    nearest = λ j i. near_root gathers ins homes w j are g i;
    inner = λ j k i l h ne. by_test j k i l h ne (gathers_at gathers k) refl;
  }
    where
      by_test : (j k : ℕ) → In j (children ins k) → k < length ins → home_at homes j ≡ w → k ≢ w → (t : Bool) → gathers_at gathers k ≡ t
          → (k < w) × (home_at homes k ≡ w) × (gathers_at gathers k ≡ false)
      by_test j k i l h ne true t = absurd (ne (sym (near_root gathers ins homes k j are t i) ∙ h))
      by_test j k i l h ne false t =
          let e = sym (near gathers ins homes (home_at homes k) k j are t refl i) ∙ h in
          let a = (homes-above gathers ins homes forest are k l).above in
          (omega (arith, e, a), e, t)

  last-part : gathers_at gathers (length ins - 1) ≡ false → IsPart gathers ins homes (length ins) (length ins - 1)
  last-part g = record {
    inside = (let n = forest.nodes in omega arith);
    nearest = λ j i. near gathers ins homes (length ins) (length ins - 1) j are g are.root i;
    inner = λ j k i l h ne. by_test j k i l h ne (gathers_at gathers k) refl;
  }
    where
      by_test : (j k : ℕ) → In j (children ins k) → k < length ins → home_at homes j ≡ length ins → k ≢ length ins - 1 → (t : Bool) → gathers_at gathers k ≡ t
          → (k < length ins - 1) × (home_at homes k ≡ length ins) × (gathers_at gathers k ≡ false)
      by_test j k i l h ne true t = absurd (let e = sym (near_root gathers ins homes k j are t i) ∙ h in omega (arith, e))
      by_test j k i l h ne false t =
          let e = sym (near gathers ins homes (home_at homes k) k j are t refl i) ∙ h in
          (omega arith, e, t)

  -- ---- the tree of a part

  module _ (home root : ℕ) (part : IsPart gathers ins homes home root) where
    abbrev here : ℕ → List ℕ
    here k = children (part_ins gathers ins homes home root) k

    abbrev others : List ℕ
    others = strangers homes home root

    tree : IsTree (children ins) (length ins - 1)
    tree = forest-tree ins (length ins - 1) forest

    parent-unique : (j k : ℕ) → In j (children ins k) → tree.parent j ≡ k
    parent-unique j k i = in-each (λ z. tree.parent z ≡ k) j (children ins k) i (tree.owned k)

    -- a node behind the root has no children, and one before it keeps its own where it is inner
    record IsInner (j k : ℕ) : Type 0 where
      pub before : k < root
      pub home_is : home_at homes k ≡ home
      pub streams : gathers_at gathers k ≡ false
      pub child : In j (children ins k)

    inner-list : (j k : ℕ) → k ≢ root → In j (here k) → IsInner j k
    inner-list j k ne i = elim (cases_lt k root) [
      | inl b ↦ by_test b (is_of homes home k) (gathers_at gathers k) refl refl (subst (In j) (within gathers ins homes home root k b) i)
      | inr b ↦ absurd (subst (In j) (beyond gathers ins homes home root k (omega arith)) i)
    ]
      where
        by_test : k < root → (o g : Bool) → is_of homes home k ≡ o → gathers_at gathers k ≡ g → In j (cond (o && not g) (children ins k) []) → IsInner j k
        by_test b true false eo eg z = record { before = b; home_is = eqb-true _ _ eo; streams = eg; child = z }
        by_test b true true eo eg z = absurd z
        by_test b false g eo eg z = absurd z

    root-counted : (j : ℕ) → count_in j (here root) ≡ count_in j (children ins root) + count_in j others
    root-counted j = ap (count_in j) (at_root gathers ins homes home root) ∙ count_in-append j (children ins root) others

    -- ---- a node of this home stands where it stood

    no_stranger : (j : ℕ) → home_at homes j ≡ home → count_in j others ≡ 0
    no_stranger j h = none-counted j others (λ i. (strange homes home root j i).1 h)

    own-once : (j k : ℕ) → In j (children ins k) → count_in j (children ins k) ≡ 1
    own-once j k i = once-counted j (children ins k) (tree.apart k) i

    not_elsewhere : (j k : ℕ) → k ≢ tree.parent j → count_in j (children ins k) ≡ 0
    not_elsewhere j k ne = none-counted j (children ins k) (λ i. ne (sym (parent-unique j k i)))

    own-elsewhere : (j : ℕ) → home_at homes j ≡ home → (k : ℕ) → k ≢ tree.parent j → count_in j (here k) ≡ 0
    own-elsewhere j h k ne = elim (eqb_tells k root) [
      | inl p ↦ ap (λ z. count_in j (here z)) p.1 ∙ root-counted j
          ∙ (let a = not_elsewhere j root (λ e. ne (p.1 ∙ e)) in let b = no_stranger j h in omega (arith, a, b))
      | inr p ↦ none-counted j (here k) (λ i. ne (sym (parent-unique j k (inner-list j k p.1 i).child)))
    ]

    own-there : (j k : ℕ) → home_at homes j ≡ home → k < length ins → In j (children ins k) → count_in j (here k) ≡ 1
    own-there j k h b i = elim (eqb_tells k root) [
      | inl p ↦ ap (λ z. count_in j (here z)) p.1 ∙ root-counted j
          ∙ (let a = own-once j root (subst (λ z. In j (children ins z)) p.1 i) in let n = no_stranger j h in omega (arith, a, n))
      | inr p ↦ (let q = part.inner j k i b h p.1 in
          ap (count_in j) (at_inner gathers ins homes home root k q.0 (eq-eqb (home_at homes k) home q.1) q.2) ∙ own-once j k i)
    ]

    own-all : (j : ℕ) → j < root → home_at homes j ≡ home → count_all j (part_ins gathers ins homes home root) ≡ 1
    own-all j b h =
        let inside = part.inside in
        let c = tree.child j (omega arith) in
        once-in_all j (tree.parent j) (part_ins gathers ins homes home root)
        (own-there j (tree.parent j) h (let u = c.1 in omega (arith, u, inside)) c.2)
        (own-elsewhere j h)

    -- ---- a stranger stands at the root

    stranger-once : (j : ℕ) → j < root → is_of homes home j ≡ false → count_in j others ≡ 1
    stranger-once j b o = kept-counted (λ i. not (is_of homes home i)) j (range_with_len 0 root) (ap not o) ∙ in-range j 0 root (omega arith) (omega arith)

    stranger-elsewhere : (j : ℕ) → home_at homes j ≢ home → (k : ℕ) → k ≢ root → count_in j (here k) ≡ 0
    stranger-elsewhere j out k ne = none-counted j (here k) (λ i.
        let l = inner-list j k ne i in
        out (near gathers ins homes home k j are l.streams l.home_is l.child))

    stranger-all : (j : ℕ) → j < root → is_of homes home j ≡ false → home_at homes j ≢ home → count_all j (part_ins gathers ins homes home root) ≡ 1
    stranger-all j b o out =
        once-in_all j root (part_ins gathers ins homes home root)
        (root-counted j ∙ (let a = none-counted j (children ins root) (λ i. out (part.nearest j i)) in let s = stranger-once j b o in omega (arith, a, s)))
        (stranger-elsewhere j out)

    -- ---- the forest

    below-root : Each (λ j. j < root) (here root)
    below-root = subst (Each (λ j. j < root)) (sym (at_root gathers ins homes home root))
        (each-append (λ j. j < root) (children ins root) others (forest.below root) (each-in (λ j. j < root) others (λ j i. (strange homes home root j i).0)))

    below-each : (k : ℕ) → Each (λ j. j < k) (here k)
    below-each k = elim (eqb_tells k root) [
      | inl p ↦ subst (λ z. Each (λ j. j < z) (here z)) (sym p.1) below-root
      | inr p ↦ each-in (λ j. j < k) (here k) (λ j i. in-each (λ z. z < k) j (children ins k) (inner-list j k p.1 i).child (forest.below k))
    ]

    part-forest : IsForest (part_ins gathers ins homes home root) root
    part-forest = record {
      nodes = length-map-range_with_len (part_children gathers ins homes home root) 0 (root + 1);
      below = below-each;
      once = λ j b. elim (eqb_tells (home_at homes j) home) [
        | inl p ↦ own-all j b p.1
        | inr p ↦ stranger-all j b p.0 p.1
      ];
    }

pub gathered-forest : (gathers : List Bool) (ins : List (List ℕ)) (homes : List ℕ) (w : ℕ) → IsForest ins (length ins - 1) → AreHomes gathers ins homes
    → w < length ins → gathers_at gathers w ≡ true → IsForest (part_ins gathers ins homes w w) w
gathered-forest gathers ins homes w forest are b g = part-forest gathers ins homes forest are w w (gathered-part gathers ins homes forest are w b g)

pub last-forest : (gathers : List Bool) (ins : List (List ℕ)) (homes : List ℕ) → IsForest ins (length ins - 1) → AreHomes gathers ins homes
    → gathers_at gathers (length ins - 1) ≡ false → IsForest (part_ins gathers ins homes (length ins) (length ins - 1)) (length ins - 1)
last-forest gathers ins homes forest are g = part-forest gathers ins homes forest are (length ins) (length ins - 1) (last-part gathers ins homes forest are g)
