-- Points that move along cycles of places, some of them at once.
use Rattle.std.proofs.Common.{◌≡◌, ℕ, zero, suc, ◌+◌, ◌<◌, ◌≤◌, ◌⊎◌, inl, inr, List, [], ◌∷◌, ◌++◌, length, get_or, set, cond, eqb, refl, ⊎_elim, subst, ap, sym, ◌∙◌, arith}
use Rattle.std.proofs.lemmas.Bool.{cases_eq, cases_lt}
use Rattle.std.proofs.lemmas.Bool.Decides.{nat_tests}
use Rattle.std.proofs.lemmas.List.{length-set, get_or-set_same, get_or-set_other}
use Rattle.cloud_points.specs.Points.{zero_point}
use Rattle.cloud_points.specs.declared.point.Point.{Point}
use Rattle.packed_chunk.specs.Places.{ArePlaces, IsSettled}
use Rattle.packed_chunk.proofs.Members.{In, Apart, in_less, in_more, in_mid, apart_less, apart_mid, apart_more, length_mid, Without, without}

-- a place is settled once it is its own source
abbrev pub Unsettled : List ℕ → ℕ → Type 0
Unsettled xs k = get_or xs k 0 ≡ k → ⊥

-- how many places from a number on are not their own source
abbrev apart : ℕ → ℕ → ℕ
apart x i = cond (eqb x i) 0 1

abbrev pub count_from : ℕ → List ℕ → ℕ
count_from i [] = 0
count_from i (x ∷ xs) = apart x i + count_from (suc i) xs

apart_same : (x i : ℕ) → x ≡ i → apart x i ≡ 0
apart_same x i e = grind (arith, nat_tests)

apart_off : (x i : ℕ) → (x ≡ i → ⊥) → apart x i ≡ 1
apart_off x i n = grind (arith, nat_tests)

-- one less once one more is
fewer_from : (xs : List ℕ) (i k there : ℕ) → k < length xs → there ≡ i + k → (get_or xs k 0 ≡ there → ⊥) → count_from i (set xs k there) + 1 ≡ count_from i xs
fewer_from [] i k there l at u = absurd (omega (arith, l))
fewer_from (x ∷ xs) i zero there l at u = omega (arith, apart_same there i (omega (arith, at)), apart_off x i (λ q. u (omega (arith, q, at))))
fewer_from (x ∷ xs) i (suc k) there l at u = omega (arith, fewer_from xs (suc i) k there (omega (arith, l)) (omega (arith, at)) u)

pub fewer : (xs : List ℕ) (k : ℕ) → k < length xs → Unsettled xs k → count_from 0 (set xs k k) + 1 ≡ count_from 0 xs
fewer xs k l u = fewer_from xs 0 k k l (omega arith) u

-- one of the places whose rows are in hand
abbrev pub Taken : ℕ → ℕ → ℕ → Type 0
Taken start end k = (start ≤ k) × (k < end)

pub is_taken : (start end k : ℕ) → Taken start end k ⊎ (Taken start end k → ⊥)
is_taken start end k = ⊎_elim
    (λ low. inr (λ t. omega (arith, low, t.0)))
    (λ high. ⊎_elim (λ l. inl (high, l)) (λ g. inr (λ t. omega (arith, g, t.1))) (cases_lt k end))
    (cases_lt k start)

-- a settled place with this source
pub record Came (n : ℕ) (old now : List ℕ) (source : ℕ) : Type 0 where
  pub place : ℕ
  pub inside : place < n
  pub settled : get_or now place 0 ≡ place
  pub from : get_or old place 0 ≡ source

-- The sources on the way: each is as at the beginning or settled, and what is not settled leads to a row in hand, or to what is
-- neither settled nor free. As many rows in hand are waited for as places are free; the places of the others are settled.
pub record Walks (n start end : ℕ) (old now free : List ℕ) : Type 0 where
  pub each : length now ≡ n
  pub kept : (k : ℕ) → k < n → (get_or now k 0 ≡ k) ⊎ (get_or now k 0 ≡ get_or old k 0)
  pub inside : (k : ℕ) → In k free → k < n
  pub left : (k : ℕ) → In k free → Unsettled now k
  pub apart : Apart free
  pub onward : (k : ℕ) → k < n → Unsettled now k → Taken start end (get_or old k 0) ⊎ (Unsettled now (get_or old k 0) × (In (get_or old k 0) free → ⊥))
  pub here : (k : ℕ) → Taken start end k → (get_or now k 0 ≡ k) ⊎ In k free
  pub waiting : List ℕ
  pub as_many : length waiting ≡ length free
  pub given : (b : ℕ) → Taken start end b → In b waiting ⊎ Came n old now b

-- The points on the way, but for the places that are free: where a place is settled its point has come, and elsewhere the old
-- one stands.
pub record Carries (n : ℕ) (old now free : List ℕ) (points after : List Point) : Type 0 where
  pub many : length after ≡ n
  pub come : (k : ℕ) → k < n → get_or now k 0 ≡ k → get_or after k zero_point ≡ get_or points (get_or old k 0) zero_point
  pub stays : (k : ℕ) → k < n → Unsettled now k → (In k free → ⊥) → get_or after k zero_point ≡ get_or points k zero_point

module _ (n start end : ℕ) (old : List ℕ) (places : ArePlaces n old) where
  -- at the beginning the places are free whose rows are in hand, but for the settled ones
  pub walks_first : (free : List ℕ) → end ≤ n → ((k : ℕ) → In k free → Taken start end k × Unsettled old k) → Apart free
      → ((k : ℕ) → Taken start end k → Unsettled old k → In k free) → Walks n start end old old free
  walks_first free inside each apart all = record {
    each = places.each;
    kept = λ k l. inr refl;
    inside = λ k f. omega (arith, (each k f).0.1, inside);
    left = λ k f. (each k f).1;
    apart = apart;
    onward = λ k l u. ⊎_elim
        (λ t. inl t)
        (λ off. inr (λ s. u (places.once (get_or old k 0) k (places.low k l) l s), λ f. off (each (get_or old k 0) f).0))
        (is_taken start end (get_or old k 0));
    here = λ k t. ⊎_elim (λ s. inl s) (λ u. inr (all k t u)) (cases_eq (get_or old k 0) k);
    waiting = free;
    as_many = refl;
    given = λ b t. ⊎_elim (λ s. inr (record { place = b; inside = omega (arith, t.1, inside); settled = s; from = s })) (λ u. inl (all b t u)) (cases_eq (get_or old b 0) b);
  }

  pub carries_first : (free : List ℕ) (points : List Point) → length points ≡ n → Carries n old old free points points
  carries_first free points many = record {
    many = many;
    come = λ k l s. ap (λ z. get_or points z zero_point) (sym s);
    stays = λ k l u f. refl;
  }

  module _ (before after : List ℕ) (place : ℕ) (now : List ℕ) (w : Walks n start end old now (before ++ place ∷ after)) where
    abbrev next : List ℕ
    next = set now place place

    abbrev from : ℕ
    from = get_or old place 0

    at : In place (before ++ place ∷ after)
    at = in_mid place before after

    place_in : place < n
    place_in = w.inside place at

    -- the source that is read is the first one
    pub source_is : get_or now place 0 ≡ from
    source_is = ⊎_elim (λ s. absurd (w.left place at s)) (λ s. s) (w.kept place place_in)

    off_itself : from ≡ place → ⊥
    off_itself q = w.left place at (source_is ∙ q)

    pub from_in : from < n
    from_in = places.low place place_in

    pub from_left : Unsettled old from
    from_left s = off_itself (places.once from place from_in place_in s)

    same_at : get_or next place 0 ≡ place
    same_at = get_or-set_same now place place 0 (omega (arith, w.each, place_in))

    settled_at : (k : ℕ) → k ≡ place → get_or next k 0 ≡ k
    settled_at k q = ap (λ z. get_or next z 0) q ∙ same_at ∙ sym q

    other_at : (k : ℕ) → (k ≡ place → ⊥) → get_or next k 0 ≡ get_or now k 0
    other_at k off = get_or-set_other now place k place 0 off

    -- what is settled stays so
    stays_settled : (k : ℕ) → get_or now k 0 ≡ k → get_or next k 0 ≡ k
    stays_settled k s = ⊎_elim (λ q. settled_at k q) (λ off. other_at k off ∙ s) (cases_eq k place)

    came_yet : (b : ℕ) → Came n old now b → Came n old next b
    came_yet b s = record { place = s.place; inside = s.inside; settled = stays_settled s.place s.settled; from = s.from }

    -- what is not settled yet was not before, and is another place
    still : (k : ℕ) → Unsettled next k → (k ≡ place → ⊥) × Unsettled now k
    still k u = (λ q. u (settled_at k q), λ s. u (stays_settled k s))

    -- what was not settled and is another place is not yet
    yet : (k : ℕ) → (k ≡ place → ⊥) → Unsettled now k → Unsettled next k
    yet k off u = λ q. u (sym (other_at k off) ∙ q)

    kept_next : (k : ℕ) → k < n → (get_or next k 0 ≡ k) ⊎ (get_or next k 0 ≡ get_or old k 0)
    kept_next k l = ⊎_elim
        (λ q. inl (settled_at k q))
        (λ off. ⊎_elim (λ s. inl (other_at k off ∙ s)) (λ s. inr (other_at k off ∙ s)) (w.kept k l))
        (cases_eq k place)

    -- the other free places are free yet
    others_left : (k : ℕ) → In k (before ++ after) → Unsettled next k
    others_left k f = yet k (λ q. apart_mid place before after w.apart k f q) (w.left k (in_less k place before after f))

    -- the place of no other source is free then
    only : (k : ℕ) → k < n → Unsettled next k → get_or old k 0 ≡ from → ⊥
    only k l u q = (still k u).0 (places.once k place l place_in q)

    onward_next : (k : ℕ) → k < n → Unsettled next k → Taken start end (get_or old k 0) ⊎ (Unsettled next (get_or old k 0) × (In (get_or old k 0) (before ++ place ∷ after) → ⊥))
    onward_next k l u = ⊎_elim
        (λ t. inl t)
        (λ s. inr (yet (get_or old k 0) (λ q. s.1 (subst (λ z. In z (before ++ place ∷ after)) (sym q) at)) s.0, s.1))
        (w.onward k l (still k u).1)

    -- a row in hand is given to the place that was free
    module _ (taken : Taken start end from) where
      -- it was waited for
      awaited : In from w.waiting
      awaited = ⊎_elim
          (λ f. f)
          (λ s. let same = places.once s.place place s.inside place_in s.from in
          absurd (w.left place at (ap (λ z. get_or now z 0) (sym same) ∙ s.settled ∙ same)))
          (w.given from taken)

      rest : Without from w.waiting
      rest = without from w.waiting awaited

      pub walks_given : Walks n start end old next (before ++ after)
      walks_given = record {
        each = length-set now place place ∙ w.each;
        kept = kept_next;
        inside = λ k f. w.inside k (in_less k place before after f);
        left = others_left;
        apart = apart_less place before after w.apart;
        onward = λ k l u. ⊎_elim (λ t. inl t) (λ s. inr (s.0, λ f. s.1 (in_less (get_or old k 0) place before after f))) (onward_next k l u);
        here = λ k t. ⊎_elim
            (λ s. inl (stays_settled k s))
            (λ f. ⊎_elim (λ q. inl (settled_at k q)) (λ o. inr o) (in_more k place before after f))
            (w.here k t);
        waiting = rest.others;
        as_many = omega (arith, rest.fewer, w.as_many, length_mid place before after);
        given = λ b t. ⊎_elim
            (λ f. ⊎_elim (λ q. inr (record { place = place; inside = place_in; settled = same_at; from = sym q })) (λ o. inl o) (rest.keeps b f))
            (λ s. inr (came_yet b s))
            (w.given b t);
      }

    -- or the row of its source, which is free then
    module _ (elsewhere : Taken start end from → ⊥) where
      source_left : Unsettled now from × (In from (before ++ place ∷ after) → ⊥)
      source_left = ⊎_elim (λ t. absurd (elsewhere t)) (λ s. s) (w.onward place place_in (w.left place at))

      pub walks_on : Walks n start end old next (before ++ from ∷ after)
      walks_on = record {
        each = length-set now place place ∙ w.each;
        kept = kept_next;
        inside = λ k f. ⊎_elim (λ q. omega (arith, q, from_in)) (λ o. w.inside k (in_less k place before after o)) (in_more k from before after f);
        left = λ k f. ⊎_elim
            (λ q s. yet from off_itself source_left.0 (ap (λ z. get_or next z 0) (sym q) ∙ s ∙ q))
            (λ o. others_left k o)
            (in_more k from before after f);
        apart = apart_more from before after (λ f. source_left.1 (in_less from place before after f)) (apart_less place before after w.apart);
        onward = λ k l u. ⊎_elim
            (λ t. inl t)
            (λ s. inr (s.0, λ f. ⊎_elim (λ q. only k l u q) (λ o. s.1 (in_less (get_or old k 0) place before after o)) (in_more (get_or old k 0) from before after f)))
            (onward_next k l u);
        here = λ k t. ⊎_elim
            (λ s. inl (stays_settled k s))
            (λ f. ⊎_elim (λ q. inl (settled_at k q)) (λ o. inr (in_less k from before after o)) (in_more k place before after f))
            (w.here k t);
        waiting = w.waiting;
        as_many = omega (arith, w.as_many, length_mid place before after, length_mid from before after);
        given = λ b t. ⊎_elim (λ f. inl f) (λ s. inr (came_yet b s)) (w.given b t);
      }

    -- the points, with that of the source at the place
    module _ (points moved : List Point) (c : Carries n old now (before ++ place ∷ after) points moved) where
      pub carries_next : (free : List ℕ) → ((k : ℕ) → In k (before ++ after) → In k free) → (p : Point) → p ≡ get_or points from zero_point
          → Carries n old next free points (set moved place p)
      carries_next free others p is = record {
        many = length-set moved place p ∙ c.many;
        come = λ k l s. ⊎_elim
            (λ q. ap (λ z. get_or (set moved place p) z zero_point) q ∙ get_or-set_same moved place p zero_point (omega (arith, c.many, place_in)) ∙ is
            ∙ ap (λ z. get_or points (get_or old z 0) zero_point) (sym q))
            (λ off. get_or-set_other moved place k p zero_point off ∙ c.come k l (sym (other_at k off) ∙ s))
            (cases_eq k place);
        stays = λ k l u o. get_or-set_other moved place k p zero_point (still k u).0
            ∙ c.stays k l (still k u).1 (λ f. ⊎_elim (λ q. (still k u).0 q) (λ i. o (others k i)) (in_more k place before after f));
      }

      -- the source's point stands where it stood, unless its row is in hand
      pub source_stands : (Taken start end from → ⊥) → get_or moved from zero_point ≡ get_or points from zero_point
      source_stands elsewhere = c.stays from from_in (source_left elsewhere).0 (source_left elsewhere).1

  -- in the end no place is free
  module _ (now : List ℕ) (w : Walks n start end old now []) (points after : List Point) (c : Carries n old now [] points after) (many : length points ≡ n) where
    -- no row in hand is waited for
    none_waits : (b : ℕ) → In b w.waiting → ⊥
    none_waits b f = no w.waiting w.as_many f
      where
        no : (xs : List ℕ) → length xs ≡ 0 → In b xs → ⊥
        no [] e i = i
        no (x ∷ xs) e i = absurd (omega (arith, e))

    -- what is not settled leads to what is not
    closed : (k : ℕ) → k < n → Unsettled now k → Unsettled now (get_or old k 0)
    closed k l u = ⊎_elim
        (λ t. ⊎_elim
        (λ f. absurd (none_waits (get_or old k 0) f))
        (λ s. let q = places.once s.place k s.inside l s.from in absurd (u (ap (λ z. get_or now z 0) (sym q) ∙ s.settled ∙ q)))
        (w.given (get_or old k 0) t))
        (λ s. s.0)
        (w.onward k l u)

    as_was : (k : ℕ) → k < n → Unsettled now k → get_or now k 0 ≡ get_or old k 0
    as_was k l u = ⊎_elim (λ s. absurd (u s)) (λ s. s) (w.kept k l)

    low : (k : ℕ) → k < n → get_or now k 0 < n
    low k l = ⊎_elim (λ s. omega (arith, s, l)) (λ s. omega (arith, s, places.low k l)) (w.kept k l)

    same : (k : ℕ) → k < n → get_or after (get_or now k 0) zero_point ≡ get_or points (get_or old k 0) zero_point
    same k l = ⊎_elim
        (λ s. ap (λ z. get_or after z zero_point) s ∙ c.come k l s)
        (λ u. ap (λ z. get_or after z zero_point) (as_was k l u) ∙ c.stays (get_or old k 0) (places.low k l) (closed k l u) (λ f. f))
        (cases_eq (get_or now k 0) k)

    -- a settled place is no other one's source
    apart_from : (j k : ℕ) → k < n → get_or now j 0 ≡ j → Unsettled now k → get_or now j 0 ≡ get_or now k 0 → ⊥
    apart_from j k l s u q =
        let there = sym s ∙ q ∙ as_was k l u in
        closed k l u (ap (λ z. get_or now z 0) (sym there) ∙ s ∙ there)

    once : (j k : ℕ) → j < n → k < n → get_or now j 0 ≡ get_or now k 0 → j ≡ k
    once j k a b q = ⊎_elim
        (λ s. ⊎_elim (λ t. sym s ∙ q ∙ t) (λ v. absurd (apart_from j k b s v q)) (cases_eq (get_or now k 0) k))
        (λ u. ⊎_elim
        (λ t. absurd (apart_from k j a t u (sym q)))
        (λ v. places.once j k a b (sym (as_was j a u) ∙ q ∙ as_was k b v))
        (cases_eq (get_or now k 0) k))
        (cases_eq (get_or now j 0) j)

    pub settled_last : IsSettled start end points old after now
    settled_last = record {
      many = c.many ∙ sym many;
      places = record {
        each = w.each ∙ sym many;
        low = λ k l. omega (arith, low k (omega (arith, l, many)), many);
        once = λ j k a b q. once j k (omega (arith, a, many)) (omega (arith, b, many)) q;
      };
      same = λ k l. same k (omega (arith, l, many));
      here = λ k s l. ⊎_elim (λ t. t) (λ f. absurd f) (w.here k (s, l));
      stays = λ k l s. ⊎_elim (λ t. t) (λ t. t ∙ s) (w.kept k (omega (arith, l, many)));
    }
