-- The first of some records with a value that no point holds.
use Rattle.std.proofs.Common.{◌≡◌, ℕ, zero, suc, ◌+◌, ◌-◌, ◌*◌, ◌<◌, ◌≤◌, List, [], take, drop, Option, Some, None, refl, ap, sym, ◌∙◌, arith, drop-drop}
use Rattle.std.proofs.Math.Nat.{mul-add}
use Rattle.cloud_points.specs.declared.dims.Dim.{Dim}
use Rattle.cloud_points.specs.declared.extra.ExtraField.{ExtraField}
use Rattle.extra_bytes.specs.Fields.{first_out}
use Rattle.las_header.specs.declared.block.Header.{Header}
use Rattle.las_reader.specs.Records.{record_at, out_from, out_or}
use Rattle.las_reader.proofs.Pieces.{record_of_piece}

pub out_none : (fields : List ExtraField) (size k : ℕ) (b : List ℕ) → out_from fields size k 0 b ≡ None
unfolding out_from
out_none fields size k b = refl

-- without fields there is none
pub plain_out : (size k n : ℕ) (b : List ℕ) → out_from [] size k n b ≡ None
unfolding out_from
plain_out size k zero b = refl
plain_out size k (suc n) b = plain_out size (k + 1) n b

-- ---- one piece behind another

abbrev pub or_else : Option (ℕ × Dim) → Option (ℕ × Dim) → Option (ℕ × Dim)
or_else (Some o) later = Some o
or_else None later = later

or_first : (k : ℕ) (first : Option Dim) (a b : Option (ℕ × Dim)) → out_or k first (or_else a b) ≡ or_else (out_or k first a) b
or_first k (Some dim) a b = refl
or_first k None a b = refl

pub out-append : (fields : List ExtraField) (size n m k : ℕ) (b : List ℕ) → out_from fields size k (n + m) b ≡ or_else (out_from fields size k n b) (out_from fields size (k + n) m b)
unfolding out_from
out-append fields size zero m k b =
    let here : k ≡ k + 0 = omega arith in
    let all : 0 + m ≡ m = omega arith in
    ap (λ j. out_from fields size k j b) all ∙ ap (λ j. out_from fields size j m b) here
out-append fields size (suc n) m k b =
    let next : k + 1 + n ≡ k + suc n = omega arith in
    let all : suc n + m ≡ suc (n + m) = omega arith in
    ap (λ j. out_from fields size k j b) all
    ∙ ap (out_or k (first_out fields (record_at size k b))) (out-append fields size n m (k + 1) b ∙ ap (λ j. or_else (out_from fields size (k + 1) n b) (out_from fields size j m b)) next)
    ∙ or_first k (first_out fields (record_at size k b)) (out_from fields size (k + 1) n b) (out_from fields size (k + suc n) m b)

-- one record more
pub out_more : (fields : List ExtraField) (size k n : ℕ) (b : List ℕ) (first : Option Dim) → out_from fields size k n b ≡ None → first_out fields (record_at size (k + n) b) ≡ first
    → out_from fields size k (n + 1) b ≡ out_or (k + n) first None
unfolding out_from
out_more fields size k n b first e is =
    out-append fields size n 1 k b ∙ ap (λ o. or_else o (out_from fields size (k + n) 1 b)) e ∙ ap (λ o. out_or (k + n) o None) is

-- behind the first, whatever follows
pub out_stays : (fields : List ExtraField) (size n m k : ℕ) (b : List ℕ) (o : ℕ × Dim) → out_from fields size k n b ≡ Some o → out_from fields size k (n + m) b ≡ Some o
out_stays fields size n m k b o e = out-append fields size n m k b ∙ ap (λ x. or_else x (out_from fields size (k + n) m b)) e

pub out_behind : (fields : List ExtraField) (size n m k : ℕ) (b : List ℕ) → out_from fields size k n b ≡ None → out_from fields size k (n + m) b ≡ out_from fields size (k + n) m b
out_behind fields size n m k b e = out-append fields size n m k b ∙ ap (λ x. or_else x (out_from fields size (k + n) m b)) e

-- ---- where it is

abbrev number : Option (ℕ × Dim) → ℕ
number (Some o) = o.0
number None = 0

within_or : (k n : ℕ) (o : ℕ × Dim) (first : Option Dim) (rest : Option (ℕ × Dim)) → (rest ≡ Some o → (k + 1 ≤ o.0) × (o.0 < k + 1 + n)) → out_or k first rest ≡ Some o → (k ≤ o.0) × (o.0 < k + suc n)
within_or k n o (Some dim) rest later e = let same : k ≡ o.0 = ap number e in (omega arith, omega arith)
within_or k n o None rest later e = let l = later e in (omega (arith, l.0), omega (arith, l.1))

pub out_within : (fields : List ExtraField) (size k n : ℕ) (b : List ℕ) (o : ℕ × Dim) → out_from fields size k n b ≡ Some o → (k ≤ o.0) × (o.0 < k + n)
unfolding out_from
out_within fields size k zero b o e = absurd (cc)
out_within fields size k (suc n) b o e =
    within_or k n o (first_out fields (record_at size k b)) (out_from fields size (k + 1) n b) (out_within fields size (k + 1) n b o) e

-- there is none in front of the first
pub none_before : (fields : List ExtraField) (size k n m : ℕ) (b : List ℕ) → ((o : ℕ × Dim) → out_from fields size k (n + m) b ≡ Some o → k + n ≤ o.0) → out_from fields size k n b ≡ None
none_before fields size k n m b late = by (out_from fields size k n b) refl
  where
    by : (x : Option (ℕ × Dim)) → out_from fields size k n b ≡ x → out_from fields size k n b ≡ None
    by None e = e
    by (Some o) e =
        let l = late o (out_stays fields size n m k b o e) in
        let w = out_within fields size k n b o e in
        absurd (omega (arith, l, w.1))

-- where it isn't among the records before it, it is none of them
pub no_out : (fields : List ExtraField) (size n c : ℕ) (b : List ℕ) (out : Option Dim) → out_from fields size 0 n b ≡ out_or c out None → n ≤ c → out_from fields size 0 n b ≡ None
no_out fields size n c b None e h = e
no_out fields size n c b (Some dim) e h = let w = out_within fields size 0 n b (c, dim) e in absurd (omega (arith, w.1, h))

-- ---- a piece that begins at another record

abbrev pub moved : ℕ → Option (ℕ × Dim) → Option (ℕ × Dim)
moved g (Some o) = Some (g + o.0, o.1)
moved g None = None

moved_or : (g k : ℕ) (first : Option Dim) (rest : Option (ℕ × Dim)) → moved g (out_or k first rest) ≡ out_or (g + k) first (moved g rest)
moved_or g k (Some dim) rest = refl
moved_or g k None rest = refl

moved_none : (g : ℕ) (o : Option (ℕ × Dim)) → moved g (moved 0 o) ≡ moved g o
moved_none g (Some o) = let same : g + (0 + o.0) ≡ g + o.0 = omega arith in ap (λ n. Some (n, o.1)) same
moved_none g None = refl

out_piece : (fields : List ExtraField) (each n j k size : ℕ) (b : List ℕ) → each * (j + n) ≤ size → moved k (out_from fields each j n (take size (drop (each * k) b))) ≡ out_from fields each (k + j) n b
unfolding out_from
out_piece fields each zero j k size b h = refl
out_piece fields each (suc n) j k size b h =
    let all : each * (j + suc n) ≡ each * j + (each + each * n) = omega (arith, mul-add each j (suc n), mul-add each 1 n) in
    let here : each * j + each ≤ size = omega arith in
    let after : j + 1 + n ≡ j + suc n = omega arith in
    let there : each * (j + 1 + n) ≤ size = rw after h in
    let next : k + (j + 1) ≡ k + j + 1 = omega arith in
    let rest = out_from fields each (j + 1) n (take size (drop (each * k) b)) in
    ap (λ r. moved k (out_or j (first_out fields r) rest)) (record_of_piece each j k size b here)
    ∙ moved_or k j (first_out fields (record_at each (k + j) b)) rest
    ∙ ap (out_or (k + j) (first_out fields (record_at each (k + j) b))) (out_piece fields each n (j + 1) k size b there ∙ ap (λ i. out_from fields each i n b) next)

-- that of a buffer which holds a piece of the file
pub out_of_buffer : (fields : List ExtraField) (header : Header) (n given : ℕ) (buffer file : List ℕ) → take (header.record_length * n) buffer ≡ take (header.record_length * n) (drop (header.points_at + header.record_length * given) file)
    → out_from fields header.record_length given n (drop header.points_at file) ≡ moved given (out_from fields header.record_length 0 n buffer)
out_of_buffer fields header n given buffer file same =
    let L = header.record_length in
    let fits : L * (0 + n) ≤ L * n = omega arith in
    let none : L * 0 ≡ 0 = omega arith in
    let stay : given + 0 ≡ given = omega arith in
    let behind = drop header.points_at file in
    let piece : moved given (out_from fields L 0 n (take (L * n) (drop (L * given) behind))) ≡ out_from fields L (given + 0) n behind = out_piece fields L n 0 given (L * n) behind fits in
    let front : moved 0 (out_from fields L 0 n (take (L * n) (drop (L * 0) buffer))) ≡ out_from fields L 0 n buffer = out_piece fields L n 0 0 (L * n) buffer fits in
    let bytes : take (L * n) (drop (L * given) behind) ≡ take (L * n) (drop (L * 0) buffer) = ap (take (L * n)) (drop-drop (L * given) header.points_at file) ∙ sym same ∙ ap (λ m. take (L * n) (drop m buffer)) (sym none) in
    ap (λ k. out_from fields L k n behind) (sym stay) ∙ sym piece
    ∙ ap (λ l. moved given (out_from fields L 0 n l)) bytes
    ∙ sym (moved_none given (out_from fields L 0 n (take (L * n) (drop (L * 0) buffer)))) ∙ ap (moved given) front

-- ---- each record in front of the first

none_or : (k : ℕ) (first : Option Dim) (rest : Option (ℕ × Dim)) → out_or k first rest ≡ None → (first ≡ None) × (rest ≡ None)
none_or k (Some dim) rest e = absurd (cc)
none_or k None rest e = (refl, e)

pub held_each : (fields : List ExtraField) (size k n : ℕ) (b : List ℕ) → out_from fields size k n b ≡ None → (j : ℕ) → j < n → first_out fields (record_at size (k + j) b) ≡ None
unfolding out_from
held_each fields size k zero b e j h = absurd (omega arith)
held_each fields size k (suc n) b e zero h =
    let here : k + 0 ≡ k = omega arith in
    ap (λ i. first_out fields (record_at size i b)) here ∙ (none_or k (first_out fields (record_at size k b)) (out_from fields size (k + 1) n b) e).0
held_each fields size k (suc n) b e (suc j) h =
    let next : k + suc j ≡ k + 1 + j = omega arith in
    ap (λ i. first_out fields (record_at size i b)) next
    ∙ held_each fields size (k + 1) n b (none_or k (first_out fields (record_at size k b)) (out_from fields size (k + 1) n b) e).1 j (omega arith)

pub held_all : (fields : List ExtraField) (size k n : ℕ) (b : List ℕ) → ((j : ℕ) → j < n → first_out fields (record_at size (k + j) b) ≡ None) → out_from fields size k n b ≡ None
unfolding out_from
held_all fields size k zero b all = refl
held_all fields size k (suc n) b all =
    let here : k ≡ k + 0 = omega arith in
    let some : 0 < suc n = omega arith in
    ap (λ o. out_or k o (out_from fields size (k + 1) n b)) (ap (λ i. first_out fields (record_at size i b)) here ∙ all 0 some)
    ∙ held_all fields size (k + 1) n b (λ j h.
    let next : k + 1 + j ≡ k + suc j = omega arith in
    let more : suc j < suc n = omega arith in
    ap (λ i. first_out fields (record_at size i b)) next ∙ all (suc j) more)

-- the same from the first record on
pub held_from_start : (fields : List ExtraField) (size n : ℕ) (b : List ℕ) → ((j : ℕ) → j < n → first_out fields (record_at size j b) ≡ None) → out_from fields size 0 n b ≡ None
held_from_start fields size n b all =
    held_all fields size 0 n b (λ j h. (let same : 0 + j ≡ j = omega arith in ap (λ i. first_out fields (record_at size i b)) same ∙ all j h))

pub held_of_start : (fields : List ExtraField) (size n : ℕ) (b : List ℕ) → out_from fields size 0 n b ≡ None → (j : ℕ) → j < n → first_out fields (record_at size j b) ≡ None
held_of_start fields size n b e j h = let same : j ≡ 0 + j = omega arith in ap (λ i. first_out fields (record_at size i b)) same ∙ held_each fields size 0 n b e j h

abbrev dim_of : Option (ℕ × Dim) → Option Dim
dim_of (Some o) = Some o.1
dim_of None = None

-- record k is that, and none in front of it
pub record IsOut (fields : List ExtraField) (size : ℕ) (b : List ℕ) (k : ℕ) (dim : Dim) : Type 0 where
  pub out : first_out fields (record_at size k b) ≡ Some dim
  pub held : (j : ℕ) → j < k → first_out fields (record_at size j b) ≡ None

pub is_out : (fields : List ExtraField) (size n : ℕ) (b : List ℕ) (k : ℕ) (dim : Dim) → out_from fields size 0 n b ≡ Some (k, dim) → IsOut fields size b k dim
is_out fields size n b k dim e = record {
  out = by (first_out fields (record_at size k b)) (ap (λ i. first_out fields (record_at size i b)) place);
  held = held_of_start fields size k b before;
}
  where
    within : k < 0 + n
    within = (out_within fields size 0 n b (k, dim) e).1

    place : 0 + k ≡ k
    place = omega arith

    before : out_from fields size 0 k b ≡ None
    before =
        let w = within in
        let split : n ≡ k + (n - k) = omega (arith, w) in
        none_before fields size 0 k (n - k) b (λ o f.
        let same : k ≡ o.0 = ap number (sym e ∙ ap (λ m. out_from fields size 0 m b) split ∙ f) in
        omega (arith, same))

    split : n ≡ k + 1 + (n - (k + 1))
    split = let w = within in omega (arith, w)

    by : (first : Option Dim) → first_out fields (record_at size (0 + k) b) ≡ first → first ≡ Some dim
    by None is =
        let none : out_from fields size 0 (k + 1) b ≡ None = out_more fields size 0 k b None before is in
        let w = out_within fields size (0 + (k + 1)) (n - (k + 1)) b (k, dim) (sym (out_behind fields size (k + 1) (n - (k + 1)) 0 b none) ∙ ap (λ m. out_from fields size 0 m b) (sym split) ∙ e) in
        absurd (omega (arith, w.0))
    by (Some d) is =
        let there : out_from fields size 0 (k + 1) b ≡ Some (0 + k, d) = out_more fields size 0 k b (Some d) before is in
        let same : Some (0 + k, d) ≡ Some (k, dim) = sym (out_stays fields size (k + 1) (n - (k + 1)) 0 b (0 + k, d) there) ∙ ap (λ m. out_from fields size 0 m b) (sym split) ∙ e in
        ap dim_of same

pub out_is : (fields : List ExtraField) (size n : ℕ) (b : List ℕ) (k : ℕ) (dim : Dim) → k < n → IsOut fields size b k dim → out_from fields size 0 n b ≡ Some (k, dim)
out_is fields size n b k dim h is =
    let place : 0 + k ≡ k = omega arith in
    let split : n ≡ k + 1 + (n - (k + 1)) = omega arith in
    let before : out_from fields size 0 k b ≡ None = held_from_start fields size k b is.held in
    let there : out_from fields size 0 (k + 1) b ≡ Some (0 + k, dim) = out_more fields size 0 k b (Some dim) before (ap (λ i. first_out fields (record_at size i b)) place ∙ is.out) in
    ap (λ m. out_from fields size 0 m b) split ∙ out_stays fields size (k + 1) (n - (k + 1)) 0 b (0 + k, dim) there ∙ ap (λ i. Some (i, dim)) place
