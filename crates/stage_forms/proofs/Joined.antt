-- What stands below a stage is what its definition says, by its reader or by its inputs.
use Rattle.std.proofs.Common.{◌≡◌, ℕ, zero, suc, ◌<◌, Bool, true, false, ◌||◌, cond, List, [], ◌∷◌, ◌++◌, length, map, slice_get, Some, None, All, refl, ap, sym, subst, ◌∙◌, arith}
use Rattle.std.specs.Prelude.{flat_map, Option, Result, Ok, Err, IfOk}
use Rattle.std.specs.List.{list_any}
use Rattle.std.proofs.lemmas.Grind.{flat_map-append}
use Rattle.std.proofs.lemmas.Option.{get_or_from_slice_get}
use Rattle.std.proofs.lemmas.List.{append-nil}
use Rattle.std.proofs.lemmas.List.Elements.{All-nil, All-cons, All-append}
use Rattle.std.proofs.lemmas.List.Folds.{list_any-append}
use Rattle.cloud_points.specs.declared.dims.Dim.{Dim}
use Rattle.cloud_points.specs.Layouts.{holds}
use Rattle.forward_rules.specs.Forwarded.{ReadFile}
use Rattle.las_reader.specs.declared.reader.LasReader.{LasReader}
use Rattle.pipeline_json.specs.Lists.{has}
use Rattle.point_formats.specs.Layouts.{dims_of, is_among}
use Rattle.stage_options.specs.Roles.{is_reading}
use Rattle.stage_options.specs.declared.stage.StageSpec.{StageSpec}
use Rattle.answer_model.specs.Values.{Opened, IsDown, stage_at, role_at, options_at, reads_at, reads_with, dims_at, dims_with, found_at, gives_dim, names_at}
use Rattle.answer_model.proofs.Values.{has-own, has-later, fold-inputs}
use Rattle.stage_forms.specs.Below.{reads_in, HaveReaders, AreReaders, IsBelow, IsTaken}
use Rattle.stage_forms.specs.Joined.{readers_in, dims_in, IsOwn, IsJoined, IsFound}
use Rattle.stage_forms.specs.declared.below.Below.{Below}
use Rattle.stage_forms.proofs.Files.{reads-append, read-one}

-- ---- lists

-- a property of the numbers of a list
pub all-of-has : (P : ℕ → Type 0) (js : List ℕ) → ((j : ℕ) → has js j ≡ true → P j) → All P js
all-of-has P [] h = All-nil P
all-of-has P (j ∷ js) h = All-cons P j js (h j (has-own j js)) (all-of-has P js (λ k i. h k (has-later j k js i)))

any-more : (p : ℕ → Bool) (js : List ℕ) (j : ℕ) → list_any p (js ++ j ∷ []) ≡ list_any p js || p j
any-more p js j = list_any-append p js (j ∷ []) ∙ ap (λ x. list_any p js || x) (or_false (p j))
  where
    or_false : (b : Bool) → b || false ≡ b
    or_false true = refl
    or_false false = refl

-- one input more
pub joined-more : (belows : List Below) (js : List ℕ) (j : ℕ) (b more after : Below) → IsJoined belows js b → slice_get belows j ≡ Some more
    → after.readers.items ≡ b.readers.items ++ more.readers.items → ((dim : Dim) → holds after.layout dim ≡ holds b.layout dim || holds more.layout dim)
    → IsJoined belows (js ++ j ∷ []) after
joined-more belows js j b more after is at readers dims = record {
  readers = readers ∙ ap (λ xs. xs ++ more.readers.items) is.readers ∙ sym (flat_map-append all js (j ∷ []) ∙ ap (λ o. flat_map all js ++ (readers_in o ++ [])) at ∙ ap (λ ys. flat_map all js ++ ys) (append-nil more.readers.items));
  dims = λ dim. dims dim ∙ ap (λ x. x || holds more.layout dim) (is.dims dim) ∙ sym (any-more (λ k. dims_in (slice_get belows k) dim) js j ∙ ap (λ o. list_any (λ k. dims_in (slice_get belows k) dim) js || dims_in o dim) at);
}
  where
    all : ℕ → List ℕ
    all k = readers_in (slice_get belows k)

-- ---- what stands below, as it is defined

module _ {S : Type 0} (stages : List StageSpec) (readers : List (Option (LasReader S))) (opened : Opened) (down : IsDown stages) (fit : AreReaders stages readers) (have : HaveReaders readers opened) where
  reads-are : (i : ℕ) → reads_at stages opened i ≡ reads_with stages opened i (map (reads_at stages opened) ((stage_at stages i).ins))
  reads-are i = fold-inputs [] (reads_with stages opened) stages down i

  dims-are : (i : ℕ) (dim : Dim) → dims_at stages opened i dim ≡ dims_with stages opened i (map (dims_at stages opened) ((stage_at stages i).ins)) dim
  dims-are i dim = ap (λ f. f dim) (fold-inputs (λ d. false) (dims_with stages opened) stages down i)

  -- what stands below a stage stands behind it, with the dimensions that it adds
  pub behind-stage : (i : ℕ) (b after : Below) → IsTaken stages readers opened i b → after.readers.items ≡ b.readers.items
      → ((dim : Dim) → holds after.layout dim ≡ holds b.layout dim || gives_dim (names_at stages opened i) (options_at stages i) (found_at stages opened i) dim) → IsBelow stages readers opened i after
  behind-stage i b after is same dims = record {
    reads = ap (reads_in readers) same ∙ is.reads;
    dims = λ dim. dims dim ∙ ap (λ h. h || gives_dim (names_at stages opened i) (options_at stages i) (found_at stages opened i) dim) (is.dims dim) ∙ sym (dims-are i dim);
  }

  -- below a reader stands itself
  own-below : (i : ℕ) (r : LasReader S) (b : Below) → slice_get readers i ≡ Some (Some r) → IsOwn i r.header.format b → IsTaken stages readers opened i b
  own-below i r b at own = record {
    reads = ap (reads_in readers) own.readers ∙ read-one readers i (Some r) at ∙ ap (λ f. f ∷ []) (sym (have i r at)) ∙ sym (reads-are i ∙ ap (λ c. cond c ((opened.file i).read ∷ []) (flat_map (λ list. list) (map (reads_at stages opened) ((stage_at stages i).ins)))) reading);
    dims = λ dim. own.dims dim ∙ ap (λ (f : ReadFile). is_among dim (dims_of f.values.format)) (sym (have i r at)) ∙ sym (ap (λ c. cond c (is_among dim (dims_of (opened.file i).read.values.format)) (list_any (λ set. set dim) (map (dims_at stages opened) ((stage_at stages i).ins)))) reading);
  }
    where
      reading : is_reading (role_at stages i) ≡ true
      reading = sym (fit i (Some r) at)

  -- the files that are read below inputs
  reads-joined : (belows : List Below) (js : List ℕ) → ((j : ℕ) → has js j ≡ true → reads_in readers (readers_in (slice_get belows j)) ≡ reads_at stages opened j)
      → reads_in readers (flat_map (λ j. readers_in (slice_get belows j)) js) ≡ flat_map (λ list. list) (map (reads_at stages opened) js)
  reads-joined belows [] h = refl
  reads-joined belows (j ∷ js) h =
      reads-append readers (readers_in (slice_get belows j)) (flat_map (λ k. readers_in (slice_get belows k)) js)
      ∙ ap (λ xs. xs ++ reads_in readers (flat_map (λ k. readers_in (slice_get belows k)) js)) (h j (has-own j js))
      ∙ ap (λ ys. reads_at stages opened j ++ ys) (reads-joined belows js (λ k i. h k (has-later j k js i)))

  -- the dimensions of their points
  dims-joined : (belows : List Below) (dim : Dim) (js : List ℕ) → ((j : ℕ) → has js j ≡ true → dims_in (slice_get belows j) dim ≡ dims_at stages opened j dim)
      → list_any (λ j. dims_in (slice_get belows j) dim) js ≡ list_any (λ set. set dim) (map (dims_at stages opened) js)
  dims-joined belows dim [] h = refl
  dims-joined belows dim (j ∷ js) h =
      ap (λ x. x || list_any (λ k. dims_in (slice_get belows k) dim) js) (h j (has-own j js))
      ∙ ap (λ y. dims_at stages opened j dim || y) (dims-joined belows dim js (λ k i. h k (has-later j k js i)))

  -- below another stage stands what stands below its inputs
  joined-below : (i : ℕ) (s : StageSpec) (b : Below) (belows : List Below) → slice_get readers i ≡ Some None → slice_get stages i ≡ Some s → length belows ≡ i
      → ((j : ℕ) (c : Below) → slice_get belows j ≡ Some c → IsBelow stages readers opened j c) → IsJoined belows s.ins b → IsTaken stages readers opened i b
  joined-below i s b belows at stage count are joined = record {
    reads = ap (reads_in readers) joined.readers ∙ reads-joined belows s.ins (λ j h. ap (λ o. reads_in readers (readers_in o)) (input j h).1 ∙ (are j (input j h).0 (input j h).1).reads)
        ∙ ap (λ (t : StageSpec). flat_map (λ list. list) (map (reads_at stages opened) t.ins)) (sym is)
        ∙ sym (reads-are i ∙ ap (λ c. cond c ((opened.file i).read ∷ []) (flat_map (λ list. list) (map (reads_at stages opened) ((stage_at stages i).ins)))) reading);
    dims = λ dim. joined.dims dim ∙ dims-joined belows dim s.ins (λ j h. ap (λ o. dims_in o dim) (input j h).1 ∙ (are j (input j h).0 (input j h).1).dims dim)
        ∙ ap (λ (t : StageSpec). list_any (λ set. set dim) (map (dims_at stages opened) t.ins)) (sym is)
        ∙ sym (ap (λ c. cond c (is_among dim (dims_of (opened.file i).read.values.format)) (list_any (λ set. set dim) (map (dims_at stages opened) ((stage_at stages i).ins)))) reading);
  }
    where
      is : stage_at stages i ≡ s
      is = get_or_from_slice_get stages i s _ stage

      reading : is_reading (role_at stages i) ≡ false
      reading = sym (fit i None at)

      some_at : (xs : List Below) (k : ℕ) → k < length xs → (x : Below) × (slice_get xs k ≡ Some x)
      some_at [] k h = absurd (omega arith)
      some_at (x ∷ xs) zero h = (x, refl)
      some_at (x ∷ xs) (suc k) h = some_at xs k (omega arith)

      input : (j : ℕ) → has s.ins j ≡ true → (c : Below) × (slice_get belows j ≡ Some c)
      input j h = some_at belows j (let lt = down i j (subst (λ (t : StageSpec). has t.ins j ≡ true) (sym is) h) in omega (arith, lt, count))

  -- the next stage
  pub stands-below : (i : ℕ) (s : StageSpec) (o : Option (LasReader S)) (b : Below) (belows : List Below) → slice_get readers i ≡ Some o → slice_get stages i ≡ Some s → length belows ≡ i
      → ((j : ℕ) (c : Below) → slice_get belows j ≡ Some c → IsBelow stages readers opened j c) → IsFound o i belows s.ins b → IsTaken stages readers opened i b
  stands-below i s (Some r) b belows at stage count are own = own-below i r b at own
  stands-below i s None b belows at stage count are joined = joined-below i s b belows at stage count are joined

-- a stage takes earlier ones
pub takes-earlier : (stages : List StageSpec) (i : ℕ) (s : StageSpec) (n : ℕ) → IsDown stages → slice_get stages i ≡ Some s → n ≡ i → All (λ j. j < n) s.ins
takes-earlier stages i s n down stage e = all-of-has (λ j. j < n) s.ins (λ j h. let lt = down i j (subst (λ (t : StageSpec). has t.ins j ≡ true) (sym (get_or_from_slice_get stages i s _ stage)) h) in omega (arith, lt, e))

-- ---- the readers' numbers

pub stands-inside : {S : Type 0} (n i : ℕ) (o : Option (LasReader S)) (belows : List Below) (js : List ℕ) (b : Below) → i < n
    → ((k : ℕ) (c : Below) → slice_get belows k ≡ Some c → All (λ j. j < n) c.readers.items) → IsFound o i belows js b → All (λ j. j < n) b.readers.items
stands-inside n i (Some r) belows js b lt are own = subst (All (λ j. j < n)) (sym own.readers) (All-cons (λ j. j < n) i [] lt (All-nil (λ j. j < n)))
stands-inside n i None belows js b lt are joined = subst (All (λ j. j < n)) (sym joined.readers) (each js)
  where
    one : (o : Option Below) → ((c : Below) → o ≡ Some c → All (λ j. j < n) c.readers.items) → All (λ j. j < n) (readers_in o)
    one None h = All-nil (λ j. j < n)
    one (Some c) h = h c refl

    each : (ks : List ℕ) → All (λ j. j < n) (flat_map (λ k. readers_in (slice_get belows k)) ks)
    each [] = All-nil (λ j. j < n)
    each (k ∷ ks) = All-append (λ j. j < n) (readers_in (slice_get belows k)) (flat_map (λ k. readers_in (slice_get belows k)) ks) (one (slice_get belows k) (are k)) (each ks)

-- ---- results

-- what holds of a value that is there holds of it by what follows from it
pub if_ok : {V E : Type 0} (P Q : V → Type 0) (r : Result V E) → ((v : V) → P v → Q v) → IfOk r P → IfOk r Q
if_ok P Q (Ok v) f h = f v h
if_ok P Q (Err e) f h = tt
