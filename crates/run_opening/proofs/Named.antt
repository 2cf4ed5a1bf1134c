-- The device that is named where a run can't begin is the first one that failed, by the counts that are told.
use Rattle.std.proofs.Common.{◌≡◌, ◌⊎◌, ℕ, zero, suc, ◌+◌, ◌<◌, true, false, List, [], ◌∷◌, ◌++◌, drop, length, slice_get, Option, Some, None, option_map, is_some, refl, ap, sym, subst, ◌∙◌, inl, inr, arith}
use Rattle.std.proofs.lemmas.List.{length-map}
use Rattle.std.proofs.lemmas.Option.{none-some, same_Some, slice_get-map, slice_get_within}
use Rattle.circular_buffer.proofs.Places.{slice_get-append_left, slice_get-append_right}
use Rattle.file_devices.specs.Counts.{Rose, all_listed, listed}
use Rattle.file_devices.specs.Named.{Names}
use Rattle.file_devices.specs.Told.{IsAsTold}
use Rattle.file_devices.specs.declared.devices.Op.{Op}
use Rattle.file_devices.specs.declared.devices.Op.TheVariants as op
use Rattle.file_devices.specs.declared.devices.Source as source
use Rattle.file_devices.specs.declared.devices.Sink as sink
use Rattle.las_reader.specs.declared.opening.OpenErr.{OpenErr}
use Rattle.las_reader.specs.declared.opening.OpenErr.TheVariants as opening
use Rattle.las_reader.specs.declared.reader.LasReader.{LasReader}
use Rattle.stage_kinds.specs.declared.stage_work.StageWork.{StageWork}
use Rattle.stage_kinds.specs.declared.held.Held.{Held}
use Rattle.stage_kinds.specs.declared.held.Held.TheVariants.{Nothing, Source, Sink, Filter, Tally}
use Rattle.stage_kinds.specs.Held.{faults_of, faults_on, held_by, op_of, op_on}
use Rattle.stage_options.specs.Roles.{Role, Reads, Filters, Gathers, Writes, WritesEach, is_reading, is_writing}
use Rattle.stage_options.specs.declared.stage.StageSpec.{StageSpec}
use Rattle.answer_model.specs.Values.{op_for, role_at}
use Rattle.run_report.specs.declared.refusal.Refusal.{Refusal}
use Rattle.run_report.specs.declared.refusal.Refusal.TheVariants as of
use Rattle.run_report.specs.declared.refusal.Fault.TheVariants as fault
use Rattle.run_report.specs.declared.refusal.Place.TheVariants as at
use Rattle.held_devices.specs.Holding.{count_on, counts_on, source_counts}
use Rattle.held_devices.proofs.Lists.{some_at}
use Rattle.run_outcome.specs.Least.{has_file, IsNamedBy, IsNext, OpensBefore, WereGiven}
use Rattle.run_outcome.proofs.Least.{before-reading, before-writing, behind, file-kind, in-middle, listed-parts, mapped-from, not-written, placed, reading-sooner, reads-file, told-on, writes-file, writing-later}
use Rattle.run_opening.specs.Begun.{AreOpened, IsOpened}
use Rattle.run_opening.specs.Opening.{IsBeforePoints, IsUncreated, IsUnopened, ToldUnopened, opening_refusal}
use Rattle.run_opening.proofs.Opening.{by-reader}

-- the count of what is held
count-is : {S K P Q : Type 0} (sources : S → ℕ) (sinks : K → ℕ) (h : Held S K P Q) (c : ℕ) → count_on sources sinks h ≡ Some c → (faults_on sources sinks h ≡ c) × (is_some (op_on h) ≡ true)
count-is sources sinks Nothing c e = absurd (none-some c e)
count-is sources sinks (Source s) c e = (same_Some (sources s) c e, refl)
count-is sources sinks (Sink k) c e = (same_Some (sinks k) c e, refl)
count-is sources sinks (Filter p place) c e = absurd (none-some c e)
count-is sources sinks (Tally q place) c e = absurd (none-some c e)

pub held-count : {S K P Q : Type 0} (sources : S → ℕ) (sinks : K → ℕ) (h : Held S K P Q) → is_some (op_on h) ≡ true → count_on sources sinks h ≡ Some (faults_on sources sinks h)
held-count sources sinks Nothing e = cc
held-count sources sinks (Source s) e = refl
held-count sources sinks (Sink k) e = refl
held-count sources sinks (Filter p place) e = cc
held-count sources sinks (Tally q place) e = cc

-- that of a work at a place
pub work-count : {S K P Q : Type 0} (sources : S → ℕ) (sinks : K → ℕ) (works : List (StageWork S K P Q)) (j c : ℕ) → slice_get (counts_on sources sinks works) j ≡ Some (Some c)
    → (w : StageWork S K P Q) × (slice_get works j ≡ Some w) × (faults_of sources sinks w ≡ c) × (is_some (op_of w) ≡ true)
work-count sources sinks works j c e =
    let (w, at, is) = mapped-from (λ w. count_on sources sinks (held_by w)) works j (Some c) e in
    let (same, some) = count-is sources sinks (held_by w) c is in
    (w, at, same, some)

less-or-more : (a b : ℕ) → (a < b) ⊎ ((a ≡ b) ⊎ ((k : ℕ) × (a ≡ b + 1 + k)))
less-or-more zero zero = inr (inl refl)
less-or-more zero (suc b) = inl (omega arith)
less-or-more (suc a) zero = inr (inr (a, omega arith))
less-or-more (suc a) (suc b) = elim (less-or-more a b) [
  | inl less ↦ inl (omega (arith, less))
  | inr r ↦ elim r [ inl same ↦ inr (inl (omega (arith, same))) | inr p ↦ inr (inr (p.0, (let more = p.1 in omega (arith, more)))) ]
]

dropped : {A : Type 0} (xs : List A) (n k : ℕ) → slice_get (drop n xs) k ≡ slice_get xs (n + k)
dropped xs zero k = let same : k ≡ 0 + k = omega arith in ap (λ j. slice_get xs j) same
dropped [] (suc n) k = refl
dropped (x ∷ xs) (suc n) k = let same : suc (n + k) ≡ suc n + k = omega arith in dropped xs n k ∙ ap (λ j. slice_get (x ∷ xs) j) same

-- a file that couldn't be read was given back
pub unopened-told : (i : ℕ) (e : OpenErr) (c : ℕ) (before after : Option (List ℕ)) → (e ≡ opening.ReadFailed → Rose 0 c) → IsAsTold after (option_map (λ cs. c ∷ cs) before) → ToldUnopened before after (opening_refusal i e)
unopened-told i (opening.Header f) c before after rose told = tt
unopened-told i (opening.Vlr f) c before after rose told = tt
unopened-told i opening.ReadFailed c before after rose told = (c, (let one = rose refl in omega (arith, one)), told)
unopened-told i opening.Memory c before after rose told = tt

-- a stage whose file couldn't be opened reads it, and it is the one that is named
unopened-reads : (rose : Type 0) (names : Option Names) (i j : ℕ) (role : Role) (o : Op) → IsUnopened rose names i role (of.Device (at.Stage j) o) → (j ≡ i) × (is_reading role ≡ true)
unopened-reads rose names i j (Reads name) o w = (w.0, refl)
unopened-reads rose names i j Filters o w = absurd w
unopened-reads rose names i j Gathers o w = absurd w
unopened-reads rose names i j (WritesEach name) o w = absurd w
unopened-reads rose names i j (Writes name) o w = absurd w

module _ {S : Type 0} (s : source.Ghosts S) (names : Option Names) (stages : List StageSpec) (readers : List (Option (LasReader S))) (opened : AreOpened s names stages readers) where
  -- the source of a reader hasn't failed, and its stage reads
  reader-calm : (j c : ℕ) → slice_get (source_counts s.faults readers) j ≡ Some (Some c) → (j < length readers) × (c ≡ 0) × (is_reading (role_at stages j) ≡ true)
  reader-calm j c e =
      let (o, at, is) = mapped-from (option_map (λ r. s.faults r.source)) readers j (Some c) e in
      let (calm, reads) = go o at is in
      (slice_get_within readers j o at, calm, reads)
    where
      go : (o : Option (LasReader S)) → slice_get readers j ≡ Some o → option_map (λ r. s.faults r.source) o ≡ Some c → (c ≡ 0) × (is_reading (role_at stages j) ≡ true)
      go None at is = absurd (none-some c is)
      go (Some r) at is =
          let b = by-reader s names j (role_at stages j) r (opened j (Some r) at) in
          (sym (same_Some (s.faults r.source) c is) ∙ b.1.calm, b.0)

  -- each of the first stages that reads has one
  reader-counted : (j : ℕ) → j < length readers → is_reading (role_at stages j) ≡ true → (c : ℕ) × (slice_get (source_counts s.faults readers) j ≡ Some (Some c))
  reader-counted j lt reads =
      let (o, at) = some_at readers j lt in
      let (c, is) = go o (role_at stages j) reads (opened j o at) in
      (c, slice_get-map (option_map (λ r. s.faults r.source)) readers j ∙ ap (option_map (option_map (λ r. s.faults r.source))) at ∙ ap (λ x. Some x) is)
    where
      go : (o : Option (LasReader S)) (role : Role) → is_reading role ≡ true → IsOpened s names j role o → (c : ℕ) × (option_map (λ r. s.faults r.source) o ≡ Some c)
      go (Some r) role e is = (s.faults r.source, refl)
      go None (Reads name) e is = absurd is
      go None Filters e is = cc
      go None Gathers e is = cc
      go None (Writes name) e is = cc
      go None (WritesEach name) e is = cc

  -- behind the first n stages
  rest-is : (n k : ℕ) → slice_get (source_counts s.faults (drop n readers)) k ≡ slice_get (source_counts s.faults readers) (n + k)
  rest-is n k =
      slice_get-map (option_map (λ r. s.faults r.source)) (drop n readers) k
      ∙ ap (option_map (option_map (λ r. s.faults r.source))) (dropped readers n k)
      ∙ sym (slice_get-map (option_map (λ r. s.faults r.source)) readers (n + k))

  -- what was opened before the file of a reader
  before-read : (x j c : ℕ) → length readers < length stages + 1 → slice_get (source_counts s.faults readers) x ≡ Some (Some c) → OpensBefore stages j x
      → (d : ℕ) × (slice_get (source_counts s.faults readers) j ≡ Some (Some d))
  before-read x j c fit e before =
      let (within, calm, reads) = reader-calm x c e in
      let (there, less) = reading-sooner stages j x reads (omega (arith, within, fit)) before in
      reader-counted j (omega (arith, less, within)) there

  -- behind readers that were opened, a file that couldn't be
  module _ (i : ℕ) (size : i ≡ length readers) (inside : i < length stages) where
    abbrev front : List (Option ℕ)
    front = source_counts s.faults readers

    long : length front ≡ length readers
    long = length-map readers (option_map (λ r. s.faults r.source))

    fits : length readers < length stages + 1
    fits = omega (arith, size, inside)

    file-of : (x c : ℕ) → slice_get front x ≡ Some (Some c) → (x < length stages) × (has_file (role_at stages x) ≡ true)
    file-of x c e = (let (within, calm, reads) = reader-calm x c e in (omega (arith, within, fits), reads-file (role_at stages x) reads))

    is-next : is_reading (role_at stages i) ≡ true → IsNext stages front i
    is-next reads = record {
      inside = inside;
      others = λ x c e. (let (within, calm, there) = reader-calm x c e in (before-reading stages x i reads inside there (omega (arith, within, size)), calm));
      all = λ j before. (let (there, less) = reading-sooner stages j i reads inside before in reader-counted j (omega (arith, less, size)) there);
    }

    in-front-of : (count x c : ℕ) → slice_get front x ≡ Some (Some c) → slice_get (front ++ Some count ∷ []) x ≡ Some (Some c)
    in-front-of count x c e = slice_get-append_left front (Some count ∷ []) x (slice_get_within front x (Some c) e) ∙ e

    with-last : (count : ℕ) (before mid after : Option (List ℕ)) → is_reading (role_at stages i) ≡ true → IsAsTold mid (option_map (λ cs. count ∷ cs) before) → IsAsTold after (option_map (λ cs. all_listed front ++ cs) mid)
        → WereGiven stages (front ++ Some count ∷ []) before after
    with-last count before mid after reads one all = record {
      told = subst (λ ns. IsAsTold after (option_map (λ cs. ns ++ cs) before)) (sym (listed-parts front [] (Some count))) (told-on (count ∷ []) (all_listed front) before mid after one all);
      files = λ x d e. elim (placed front [] (Some count) (Some d) x e) [
        | inl p ↦ file-of x d p.1
        | inr q ↦ elim q [
          | inl p ↦ subst (λ y. (y < length stages) × (has_file (role_at stages y) ≡ true)) (let l = p.0 in omega (arith, l, long, size)) (inside, reads-file (role_at stages i) reads)
          | inr p ↦ absurd (none-some (Some d) p.2)
        ]
      ];
      all = λ x j d e before. elim (placed front [] (Some count) (Some d) x e) [
        | inl p ↦ (let b = before-read x j d fits p.1 before in (b.0, in-front-of count j b.0 b.1))
        | inr q ↦ elim q [
          | inl p ↦ (
              let same : x ≡ i = (let l = p.0 in omega (arith, l, long, size)) in
              let sooner = reading-sooner stages j i reads inside (subst (λ y. OpensBefore stages j y) same before) in
              let b = reader-counted j (let less = sooner.1 in omega (arith, less, size)) sooner.0 in
              (b.0, in-front-of count j b.0 b.1))
          | inr p ↦ absurd (none-some (Some d) p.2)
        ]
      ];
    }

    pub unopened-named : (rose : Type 0) (refusal : Refusal) (before mid after : Option (List ℕ)) → IsUnopened rose names i (role_at stages i) refusal → IsBeforePoints refusal → ToldUnopened before mid refusal
        → IsAsTold after (option_map (λ cs. all_listed front ++ cs) mid) → IsNamedBy stages before after refusal
    unopened-named rose (of.Device (at.Stage j) op.Open) before mid after why early one all = λ has. (
      front,
      record {
        told = subst (λ o. IsAsTold after (option_map (λ cs. all_listed front ++ cs) o)) one all;
        files = file-of;
        all = λ x j c e before. before-read x j c fits e before;
      },
      (let w = unopened-reads rose names i j (role_at stages i) op.Open why in subst (λ y. IsNext stages front y) (sym w.0) (is-next w.1)),
    )
    unopened-named rose (of.Device (at.Stage j) op.Read) before mid after why early one all = λ has.
        let (count, rose_one, told) = one in
        let (same, reads) = unopened-reads rose names i j (role_at stages i) op.Read why in
        let here : j ≡ length front = (omega (arith, same, long, size)) in (
          front ++ Some count ∷ [],
          with-last count before mid after reads told all,
          record {
            count = count;
            at = ap (slice_get (front ++ Some count ∷ [])) here ∙ in-middle front [] (Some count);
            rose = rose_one;
            earlier = λ x d lt e. elim (placed front [] (Some count) (Some d) x e) [
              | inl p ↦ (reader-calm x d p.1).1
              | inr q ↦ elim q [
                | inl p ↦ absurd (let l = p.0 in omega (arith, lt, here, l))
                | inr p ↦ absurd (none-some (Some d) p.2)
              ]
            ];
          },
        )
    unopened-named rose (of.Device (at.Stage j) op.Create) before mid after why early one all = absurd one
    unopened-named rose (of.Device (at.Stage j) op.Write) before mid after why early one all = absurd one
    unopened-named rose (of.Device (at.Stage j) op.Patch) before mid after why early one all = absurd one
    unopened-named rose (of.Device (at.Stage j) op.Keep) before mid after why early one all = tt
    unopened-named rose (of.Device at.PipelineFile o) before mid after why early one all = tt
    unopened-named rose (of.Device at.Generated o) before mid after why early one all = tt
    unopened-named rose (of.Device at.Out o) before mid after why early one all = tt
    unopened-named rose (of.Data j (fault.Header f)) before mid after why early one all = tt
    unopened-named rose (of.Data j (fault.Vlr f)) before mid after why early one all = tt
    unopened-named rose (of.Data j (fault.Point f)) before mid after why early one all = absurd early
    unopened-named rose (of.Pipeline f) before mid after why early one all = tt
    unopened-named rose (of.Usage k) before mid after why early one all = tt
    unopened-named rose of.Memory before mid after why early one all = tt

  -- ---- a file that couldn't be begun, behind works that could, and in front of other readers
  module _ {K P Q : Type 0} (k : sink.Ghosts K) (works : List (StageWork S K P Q)) (i : ℕ) (size : i ≡ length works) (inside : i < length stages) (whole : length readers ≡ length stages)
      (writes : is_writing (role_at stages i) ≡ true)
      (begun : (j : ℕ) (w : StageWork S K P Q) → slice_get works j ≡ Some w → (faults_of s.faults k.faults w ≡ 0) × (op_of w ≡ op_for (role_at stages j))) where
    abbrev begun_counts : List (Option ℕ)
    begun_counts = counts_on s.faults k.faults works

    abbrev rest : List (Option ℕ)
    rest = source_counts s.faults (drop (i + 1) readers)

    abbrev own : Option K → List (Option ℕ)
    own out = begun_counts ++ option_map k.faults out ∷ rest

    begun-long : length begun_counts ≡ i
    begun-long = length-map works (λ w. count_on s.faults k.faults (held_by w)) ∙ sym size

    -- an entry is that of this file, or of one that was opened before it and didn't fail
    record Entry (out : Option K) (x c : ℕ) : Type 0 where
      within : x < length stages
      has : has_file (role_at stages x) ≡ true
      from : ((x ≡ i) × (option_map k.faults out ≡ Some c)) ⊎ ((c ≡ 0) × ((is_reading (role_at stages x) ≡ true) ⊎ (x < i)))

    entry : (out : Option K) (x c : ℕ) → slice_get (own out) x ≡ Some (Some c) → Entry out x c
    entry out x c e = elim (placed begun_counts rest (option_map k.faults out) (Some c) x e) [
      | inl p ↦ (
          let (w, there, same, some) = work-count s.faults k.faults works x c p.1 in
          let (calm, device) = begun x w there in
          let less : x < i = (let l = p.0 in omega (arith, l, begun-long)) in
          record {
            within = omega (arith, less, inside);
            has = ap is_some (sym device) ∙ some;
            from = inr (sym same ∙ calm, inr less);
          })
      | inr q ↦ elim q [
        | inl p ↦ (
            let here : x ≡ i = p.0 ∙ begun-long in
            record {
              within = omega (arith, here, inside);
              has = ap (λ y. has_file (role_at stages y)) here ∙ writes-file (role_at stages i) writes;
              from = inl (here, p.1);
            })
        | inr p ↦ (
            let there : x ≡ i + 1 + p.0 = (let l = p.1 in omega (arith, l, begun-long)) in
            let (within, calm, reads) = reader-calm x c (ap (slice_get (source_counts s.faults readers)) there ∙ sym (rest-is (i + 1) p.0) ∙ p.2) in
            record {
              within = omega (arith, within, whole);
              has = reads-file (role_at stages x) reads;
              from = inr (calm, inl reads);
            })
      ]
    ]

    front-counted : (out : Option K) (j : ℕ) → j < i → has_file (role_at stages j) ≡ true → (c : ℕ) × (slice_get (own out) j ≡ Some (Some c))
    front-counted out j less has =
        let (w, there) = some_at works j (omega (arith, less, size)) in
        let (calm, device) = begun j w there in
        let some : is_some (op_of w) ≡ true = ap is_some device ∙ has in (
          faults_of s.faults k.faults w,
          slice_get-append_left begun_counts (option_map k.faults out ∷ rest) j (omega (arith, less, begun-long))
              ∙ slice_get-map (λ v. count_on s.faults k.faults (held_by v)) works j
              ∙ ap (option_map (λ v. count_on s.faults k.faults (held_by v))) there
              ∙ ap (λ o. Some o) (held-count s.faults k.faults (held_by w) some),
        )

    -- all that were opened before this file have one
    counted : (out : Option K) (j : ℕ) → j < length stages → has_file (role_at stages j) ≡ true → (is_reading (role_at stages j) ≡ true) ⊎ (j < i) → (c : ℕ) × (slice_get (own out) j ≡ Some (Some c))
    counted out j within has either = elim (less-or-more j i) [
      | inl less ↦ front-counted out j less has
      | inr r ↦ elim r [
        | inl same ↦ elim either [
          | inl reads ↦ (let no : false ≡ true = sym (not-written (role_at stages j) reads) ∙ ap (λ y. is_writing (role_at stages y)) same ∙ writes in absurd cc)
          | inr less ↦ absurd (omega (arith, same, less))
        ]
        | inr p ↦ elim either [
          | inl reads ↦ (
              let there = p.1 in
              let (c, at) = reader-counted j (omega (arith, within, whole)) reads in
              (c, slice_get-append_right begun_counts (option_map k.faults out ∷ rest) j (suc p.0) (omega (arith, there, begun-long)) ∙ rest-is (i + 1) p.0 ∙ ap (slice_get (source_counts s.faults readers)) (sym there) ∙ at))
          | inr less ↦ absurd (let there = p.1 in omega (arith, there, less))
        ]
      ]
    ]

    before-entry : (out : Option K) (x j c : ℕ) → Entry out x c → OpensBefore stages j x → (is_reading (role_at stages j) ≡ true) ⊎ (j < i)
    before-entry out x j c e before = elim (file-kind (role_at stages x) e.has) [
      | inl reads ↦ inl (reading-sooner stages j x reads e.within before).0
      | inr written ↦ elim (writing-later stages j x written before) [
        | inl there ↦ inl there
        | inr less ↦ elim e.from [
          | inl p ↦ inr (let here = p.0 in omega (arith, here, less))
          | inr p ↦ elim p.1 [
            | inl reads ↦ (let no : false ≡ true = sym (not-written (role_at stages x) reads) ∙ written in absurd cc)
            | inr sooner ↦ inr (omega (arith, sooner, less))
          ]
        ]
      ]
    ]

    were-given : (out : Option K) (before mid later after : Option (List ℕ)) → IsAsTold mid (option_map (λ cs. all_listed rest ++ cs) before) → IsAsTold later (option_map (λ cs. listed (option_map k.faults out) ++ cs) mid)
        → IsAsTold after (option_map (λ cs. all_listed begun_counts ++ cs) later) → WereGiven stages (own out) before after
    were-given out before mid later after one two three = record {
      told = subst (λ ns. IsAsTold after (option_map (λ cs. ns ++ cs) before)) (sym (listed-parts begun_counts rest (option_map k.faults out)))
          (told-on (listed (option_map k.faults out) ++ all_listed rest) (all_listed begun_counts) before later after (told-on (all_listed rest) (listed (option_map k.faults out)) before mid later one two) three);
      files = λ x c e. (let from = entry out x c e in (from.within, from.has));
      all = λ x j c e before. counted out j before.inside before.has (before-entry out x j c (entry out x c e) before);
    }

    pub uncreated-named : (rose : Type 0) (out : Option K) (refusal : Refusal) (before mid later after : Option (List ℕ)) → IsUncreated k.faults rose i out refusal
        → IsAsTold mid (option_map (λ cs. all_listed rest ++ cs) before) → IsAsTold later (option_map (λ cs. listed (option_map k.faults out) ++ cs) mid)
        → IsAsTold after (option_map (λ cs. all_listed begun_counts ++ cs) later) → IsNamedBy stages before after refusal
    uncreated-named rose out (of.Device (at.Stage j) op.Create) before mid later after why one two three = λ has. (
      own out,
      were-given out before mid later after one two three,
      subst (λ y. IsNext stages (own out) y) (sym why.0) (record {
        inside = inside;
        others = λ x c e. (let from = entry out x c e in elim from.from [
          | inl p ↦ absurd (none-some c (ap (option_map k.faults) (sym why.1) ∙ p.1))
          | inr p ↦ (before-writing stages x i writes from.within from.has p.1, p.0)
        ]);
        all = λ x before. counted out x before.inside before.has (writing-later stages x i writes before);
      }),
    )
    uncreated-named rose out (of.Device (at.Stage j) op.Write) before mid later after why one two three = λ has.
        let here = why.0 in (
          own out,
          were-given out before mid later after one two three,
          record {
            count = k.faults why.1.0;
            at = ap (slice_get (own out)) (here ∙ sym begun-long) ∙ in-middle begun_counts rest (option_map k.faults out) ∙ ap (λ o. Some (option_map k.faults o)) why.1.1;
            rose = why.1.2;
            earlier = λ x c lt e. elim (entry out x c e).from [
              | inl p ↦ absurd (let same = p.0 in omega (arith, lt, here, same))
              | inr p ↦ p.0
            ];
          },
        )
    uncreated-named rose out (of.Device (at.Stage j) op.Open) before mid later after why one two three = absurd why
    uncreated-named rose out (of.Device (at.Stage j) op.Read) before mid later after why one two three = absurd why
    uncreated-named rose out (of.Device (at.Stage j) op.Patch) before mid later after why one two three = absurd why
    uncreated-named rose out (of.Device (at.Stage j) op.Keep) before mid later after why one two three = tt
    uncreated-named rose out (of.Device at.PipelineFile o) before mid later after why one two three = tt
    uncreated-named rose out (of.Device at.Generated o) before mid later after why one two three = tt
    uncreated-named rose out (of.Device at.Out o) before mid later after why one two three = tt
    uncreated-named rose out (of.Data j f) before mid later after why one two three = absurd why
    uncreated-named rose out (of.Pipeline f) before mid later after why one two three = tt
    uncreated-named rose out (of.Usage x) before mid later after why one two three = tt
    uncreated-named rose out of.Memory before mid later after why one two three = tt
