-- What a run leaves is what the caller's filters and tallies remember, once they are back.
use Rattle.std.proofs.Common.{◌≡◌, ℕ, zero, suc, ◌<◌, List, [], ◌∷◌, length, slice_get, Option, Some, None, refl, ap, sym, ◌∙◌, arith}
use Rattle.std.specs.Prelude.{ℤ, fold}
use Rattle.std.specs.Option.{option_map}
use Rattle.std.proofs.lemmas.Option.{none-some, same_Some, slice_get_within}
use Rattle.answer_model.specs.Naming.{AreNamed, AreRemembered, found_in, name_fault}
use Rattle.answer_model.specs.Values.{Opened, options_at, row_at, stage_input}
use Rattle.cloud_points.specs.Meaning.{Nature}
use Rattle.cloud_points.specs.declared.point.Point.{Point}
use Rattle.held_devices.proofs.Lists.{some_at}
use Rattle.plug_stages.specs.Handed.{Handed, at_place, filter_nature, handed_by, natures_from, tally_nature_at}
use Rattle.plug_stages.specs.declared.filter.PlugFilter as plug_type
use Rattle.plug_stages.specs.declared.places.Places.{Places}
use Rattle.plug_stages.specs.declared.tally.PlugTally as tally_type
use Rattle.run_ending.proofs.Putting.{filter-out, placed, puts-filter, puts-tally, tally-out, there}
use Rattle.run_ending.specs.Finished.{OthersStay}
use Rattle.run_ending.specs.Putting.{ArePut}
use Rattle.run_opening.proofs.Taken.{filter-named, named-inside, named-once, tally-named}
use Rattle.held_devices.specs.Handing.{with_filter, with_tally}
use Rattle.stage_forms.specs.Later.{AreLater, Remembers, remembered_in}
use Rattle.stage_forms.specs.Out.{AreTakenOut}
use Rattle.stage_forms.specs.Starts.{AreHandedIn, IsHandedIn}
use Rattle.stage_kinds.specs.Held.{filter_in, held_by, tally_in}
use Rattle.stage_kinds.specs.Stages.{state_of}
use Rattle.stage_kinds.specs.declared.stage_work.StageWork.{StageWork}
use Rattle.stage_kinds.specs.declared.stage_work.StageWork.TheVariants.{Reader, Filter, Plug, Tally, Collector, Views, ViewFiles, Writer}
use Rattle.stage_options.specs.Roles.{plug_of, tally_of}
use Rattle.stage_options.specs.declared.options.Options.{Options}
use Rattle.stage_options.specs.declared.options.Options.TheVariants.{FiltersPlug}
use Rattle.stage_options.specs.declared.stage.StageSpec.{StageSpec}

-- ---- one kind of what is handed in: what works put back stands in its place

module _ {W X : Type 0} (nature : ℕ → X → Nature Point) (own : (k : ℕ) (x : X) → (nature k x).place ≡ k) (names : Options → Option (List ℕ)) (stages : List StageSpec) (before now : List (Option X))
    (free : (j : ℕ) → j < length stages → name_fault names (natures_from nature 0 before) stages j (names (options_at stages j)) ≡ None) (count : length now ≡ length before)
    (out : W → Option (X × ℕ)) (put : W → List (Option X) → List (Option X)) (puts : (w : W) (places : List (Option X)) → put w places ≡ placed (out w) places)
    (works : List W) (few : length works ≡ length stages)
    (holds : (j : ℕ) (w : W) (x : X) (k : ℕ) → slice_get works j ≡ Some w → out w ≡ Some (x, k) → found_in (natures_from nature 0 before) (names (options_at stages j)) ≡ Some (nature k x)) where
  stands : (i : ℕ) (w : W) (x : X) (k : ℕ) (n : Nature Point) → slice_get works i ≡ Some w → out w ≡ Some (x, k) → found_in (natures_from nature 0 before) (names (options_at stages i)) ≡ Some n
      → at_place (fold (λ places w. put w places) now works) n.place ≡ Some x
  stands i w x k n e is found =
      let mine = holds i w x k e is in
      let place : n.place ≡ k = ap (λ (m : Nature Point). m.place) (same_Some n (nature k x) (sym found ∙ mine)) ∙ own k x in
      let inside = named-inside nature own names stages before free i n found in
      ap (at_place (fold (λ places w. put w places) now works)) place
      ∙ there out put puts works now i w x k e is
      (λ j v y f o. named-once nature own names stages before free i j (nature k x) (nature k y)
      (let a = slice_get_within works i w e in omega (arith, a, few)) (let a = slice_get_within works j v f in omega (arith, a, few)) mine (holds j v y k f o) (own k y ∙ sym (own k x)))
      (omega (arith, inside, place, count))

-- no stage names both a filter and a tally
not-both : (o : Options) (p q : List ℕ) → plug_of o ≡ Some p → tally_of o ≡ Some q → ⊥
not-both (FiltersPlug o) p q a b = none-some q b
not-both o p q a b = none-some p a

a-name : (ns : List (Option (Nature Point))) (o : Option (List ℕ)) (n : Nature Point) → found_in ns o ≡ Some n → (name : List ℕ) × (o ≡ Some name)
a-name ns None n e = absurd (none-some n e)
a-name ns (Some name) n e = (name, refl)

-- a stage that names a filter or a tally is one of the stages
inside : (names : Options → Option (List ℕ)) (none : names (options_at [] 0) ≡ None) (stages : List StageSpec) (i : ℕ) (name : List ℕ) → names (options_at stages i) ≡ Some name → i < length stages
inside names none [] i name e = absurd (none-some name (sym none ∙ e))
inside names none (s ∷ stages) zero name e = omega arith
inside names none (s ∷ stages) (suc i) name e = (let l = inside names none stages i name e in omega (arith, l))

-- ---- both

module _ {S K P Q : Type 0} (fs : plug_type.Ghosts P) (ts : tally_type.Ghosts Q) (o : Options) (handed : Handed) where
  filter-handed : (v : StageWork S K P Q) (n : Nature Point) → filter_in fs v ≡ Some n → IsHandedIn fs ts o handed v → found_in handed.filters (plug_of o) ≡ Some n
  filter-handed (Plug u) n e is = is ∙ e
  filter-handed (Reader r) n e is = absurd (none-some n e)
  filter-handed (Filter f) n e is = absurd (none-some n e)
  filter-handed (Tally u) n e is = absurd (none-some n e)
  filter-handed (Collector c) n e is = absurd (none-some n e)
  filter-handed (Views h) n e is = absurd (none-some n e)
  filter-handed (ViewFiles t) n e is = absurd (none-some n e)
  filter-handed (Writer u) n e is = absurd (none-some n e)

  tally-handed : (v : StageWork S K P Q) (n : Nature Point) → tally_in ts v ≡ Some n → IsHandedIn fs ts o handed v → found_in handed.tallies (tally_of o) ≡ Some n
  tally-handed (Tally u) n e is = is.0 ∙ e
  tally-handed (Reader r) n e is = absurd (none-some n e)
  tally-handed (Filter f) n e is = absurd (none-some n e)
  tally-handed (Plug u) n e is = absurd (none-some n e)
  tally-handed (Collector c) n e is = absurd (none-some n e)
  tally-handed (Views h) n e is = absurd (none-some n e)
  tally-handed (ViewFiles t) n e is = absurd (none-some n e)
  tally-handed (Writer u) n e is = absurd (none-some n e)

module _ {S K P Q : Type 0} (fs : plug_type.Ghosts P) (ts : tally_type.Ghosts Q) (stages : List StageSpec) (before : Places P Q) (named : AreNamed (handed_by fs ts before) stages)
    (faults : StageWork S K P Q → ℕ) (start works done : List (StageWork S K P Q)) (all : length start ≡ length stages) (first : AreLater fs ts faults start works) (second : AreLater fs ts faults works done)
    (others : OthersStay works done) (handed : AreHandedIn fs ts stages start (handed_by fs ts before)) where
  few : length done ≡ length stages
  few = second.count ∙ first.count ∙ all

  -- the works at their start, and when they are closed
  was : (i : ℕ) → i < length stages → (v : StageWork S K P Q) × (slice_get start i ≡ Some v)
  was i lt = some_at start i (omega (arith, lt, all))

  is : (i : ℕ) → i < length stages → (v : StageWork S K P Q) × (slice_get works i ≡ Some v)
  is i lt = some_at works i (let c = first.count in omega (arith, lt, all, c))

  at : (i : ℕ) (w : StageWork S K P Q) → slice_get done i ≡ Some w → i < length stages
  at i w e = (let a = slice_get_within done i w e in omega (arith, a, few))

  filter-held : (j : ℕ) (w : StageWork S K P Q) (x : P) (k : ℕ) → slice_get done j ≡ Some w → filter-out w ≡ Some (x, k) → found_in (handed_by fs ts before).filters (plug_of (options_at stages j)) ≡ Some (filter_nature fs k x)
  filter-held j (Plug u) x k e o =
      let v = was j (at j (Plug u) e) in
      let w = is j (at j (Plug u) e) in
      let same = (second.same j w.0 (Plug u) w.1 e).0 ∙ (first.same j v.0 w.0 v.1 w.1).0 in
      filter-handed fs ts (options_at stages j) (handed_by fs ts before) v.0 (filter_nature fs k x)
      (sym same ∙ ap (λ (z : P × ℕ). Some (filter_nature fs z.1 z.0)) (same_Some (u.plug, u.place) (x, k) o)) (handed j v.0 v.1)
  filter-held j (Reader r) x k e o = absurd (none-some _ o)
  filter-held j (Filter f) x k e o = absurd (none-some _ o)
  filter-held j (Tally u) x k e o = absurd (none-some _ o)
  filter-held j (Collector c) x k e o = absurd (none-some _ o)
  filter-held j (Views h) x k e o = absurd (none-some _ o)
  filter-held j (ViewFiles t) x k e o = absurd (none-some _ o)
  filter-held j (Writer u) x k e o = absurd (none-some _ o)

  tally-held : (j : ℕ) (w : StageWork S K P Q) (x : Q) (k : ℕ) → slice_get done j ≡ Some w → tally-out w ≡ Some (x, k) → found_in (handed_by fs ts before).tallies (tally_of (options_at stages j)) ≡ Some (tally_nature_at ts k x)
  tally-held j (Tally u) x k e o =
      let v = was j (at j (Tally u) e) in
      let w = is j (at j (Tally u) e) in
      let same = (second.same j w.0 (Tally u) w.1 e).1 ∙ (first.same j v.0 w.0 v.1 w.1).1 in
      tally-handed fs ts (options_at stages j) (handed_by fs ts before) v.0 (tally_nature_at ts k x)
      (sym same ∙ ap (λ (z : Q × ℕ). Some (tally_nature_at ts z.1 z.0)) (same_Some (u.tally, u.place) (x, k) o)) (handed j v.0 v.1)
  tally-held j (Reader r) x k e o = absurd (none-some _ o)
  tally-held j (Filter f) x k e o = absurd (none-some _ o)
  tally-held j (Plug u) x k e o = absurd (none-some _ o)
  tally-held j (Collector c) x k e o = absurd (none-some _ o)
  tally-held j (Views h) x k e o = absurd (none-some _ o)
  tally-held j (ViewFiles t) x k e o = absurd (none-some _ o)
  tally-held j (Writer u) x k e o = absurd (none-some _ o)

  module _ (opened : Opened) (is_handed : opened.handed ≡ handed_by fs ts before) (now new : Places P Q) (out : AreTakenOut fs ts stages before works now) (put : ArePut done now new)
      (leaves : (i : ℕ) (w : StageWork S K P Q) → slice_get works i ≡ Some w → Remembers fs ts (row_at stages opened i) (stage_input stages opened i) w) where
    filter-stays : (i : ℕ) (n : Nature Point) (s : List ℤ) → found_in (handed_by fs ts before).filters (plug_of (options_at stages i)) ≡ Some n → (w : StageWork S K P Q) → slice_get works i ≡ Some w
        → remembered_in (state_of fs ts w) ≡ Some s → option_map fs.state (at_place new.filters.items n.place) ≡ Some s
    filter-stays i n s found (Plug u) e left =
        ap (λ xs. option_map fs.state (at_place xs n.place)) put.filters
        ∙ ap (option_map fs.state) (stands (filter_nature fs) (λ k x. refl) plug_of stages before.filters.items now.filters.items (filter-named (handed_by fs ts before) stages named) out.filters.count
        filter-out (λ w places. with_filter (held_by w) places) puts-filter done few filter-held i (Plug u) u.plug u.place n (others i (Plug u) e refl) refl found)
        ∙ left
    filter-stays i n s found (Tally u) e left =
        let name = a-name ((handed_by fs ts before).filters) (plug_of (options_at stages i)) n found in
        let other = a-name ((handed_by fs ts before).tallies) (tally_of (options_at stages i)) _ (tally-held i (Tally u) u.tally u.place (others i (Tally u) e refl) refl) in
        absurd (not-both (options_at stages i) name.0 other.0 name.1 other.1)
    filter-stays i n s found (Reader r) e left = absurd (none-some s left)
    filter-stays i n s found (Filter f) e left = absurd (none-some s left)
    filter-stays i n s found (Collector c) e left = absurd (none-some s left)
    filter-stays i n s found (Views h) e left = absurd (none-some s left)
    filter-stays i n s found (ViewFiles t) e left = absurd (none-some s left)
    filter-stays i n s found (Writer u) e left = absurd (none-some s left)

    tally-stays : (i : ℕ) (n : Nature Point) (s : List ℤ) → found_in (handed_by fs ts before).tallies (tally_of (options_at stages i)) ≡ Some n → (w : StageWork S K P Q) → slice_get works i ≡ Some w
        → remembered_in (state_of fs ts w) ≡ Some s → option_map ts.state (at_place new.tallies.items n.place) ≡ Some s
    tally-stays i n s found (Tally u) e left =
        ap (λ xs. option_map ts.state (at_place xs n.place)) put.tallies
        ∙ ap (option_map ts.state) (stands (tally_nature_at ts) (λ k x. refl) tally_of stages before.tallies.items now.tallies.items (tally-named (handed_by fs ts before) stages named) out.tallies.count
        tally-out (λ w places. with_tally (held_by w) places) puts-tally done few tally-held i (Tally u) u.tally u.place n (others i (Tally u) e refl) refl found)
        ∙ left
    tally-stays i n s found (Plug u) e left =
        let name = a-name ((handed_by fs ts before).tallies) (tally_of (options_at stages i)) n found in
        let other = a-name ((handed_by fs ts before).filters) (plug_of (options_at stages i)) _ (filter-held i (Plug u) u.plug u.place (others i (Plug u) e refl) refl) in
        absurd (not-both (options_at stages i) other.0 name.0 other.1 name.1)
    tally-stays i n s found (Reader r) e left = absurd (none-some s left)
    tally-stays i n s found (Filter f) e left = absurd (none-some s left)
    tally-stays i n s found (Collector c) e left = absurd (none-some s left)
    tally-stays i n s found (Views h) e left = absurd (none-some s left)
    tally-stays i n s found (ViewFiles t) e left = absurd (none-some s left)
    tally-stays i n s found (Writer u) e left = absurd (none-some s left)

    pub are-remembered : AreRemembered fs ts stages opened new
    are-remembered = record {
      filters = λ i n s found left.
          let mine = ap (λ (h : Handed). found_in h.filters (plug_of (options_at stages i))) (sym is_handed) ∙ found in
          let name = a-name ((handed_by fs ts before).filters) (plug_of (options_at stages i)) n mine in
          let w = is i (inside plug_of refl stages i name.0 name.1) in
          filter-stays i n s mine w.0 w.1 (leaves i w.0 w.1 s left);
      tallies = λ i n s found left.
          let mine = ap (λ (h : Handed). found_in h.tallies (tally_of (options_at stages i))) (sym is_handed) ∙ found in
          let name = a-name ((handed_by fs ts before).tallies) (tally_of (options_at stages i)) n mine in
          let w = is i (inside tally_of refl stages i name.0 name.1) in
          tally-stays i n s mine w.0 w.1 (leaves i w.0 w.1 s left);
    }
