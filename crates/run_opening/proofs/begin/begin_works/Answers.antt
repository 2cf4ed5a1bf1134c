use Rattle.std.proofs.Common.{◌≡◌, ◌+◌, ◌<◌, ◌≤◌, [], ◌∷◌, ◌++◌, drop, length, reverse, vec_len, refl, ap, sym, subst, ◌∙◌, arith, length-set}
use Rattle.circular_buffer.proofs.Places.{slice_get-set_other}
use Rattle.std.proofs.lemmas.List.{map-append, reverse-reverse}
use Rattle.std.proofs.lemmas.Option.{slice_get_read, slice_get_within, get_or_from_slice_get, same_Some}
use Rattle.std.specs.Prelude.{slice_get, slice_index_or, map, None, Some, option_map, IfSome}
use Rattle.answer_model.specs.Naming.{is_used}
use Rattle.cloud_points.specs.declared.layout.Layout.{Layout}
use Rattle.file_devices.specs.Counts.{Rose, all_listed, saturating}
use Rattle.file_devices.specs.Told.{IsAsTold}
use Rattle.stage_kinds.specs.declared.file_form.StageForm.TheVariants.{Reads}
use Rattle.plug_stages.proofs.Out.{none-out}
use Rattle.plug_stages.specs.Handed.{filter_nature, handed_by, tally_nature_at}
use Rattle.plug_stages.specs.Out.{AreOut}
use Rattle.plug_stages.specs.declared.places.Places.{Places}
use Rattle.stage_kinds.specs.Held.{filter_in, op_of, tally_in}
use Rattle.stage_options.specs.Roles.{plug_of, role_of, tally_of, is_writing}
use Rattle.stage_forms.proofs.Out.{taken-back}
use Rattle.stage_forms.specs.Starts.{IsHandedIn}
use Rattle.held_devices.specs.Handing.{FiltersOut, TalliesOut}
use Rattle.run_opening.specs.Taken.{AreFound, without}
use Rattle.run_opening.proofs.Taken.{AreStill, are-found, filter-named, found-later, out-more, still-more, tally-named}
use Rattle.run_opening.proofs.Works.{filter-is, handed-before, nothing-taken, tally-is}
use Rattle.stage_options.specs.declared.stage.StageSpec.{StageSpec}
use Rattle.answer_model.specs.Values.{options_at}
use Rattle.run_opening.specs.Begun.{IsFine, IsForm, IsOpened, IsWork}
use Rattle.held_devices.specs.Holding.{there, all_there, all_held, source_counts}
use Rattle.held_devices.proofs.Lists.{each-push, popped, one_less, some_at}
use Rattle.held_devices.proofs.Sums.{sum-push, sum-pop, sum-reverse, none-there}
use Rattle.run_outcome.proofs.Stages.{stage-is, role-is}
use Rattle.run_opening.proofs.Beginning.{uncreated-cause}
use Rattle.run_opening.proofs.Named.{uncreated-named}
use Rattle.run_opening.proofs.begin.begin_works.Goals as goal

pub loop-reader-init : goal.loop-reader-init
loop-reader-init g c =
    let turned = c.reverse.ensures.items in
    let empty = c.in-Ok.ensures.items in
    record {
      left = ap reverse turned ∙ reverse-reverse c.args.readers.items;
      count = (let a = c.reverse.ensures.len in let k = c.args.readers.ok in omega (arith, a, k));
      begun = λ i w layout e f. (let none = sym (ap (λ xs. slice_get xs i) empty) ∙ e in cc);
      handed = λ i w e. (let none = sym (ap (λ xs. slice_get xs i) empty) ∙ e in cc);
      out = record {
        filters = subst (λ ws. FiltersOut g.P.PlugFilter (is_used plug_of (handed_by g.P.PlugFilter g.Q.PlugTally c.args.places.now).filters c.args.stages.now) ws c.args.places.now.filters.items c.args.places.now.filters.items)
            (sym empty) (none-out (filter_nature g.P.PlugFilter) (is_used plug_of (handed_by g.P.PlugFilter g.Q.PlugTally c.args.places.now).filters c.args.stages.now) c.args.places.now.filters.items);
        tallies = subst (λ ws. TalliesOut g.Q.PlugTally (is_used tally_of (handed_by g.P.PlugFilter g.Q.PlugTally c.args.places.now).tallies c.args.stages.now) ws c.args.places.now.tallies.items c.args.places.now.tallies.items)
            (sym empty) (none-out (tally_nature_at g.Q.PlugTally) (is_used tally_of (handed_by g.P.PlugFilter g.Q.PlugTally c.args.places.now).tallies c.args.stages.now) c.args.places.now.tallies.items);
      };
      filters = λ j le lt. refl;
      tallies = λ j le lt. refl;
      forms = c.requires.made.forms_each;
      left_forms = λ j le. refl;
      works = c.in-Ok.ensures.len;
      room = c.in-Ok.ensures.capacity;
      map = refl;
      lent = (let a = ap all_there turned ∙ sum-reverse there c.args.readers.items in let b : all_held c.in-Ok.works.items ≡ 0 = ap all_held empty in omega (arith, a, b));
      read = refl;
      counts = refl;
      later = omega arith;
    }

pub begin_work-requires-clause-opened : goal.begin_work-requires-clause-opened
begin_work-requires-clause-opened g c =
    let now = c.loop-reader.invariant in
    let p = popped c.args.readers.items c.loop-reader.readers.items c.pop.new.self.items c.loop-reader.at c.in-Some.reader now.left c.in-Some.ensures.items in
    let n = one_less c.loop-reader.at (vec_len c.loop-reader.readers) (vec_len c.pop.new.self) (length c.args.readers.items) now.count c.in-Some.ensures.cases in
    let at = slice_get_read c.args.stages.now (length c.args.stages.now) c.loop-reader.at c.index-stages-at.result refl (let a = n.0 in let b = c.requires.made.readers_each in omega (arith, a, b)) c.index-stages-at.is in
    subst (λ map. IsOpened g.F.In.Source map c.loop-reader.at (role_of c.index-stages-at.result.options) c.in-Some.reader) (sym now.map)
    (subst (λ role. IsOpened g.F.In.Source (g.F.Files.map c.args.files.now) c.loop-reader.at role c.in-Some.reader) (sym (role-is c.args.stages.now c.loop-reader.at c.index-stages-at.result at))
    (c.requires.made.opened c.loop-reader.at c.in-Some.reader p.0))

pub begin_work-requires-clause-fine : goal.begin_work-requires-clause-fine
begin_work-requires-clause-fine g c =
    let now = c.loop-reader.invariant in
    let p = popped c.args.readers.items c.loop-reader.readers.items c.pop.new.self.items c.loop-reader.at c.in-Some.reader now.left c.in-Some.ensures.items in
    let n = one_less c.loop-reader.at (vec_len c.loop-reader.readers) (vec_len c.pop.new.self) (length c.args.readers.items) now.count c.in-Some.ensures.cases in
    let reader-here = get_or_from_slice_get c.args.readers.items c.loop-reader.at c.in-Some.reader None p.0 in
    let form-there = sym (now.left_forms c.loop-reader.at (omega arith)) ∙ slice_get_read c.loop-reader.forms.items (length c.loop-reader.forms.items) c.loop-reader.at c.index_mut.result.now refl
    (let a = n.0 in let b = c.requires.made.readers_each in let d = now.forms in omega (arith, a, b, d)) c.index_mut.ensures.value in
    subst (IsFine c.in-Some.reader) (sym c.replace-form.ensures.value) (subst (λ r. IsFine r c.index_mut.result.now) reader-here (c.requires.made.fine c.loop-reader.at c.index_mut.result.now form-there))

pub returns-in-Err-clause-err : goal.returns-in-Err-clause-err
returns-in-Err-clause-err g c =
    let files = g.F.Files in
    let now = c.loop-reader.invariant in
    let n = one_less c.loop-reader.at (vec_len c.loop-reader.readers) (vec_len c.pop.new.self) (length c.args.readers.items) now.count c.in-Some.ensures.cases in
    let lt : c.loop-reader.at < length c.args.stages.now = (let a = n.0 in let b = c.requires.made.readers_each in omega (arith, a, b)) in
    let at = slice_get_read c.args.stages.now (length c.args.stages.now) c.loop-reader.at c.index-stages-at.result refl lt c.index-stages-at.is in
    let made = Rose (files.faults c.loop-reader.files) (files.faults c.begin_work.new.files) in
    let handed = handed_by g.P.PlugFilter g.Q.PlugTally c.args.places.now in
    uncreated-cause g.F.Out.Sink.faults made (Rose (files.faults c.args.files.now) (files.faults c.release_works.new.files)) handed (files.map c.args.files.now) c.args.stages.now c.loop-reader.at c.in-Err.sink c.in-Err.refusal
    (λ rose. (let a = now.later in let b = c.give_back-in-Err.ensures.settles.later in let d = c.drop_sink.ensures.settles.later in let e = c.release_works.ensures.settles.later in omega (arith, rose, a, b, d, e)))
    (λ k is some. (
    let one : saturating (files.faults c.give_back-in-Err.new.files) (g.F.Out.Sink.faults k) ≤ files.faults c.drop_sink.new.files = subst (λ o. IfSome o (λ x. saturating (files.faults c.give_back-in-Err.new.files) (g.F.Out.Sink.faults x) ≤ files.faults c.drop_sink.new.files)) is c.drop_sink.ensures.counted in
    let a = now.later in let b = c.in-Err.ensures.left.later in let d = c.give_back-in-Err.ensures.settles.later in let e = c.release_works.ensures.settles.later in omega (arith, some, one, a, b, d, e)))
    lt c.requires.come (ap is_writing (sym (role-is c.args.stages.now c.loop-reader.at c.index-stages-at.result at)) ∙ c.in-Err.ensures.writes) c.in-Err.ensures.err

pub returns-in-Err-clause-settles : goal.returns-in-Err-clause-settles
returns-in-Err-clause-settles g c =
    let now = c.loop-reader.invariant in
    let here = c.in-Err.ensures.left in
    let readers = c.give_back-in-Err.ensures.settles in
    let sink = c.drop_sink.ensures.settles in
    let works = c.release_works.ensures.settles in
    let sum = sum-pop there c.loop-reader.readers.items c.pop.new.self.items c.in-Some.reader c.in-Some.ensures.items in
    let back = ap all_there c.reverse-in-Err.ensures.items ∙ sum-reverse there c.pop.new.self.items in
    record {
      map = works.map ∙ sink.map ∙ readers.map ∙ here.map ∙ now.map;
      later = (let a = now.later in let b = here.later in let d = readers.later in let e = sink.later in let f = works.later in omega (arith, a, b, d, e, f));
      lent = λ others e. works.lent others (sink.lent (others + all_held c.loop-reader.works.items)
          (readers.lent (others + all_held c.loop-reader.works.items + there c.in-Err.sink) (let a = now.lent in let lent = here.lent in let none = c.in-Err.ensures.none in omega (arith, a, e, sum, back, lent, none))));
    }

pub returns-in-Err-clause-least : goal.returns-in-Err-clause-least
returns-in-Err-clause-least g c =
    let s = g.F.In.Source in
    let k = g.F.Out.Sink in
    let files = g.F.Files in
    let now = c.loop-reader.invariant in
    let stages = c.args.stages.now in
    let readers = c.args.readers.items in
    let p = popped readers c.loop-reader.readers.items c.pop.new.self.items c.loop-reader.at c.in-Some.reader now.left c.in-Some.ensures.items in
    let n = one_less c.loop-reader.at (vec_len c.loop-reader.readers) (vec_len c.pop.new.self) (length readers) now.count c.in-Some.ensures.cases in
    let lt : c.loop-reader.at < length stages = (let a = n.0 in let b = c.requires.made.readers_each in omega (arith, a, b)) in
    let at = slice_get_read stages (length stages) c.loop-reader.at c.index-stages-at.result refl lt c.index-stages-at.is in
    let size : c.loop-reader.at ≡ length c.loop-reader.works.items = (let a = now.works in let x = c.loop-reader.works.ok in omega (arith, a, x)) in
    let made = Rose (files.faults c.loop-reader.files) (files.faults c.begin_work.new.files) in
    let rest = c.reverse-in-Err.ensures.items ∙ p.1 in
    let first = subst (λ rs. IsAsTold (files.counts c.give_back-in-Err.new.files) (option_map (λ cs. all_listed (source_counts s.faults rs) ++ cs) (files.counts c.begin_work.new.files))) rest c.give_back-in-Err.ensures.told in
    uncreated-named s (files.map c.args.files.now) stages readers c.requires.made.opened k c.loop-reader.works.items c.loop-reader.at size lt c.requires.made.readers_each
    (ap is_writing (sym (role-is stages c.loop-reader.at c.index-stages-at.result at)) ∙ c.in-Err.ensures.writes)
    (λ j w e.
    let l = some_at c.args.bound.layouts.items j (let a = slice_get_within c.loop-reader.works.items j w e in let b = c.requires.made.layouts_each in omega (arith, a, size, lt, b)) in
    let work = now.begun j w l.0 e l.1 in
    (work.calm, work.device)) made c.in-Err.sink c.in-Err.refusal (files.counts c.args.files.now) (files.counts c.give_back-in-Err.new.files) (files.counts c.drop_sink.new.files) (files.counts c.release_works.new.files)
    c.in-Err.ensures.err
    (subst (λ o. IsAsTold (files.counts c.give_back-in-Err.new.files) (option_map (λ cs. all_listed (source_counts s.faults (drop (c.loop-reader.at + 1) readers)) ++ cs) o)) (c.in-Err.ensures.left.counts ∙ now.counts) first)
    c.drop_sink.ensures.told c.release_works.ensures.told

pub loop-reader-preserved : goal.loop-reader-preserved
loop-reader-preserved g c =
    let files = g.F.Files in
    let now = c.loop-reader.invariant in
    let p = popped c.args.readers.items c.loop-reader.readers.items c.pop.new.self.items c.loop-reader.at c.in-Some.reader now.left c.in-Some.ensures.items in
    let n = one_less c.loop-reader.at (vec_len c.loop-reader.readers) (vec_len c.pop.new.self) (length c.args.readers.items) now.count c.in-Some.ensures.cases in
    let at = slice_get_read c.args.stages.now (length c.args.stages.now) c.loop-reader.at c.index-stages-at.result refl (let a = n.0 in let b = c.requires.made.readers_each in omega (arith, a, b)) c.index-stages-at.is in
    let size : c.loop-reader.at ≡ length c.loop-reader.works.items = (let a = now.works in let k = c.loop-reader.works.ok in omega (arith, a, k)) in
    let pushed = c.push_reserved.ensures.items in
    let o = options_at c.args.stages.now c.loop-reader.at in
    let reader-here = get_or_from_slice_get c.args.readers.items c.loop-reader.at c.in-Some.reader None p.0 in
    let form-there = sym (now.left_forms c.loop-reader.at (omega arith)) ∙ slice_get_read c.loop-reader.forms.items (length c.loop-reader.forms.items) c.loop-reader.at c.index_mut.result.now refl
    (let a = n.0 in let b = c.requires.made.readers_each in let d = now.forms in omega (arith, a, b, d)) c.index_mut.ensures.value in
    let form-here = c.replace-form.ensures.value ∙ sym (get_or_from_slice_get c.args.bound.forms.items c.loop-reader.at c.index_mut.result.now (Reads []) form-there) in
    let laid-here = slice_get_read c.args.bound.layouts.items (length c.args.bound.layouts.items) c.loop-reader.at c.index.result.now refl (let a = n.0 in let b = c.requires.made.readers_each in let d = c.requires.made.layouts_each in omega (arith, a, b, d)) c.index.ensures in
    let one = subst (λ f. IsWork g.F.In.Source g.F.Out.Sink (files.map c.args.files.now) c.loop-reader.at o (slice_index_or c.args.readers.items c.loop-reader.at None) f c.index.result.now c.in-Ok-begin_work.work) form-here
    (subst (λ r. IsWork g.F.In.Source g.F.Out.Sink (files.map c.args.files.now) c.loop-reader.at o r c.replace-form.result c.index.result.now c.in-Ok-begin_work.work) (sym reader-here)
    (subst (λ x. IsWork g.F.In.Source g.F.Out.Sink (files.map c.args.files.now) c.loop-reader.at x c.in-Some.reader c.replace-form.result c.index.result.now c.in-Ok-begin_work.work) (ap (λ (s : StageSpec). s.options) (sym (stage-is c.args.stages.now c.loop-reader.at c.index-stages-at.result at)))
    (subst (λ map. IsWork g.F.In.Source g.F.Out.Sink map c.loop-reader.at c.index-stages-at.result.options c.in-Some.reader c.replace-form.result c.index.result.now c.in-Ok-begin_work.work) now.map c.in-Ok-begin_work.ensures.ok))) in
    let fs = g.P.PlugFilter in
    let ts = g.Q.PlugTally in
    let before = handed_by fs ts c.args.places.now in
    let here = handed_by fs ts c.loop-reader.places in
    let inside : c.loop-reader.at < length c.args.stages.now = (let a = n.0 in let b = c.requires.made.readers_each in omega (arith, a, b)) in
    let in-hand = subst (λ x. IsHandedIn fs ts x here c.in-Ok-begin_work.work) (ap (λ (s : StageSpec). s.options) (sym (stage-is c.args.stages.now c.loop-reader.at c.index-stages-at.result at))) c.in-Ok-begin_work.ensures.handed in
    let less = sum-pop there c.loop-reader.readers.items c.pop.new.self.items c.in-Some.reader c.in-Some.ensures.items in
    let more = ap all_held pushed ∙ sum-push (λ w. there (op_of w)) c.loop-reader.works.items c.in-Ok-begin_work.work in
    record {
      left = p.1;
      count = n.1;
      begun = λ i w layout e f. each-push (λ j v. (l : Layout) → slice_get c.args.bound.layouts.items j ≡ Some l
          → IsWork g.F.In.Source g.F.Out.Sink (files.map c.args.files.now) j (options_at c.args.stages.now j) (slice_index_or c.args.readers.items j None) (slice_index_or c.args.bound.forms.items j (Reads [])) l v)
          c.loop-reader.works.items c.in-Ok-begin_work.work c.loop-reader.at size (λ j v a l b. now.begun j v l a b)
          (λ l b. subst (λ x. IsWork g.F.In.Source g.F.Out.Sink (files.map c.args.files.now) c.loop-reader.at o (slice_index_or c.args.readers.items c.loop-reader.at None)
          (slice_index_or c.args.bound.forms.items c.loop-reader.at (Reads [])) x c.in-Ok-begin_work.work) (same_Some _ _ (sym laid-here ∙ b)) one)
          i w (ap (λ xs. slice_get xs i) (sym pushed) ∙ e) layout f;
      handed = λ i w e. each-push (λ j v. IsHandedIn fs ts (options_at c.args.stages.now j) before v) c.loop-reader.works.items c.in-Ok-begin_work.work c.loop-reader.at size now.handed
          (handed-before fs ts o before here (now.filters c.loop-reader.at (omega arith) inside) (now.tallies c.loop-reader.at (omega arith) inside) c.in-Ok-begin_work.work in-hand)
          i w (ap (λ xs. slice_get xs i) (sym pushed) ∙ e);
      out = record {
        filters = subst (λ ps. AreOut (filter_nature fs) (is_used plug_of before.filters c.args.stages.now) (map (filter_in fs) c.push_reserved.new.self.items) c.args.places.now.filters.items ps) (sym c.in-Ok-begin_work.ensures.filters)
            (subst (λ os. AreOut (filter_nature fs) (is_used plug_of before.filters c.args.stages.now) os c.args.places.now.filters.items (without (filter_in fs c.in-Ok-begin_work.work) c.loop-reader.places.filters.items))
            (sym (ap (map (filter_in fs)) pushed ∙ map-append (filter_in fs) c.loop-reader.works.items (c.in-Ok-begin_work.work ∷ [])))
            (out-more (filter_nature fs) (λ k x. refl) plug_of c.args.stages.now c.args.places.now.filters.items c.loop-reader.places.filters.items c.loop-reader.at now.filters inside
            (filter_in fs c.in-Ok-begin_work.work) (filter-is fs ts o here c.in-Ok-begin_work.work in-hand) now.out.filters));
        tallies = subst (λ ps. AreOut (tally_nature_at ts) (is_used tally_of before.tallies c.args.stages.now) (map (tally_in ts) c.push_reserved.new.self.items) c.args.places.now.tallies.items ps) (sym c.in-Ok-begin_work.ensures.tallies)
            (subst (λ os. AreOut (tally_nature_at ts) (is_used tally_of before.tallies c.args.stages.now) os c.args.places.now.tallies.items (without (tally_in ts c.in-Ok-begin_work.work) c.loop-reader.places.tallies.items))
            (sym (ap (map (tally_in ts)) pushed ∙ map-append (tally_in ts) c.loop-reader.works.items (c.in-Ok-begin_work.work ∷ [])))
            (out-more (tally_nature_at ts) (λ k x. refl) tally_of c.args.stages.now c.args.places.now.tallies.items c.loop-reader.places.tallies.items c.loop-reader.at now.tallies inside
            (tally_in ts c.in-Ok-begin_work.work) (tally-is fs ts o here c.in-Ok-begin_work.work in-hand) now.out.tallies));
      };
      filters = subst (λ ps. AreStill (filter_nature fs) plug_of c.args.stages.now c.args.places.now.filters.items ps (c.loop-reader.at + 1)) (sym c.in-Ok-begin_work.ensures.filters)
          (still-more (filter_nature fs) (λ k x. refl) plug_of c.args.stages.now c.args.places.now.filters.items c.loop-reader.places.filters.items c.loop-reader.at now.filters inside
          (filter_in fs c.in-Ok-begin_work.work) (filter-is fs ts o here c.in-Ok-begin_work.work in-hand) (λ j l. filter-named before c.args.stages.now c.requires.named j l));
      tallies = subst (λ ps. AreStill (tally_nature_at ts) tally_of c.args.stages.now c.args.places.now.tallies.items ps (c.loop-reader.at + 1)) (sym c.in-Ok-begin_work.ensures.tallies)
          (still-more (tally_nature_at ts) (λ k x. refl) tally_of c.args.stages.now c.args.places.now.tallies.items c.loop-reader.places.tallies.items c.loop-reader.at now.tallies inside
          (tally_in ts c.in-Ok-begin_work.work) (tally-is fs ts o here c.in-Ok-begin_work.work in-hand) (λ j l. tally-named before c.args.stages.now c.requires.named j l));
      forms = length-set c.loop-reader.forms.items c.loop-reader.at c.replace-form.new.dest ∙ now.forms;
      left_forms = λ j le. slice_get-set_other c.loop-reader.forms.items c.loop-reader.at j c.replace-form.new.dest (λ e. absurd (omega (arith, le, e))) ∙ now.left_forms j (omega (arith, le));
      works = (let a = c.push_reserved.ensures.len in let b = now.works in omega (arith, a, b));
      room = (let a = c.push_reserved.ensures.capacity in let b = now.room in omega (arith, a, b));
      map = c.in-Ok-begin_work.ensures.lends.map ∙ now.map;
      lent = (let a = now.lent in let b = c.in-Ok-begin_work.ensures.lends.lent in omega (arith, a, b, less, more));
      read = c.in-Ok-begin_work.ensures.lends.read_to ∙ now.read;
      counts = c.in-Ok-begin_work.ensures.lends.counts ∙ now.counts;
      later = (let a = c.in-Ok-begin_work.ensures.lends.later in let b = now.later in omega (arith, a, b));
    }

pub returns-clause-lends : goal.returns-clause-lends
returns-clause-lends g c =
    let now = c.loop-reader.invariant in
    let none = none-there c.loop-reader.readers.items (let z = c.in_default-pop.ensures.cases.0 in let k = c.loop-reader.readers.ok in omega (arith, z, k)) in
    let b : all_there c.loop-reader.readers.items ≡ 0 = ap all_there none in
    record { map = now.map; read_to = now.read; counts = now.counts; later = now.later; lent = (let a = now.lent in omega (arith, a, b)) }

pub begin_work-requires-clause-form : goal.begin_work-requires-clause-form
begin_work-requires-clause-form g c =
    let now = c.loop-reader.invariant in
    let n = one_less c.loop-reader.at (vec_len c.loop-reader.readers) (vec_len c.pop.new.self) (length c.args.readers.items) now.count c.in-Some.ensures.cases in
    let at = slice_get_read c.args.stages.now (length c.args.stages.now) c.loop-reader.at c.index-stages-at.result refl (let a = n.0 in let b = c.requires.made.readers_each in omega (arith, a, b)) c.index-stages-at.is in
    let form-there = sym (now.left_forms c.loop-reader.at (omega arith)) ∙ slice_get_read c.loop-reader.forms.items (length c.loop-reader.forms.items) c.loop-reader.at c.index_mut.result.now refl
    (let a = n.0 in let b = c.requires.made.readers_each in let d = now.forms in omega (arith, a, b, d)) c.index_mut.ensures.value in
    subst (IsForm c.index-stages-at.result.options) (sym c.replace-form.ensures.value)
    (subst (λ p. IsForm p c.index_mut.result.now) (ap (λ (s : StageSpec). s.options) (stage-is c.args.stages.now c.loop-reader.at c.index-stages-at.result at)) (c.requires.made.fits c.loop-reader.at c.index_mut.result.now form-there))

pub begin_work-requires-clause-found : goal.begin_work-requires-clause-found
begin_work-requires-clause-found g c =
    let now = c.loop-reader.invariant in
    let n = one_less c.loop-reader.at (vec_len c.loop-reader.readers) (vec_len c.pop.new.self) (length c.args.readers.items) now.count c.in-Some.ensures.cases in
    let inside : c.loop-reader.at < length c.args.stages.now = (let a = n.0 in let b = c.requires.made.readers_each in omega (arith, a, b)) in
    let at = slice_get_read c.args.stages.now (length c.args.stages.now) c.loop-reader.at c.index-stages-at.result refl inside c.index-stages-at.is in
    let fs = g.P.PlugFilter in
    let ts = g.Q.PlugTally in
    subst (λ o. AreFound o (handed_by fs ts c.loop-reader.places)) (ap (λ (s : StageSpec). s.options) (stage-is c.args.stages.now c.loop-reader.at c.index-stages-at.result at))
    (found-later (options_at c.args.stages.now c.loop-reader.at) (handed_by fs ts c.args.places.now) (handed_by fs ts c.loop-reader.places)
    (now.filters c.loop-reader.at (omega arith) inside) (now.tallies c.loop-reader.at (omega arith) inside)
    (are-found (handed_by fs ts c.args.places.now) c.args.stages.now c.requires.named c.loop-reader.at inside))

pub returns-in_default-clause-back : goal.returns-in_default-clause-back
returns-in_default-clause-back g c = nothing-taken g.P.PlugFilter g.Q.PlugTally c.args.stages.now c.args.places.now

pub returns-in-Err-clause-back : goal.returns-in-Err-clause-back
returns-in-Err-clause-back g c =
    let fs = g.P.PlugFilter in
    let ts = g.Q.PlugTally in
    let before = handed_by fs ts c.args.places.now in
    let filters_used = is_used plug_of before.filters c.args.stages.now in
    let tallies_used = is_used tally_of before.tallies c.args.stages.now in
    let out = c.loop-reader.invariant.out in
    let same = c.in-Err.ensures.stay in
    taken-back {S = g.row.F-In.Denot} {K = g.row.F-Out.Denot} fs ts c.args.stages.now c.args.places.now c.release_works.new.places (record {
      filters = c.release_works.ensures.filters filters_used c.args.places.now.filters.items
          (subst (λ (p : Places _ _). FiltersOut fs filters_used c.loop-reader.works.items c.args.places.now.filters.items p.filters.items) (sym same) out.filters);
      tallies = c.release_works.ensures.tallies tallies_used c.args.places.now.tallies.items
          (subst (λ (p : Places _ _). TalliesOut ts tallies_used c.loop-reader.works.items c.args.places.now.tallies.items p.tallies.items) (sym same) out.tallies);
    })
