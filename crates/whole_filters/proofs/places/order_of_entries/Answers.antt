use Rattle.std.proofs.Common.{ℕ, List, length, get_or, map, ap, sym, ◌∙◌, subst, arith}
use Rattle.std.specs.Prelude.{pos}
use Rattle.std.specs.List.{range_with_len}
use Rattle.std.specs.List.Sorted.{IsPermutation}
use Rattle.std.proofs.lemmas.Result.{IfOk-weaker}
use Rattle.whole_filters.specs.declared.places.Entry.{Entry}
use Rattle.whole_filters.proofs.Mapping.{each_place, not_moved, places_in_order}
use Rattle.whole_filters.proofs.Placing.{rising_from, entries_in_order}
use Rattle.whole_filters.proofs.places.order_of_entries.Goals as goal

pub returns-clause-each_once : goal.returns-clause-each_once
returns-clause-each_once c =
    let es = c.in_ok-entries.entries.items in
    let once = each_place c.args.dim c.args.down c.args.points.now (pos 0) es (not_moved c.args.dim c.args.down c.args.points.now es c.in_ok-entries.ensures) c.sort_unstable.new.self.items c.sort_unstable.ensures.permutation in
    IfOk-weaker c.places_of.result _ _
    (λ places e. subst (λ (z : List ℕ). IsPermutation (range_with_len 0 (length c.args.points.now)) z)
    (sym (e ∙ ap (map (λ (x : Entry). x.place)) c.as_slice.ensures.value)) once)
    c.places_of.ensures

pub returns-clause-in_order : goal.returns-clause-in_order
returns-clause-in_order c =
    let es = c.in_ok-entries.entries.items in
    let keyed = c.in_ok-entries.ensures in
    let rise = rising_from 0 es (λ k d l. omega (arith, keyed.place k d (omega (arith, keyed.each, l)))) in
    let only = entries_in_order es c.sort_unstable.new.self.items rise c.sort_unstable.ensures.permutation c.sort_unstable.ensures.sorted in
    IfOk-weaker c.places_of.result _ _
    (λ places e d. ap (map (λ k. get_or c.args.points.now k d)) (e ∙ ap (map (λ (x : Entry). x.place)) c.as_slice.ensures.value)
    ∙ places_in_order c.args.dim c.args.down c.args.points.now (pos 0) es (not_moved c.args.dim c.args.down c.args.points.now es keyed) d c.sort_unstable.new.self.items only)
    c.places_of.ensures
