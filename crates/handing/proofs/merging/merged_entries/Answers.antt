use Rattle.std.proofs.Common.{rules, arith, ◌≡◌, ◌∙◌, sym, ap, subst, ◌+◌, ◌-◌, true, List, ◌∷◌, ◌++◌, length, take, drop, map, Option}
use Rattle.std.proofs.lemmas.List.{length-drop, take_rest}
use Rattle.std.specs.FinMap.{is_sorted}
use Rattle.std.specs.Vec.Iter.{into_iter_items}
use Rattle.names.specs.Key.{Key, key_cmp}
use Rattle.objects.specs.Steps.{puts_of, IsSplitAt}
use Rattle.objects.proofs.Taking.{sorted_drop}
use Rattle.histories.specs.declared.stored.Stored.{Stored}
use Rattle.checkpoint.specs.EntryList.{listed}
use Rattle.records.specs.Entries.{stored_entry}
use Rattle.handing.specs.Cells.{cells_in, Adds}
use Rattle.handing.proofs.HandedOn.{HandsOn, begins, one_more, none_left, all_done}
use Rattle.handing.proofs.merging.merged_entries.Goals as goal

pub loop-key-init : goal.loop-key-init
loop-key-init g c =
    let gives : into_iter_items c.into_iter-key-iterator.result ≡ c.args.cells.items = c.into_iter-key-iterator.ensures.into_iter_gives.0 in (
      omega arith,
      λ base cells base_sorted changes_sorted.
          begins c.args.changes.now base (into_iter_items c.into_iter-key-iterator.result) (listed c.new-entries.result.items) (ap listed c.new-entries.ensures.items) (ap cells_in gives ∙ cells) base_sorted,
    )

pub loop-key-preserved : goal.loop-key-preserved
loop-key-preserved g c =
    let changes = c.args.changes.now in
    let done = c.loop-key.done in
    let n = c.count_below.result in
    let more = c.in_ok-done.field-0 in
    let key = c.in-Some.key in
    let rest : take (length changes - done) (drop done changes) ≡ drop done changes = take_rest changes done in
    let after : take (length changes - (done + n)) (drop (done + n) changes) ≡ drop (done + n) changes = take_rest changes (done + n) in
    let size : done + n - done ≡ n = omega arith in
    let front : take (done + n - done) (drop done changes) ≡ take n (drop done changes) = ap (λ k. take k (drop done changes)) size in
    let first = ap length rest ∙ length-drop done changes in
    let second = ap length after ∙ length-drop (done + n) changes in
    let old = listed c.loop-key.entries.items in
    let mid = listed c.add_puts.new.entries.items in
    let new = listed c.add_cell.new.entries.items in (
      omega (arith, c.count_below.ensures.bound, c.in_ok-done.ensures.bound, first, second, c.loop-key.invariant.0),
      λ base cells base_sorted changes_sorted.
          let Made : Type 0 = List (Key × Option (Stored g.row.P.Denot)) in
          let Split : Made → Type 0 = λ cs. IsSplitAt key cs n in
          let Sorted : Made → Type 0 = λ cs. is_sorted key_cmp cs ≡ true in
          one_more changes base done n more old mid new changes_sorted (key, c.in-Some.cell) (into_iter_items c.next.new.self)
          (subst Split rest (c.count_below.ensures.split (subst Sorted (sym rest) (sorted_drop done changes changes_sorted))))
          (c.in_ok-add_puts.ensures ∙ ap (λ (cs : Made). old ++ map stored_entry (puts_of cs)) front)
          (λ stored is. let Added : Made → Type 0 = λ cs. Adds mid new cs (drop more cs) (key, stored) in subst Added after (c.in_ok-done.ensures.added stored is))
          (subst (λ left. HandsOn changes base done left old) c.in-Some.ensures.steps.0 (c.loop-key.invariant.1 base cells base_sorted changes_sorted)),
    )

pub returns : goal.returns
returns g c base cells base_sorted changes_sorted =
    let changes = c.args.changes.now in
    let done = c.loop-key.done in
    let it = c.loop-key.key-iterator in
    let old = listed c.loop-key.entries.items in
    let rest : take (length changes - done) (drop done changes) ≡ drop done changes = take_rest changes done in
    all_done changes base done old _ changes_sorted
    (subst (λ left. HandsOn changes base done left old) (none_left (into_iter_items it) (sym it.rest.ok.0 ∙ c.in-None.ensures.steps.0)) (c.loop-key.invariant.1 base cells base_sorted changes_sorted))
    (c.in_ok-add_puts-2.ensures ∙ ap (λ (cs : List (Key × Option (Stored g.row.P.Denot))). old ++ map stored_entry (puts_of cs)) rest)
