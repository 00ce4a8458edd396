use Rattle.std.proofs.Common.{rules, arith, ◌≡◌, ◌∙◌, sym, ap, subst, ◌+◌, ◌-◌, true, ◌∷◌, ◌++◌, length, take, drop}
use Rattle.std.proofs.lemmas.List.{drop_more, drop_all, length-drop, take_rest}
use Rattle.std.specs.FinMap.{is_sorted}
use Rattle.names.specs.Key.{key_cmp}
use Rattle.objects.specs.Merged.{merged}
use Rattle.objects.specs.Steps.{changes_of, puts_of, NoneBelow, IsSplitAt}
use Rattle.objects.proofs.Taking.{sorted_drop, step_merged, step_end, changes_of-drop, changes_of-take}
use Rattle.objects.proofs.merging.merged.Goals as goal

pub loop-entry-preserved : goal.loop-entry-preserved
loop-entry-preserved g c =
    let lent = c.args.changes.now in
    let base = c.args.base.now in
    let done = c.loop-entry.done in
    let n = c.count_below.result in
    let more = c.in_ok-done.field-0 in
    let index = c.loop-entry.entry-index in
    let entry = c.entry-item.result in
    let changes = changes_of lent in
    let rest : changes_of (take (length lent - done) (drop done lent)) ≡ drop done changes = ap changes_of (take_rest lent done) ∙ changes_of-drop done lent in
    let after : changes_of (take (length lent - (done + n)) (drop (done + n) lent)) ≡ drop (done + n) changes =
    ap changes_of (take_rest lent (done + n)) ∙ changes_of-drop (done + n) lent
    in
    let size : done + n - done ≡ n = omega arith in
    let front : changes_of (take (done + n - done) (drop done lent)) ≡ take n (drop done changes) =
    changes_of-take (done + n - done) (drop done lent) ∙ ap (take (done + n - done)) (changes_of-drop done lent) ∙ ap (λ k. take k (drop done changes)) size
    in
    let first = ap length (take_rest lent done) ∙ length-drop done lent in
    let second = ap length (take_rest lent (done + n)) ∙ length-drop (done + n) lent in (
      omega (arith, c.count_below.ensures.bound, c.in_ok-done.ensures.bound, first, second, c.loop-entry.invariant.0),
      λ changes_sorted base_sorted.
          step_merged changes base done n more index entry c.loop-entry.kept.items c.push_puts.new.kept.items c.push_entry.new.kept.items _ changes_sorted base_sorted
          (drop_more base index entry (omega arith) ∙ ap (λ e. e ∷ drop (index + 1) base) (sym (search rules)))
          (subst (λ cs. IsSplitAt entry.0 cs n) rest (c.count_below.ensures.split (subst (λ cs. is_sorted key_cmp cs ≡ true) (sym rest) (sorted_drop done changes changes_sorted))))
          (c.in_ok-push_puts.ensures ∙ ap (λ cs. c.loop-entry.kept.items ++ puts_of cs) front)
          (λ back sorted none above.
          ap (λ cs. c.push_entry.new.kept.items ++ merged (drop more cs) back) (sym after)
          ∙ c.in_ok-done.ensures.pushed back (subst (λ cs. is_sorted key_cmp cs ≡ true) (sym after) sorted) (subst (λ cs. NoneBelow entry.0 cs) (sym after) none) above
          ∙ ap (λ cs. c.push_puts.new.kept.items ++ merged cs (entry ∷ back)) after)
          (c.loop-entry.invariant.1 changes_sorted base_sorted),
    )

pub returns : goal.returns
returns g c changes_sorted base_sorted =
    let lent = c.args.changes.now in
    let done = c.loop-entry.done in
    let rest : changes_of (take (length lent - done) (drop done lent)) ≡ drop done (changes_of lent) = ap changes_of (take_rest lent done) ∙ changes_of-drop done lent in
    step_end (changes_of lent) c.args.base.now done c.loop-entry.entry-index c.loop-entry.kept.items c.push_puts-2.new.kept.items _ changes_sorted
    (drop_all c.loop-entry.entry-index c.args.base.now (omega arith)) (c.in_ok-push_puts-2.ensures ∙ ap (λ cs. c.loop-entry.kept.items ++ puts_of cs) rest)
    (c.loop-entry.invariant.1 changes_sorted base_sorted)
