use Rattle.std.proofs.Common.{rules, ◌∙◌, sym, ap, ◌∷◌, ◌++◌, drop}
use Rattle.std.proofs.lemmas.Bool.{true≢false}
use Rattle.std.specs.FinMap.{is_sorted}
use Rattle.names.specs.Key.{key_cmp}
use Rattle.objects.specs.Merged.{merged}
use Rattle.objects.specs.Steps.{changes_of, IsNext}
use Rattle.objects.proofs.Taking.{step_changed, step_kept, next_first}
use Rattle.objects.proofs.merging.push_entry.Goals as goal

pub returns-then-is_next-clause-pushed : goal.returns-then-is_next-clause-pushed
returns-then-is_next-clause-pushed g c base sorted none above =
    let lent = c.args.changes.now in
    let key = c.args.entry.now.0 in
    let value = c.args.entry.now.1 in
    let next : IsNext key (changes_of lent) = c.is_next.ensures.0 c.if-is_next.true in
    let first = next_first key lent c.index-changes-0.result next (search rules) in
    step_changed key value c.args.kept.now.items c.push_put.new.kept.items c.index-changes-0.result.now (drop 1 (changes_of lent)) base c.in_ok-push_put.ensures first.1
    (ap (is_sorted key_cmp) (sym first.0) ∙ sorted) above
    ∙ ap (λ cs. c.args.kept.now.items ++ merged cs ((key, value) ∷ base)) (sym first.0)

pub returns-clause-pushed : goal.returns-clause-pushed
returns-clause-pushed g c base sorted none above =
    step_kept c.args.entry.now.0 c.args.entry.now.1 c.args.kept.now.items c.push.new.self.items (changes_of c.args.changes.now) base c.in_ok-push.ensures.items
    (λ next. true≢false (sym (c.is_next.ensures.1 next) ∙ c.if-is_next.false)) sorted none
