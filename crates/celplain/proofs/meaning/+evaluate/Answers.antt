use Rattle.std.proofs.Common.{◌≡◌, ◌∙◌, ◌≤◌, List, map, length, Some, string_bytes, ap, sym, arith}
use Rattle.std.proofs.lemmas.List.{length-map}
use Rattle.std.proofs.lemmas.Result.{IfOk-weaker}
use Rattle.std.proofs.lemmas.Grind.{common_steps}
use Rattle.celtree.specs.declared.tree.Tree.{Tree}
use Rattle.celtree.specs.View.{view}
use Rattle.celmean.specs.Value.{Value, Outcome}
use Rattle.celmean.specs.Macros.{range_of, over_items, reduced}
use Rattle.celmean.specs.Meaning.{mean, bind}
use Rattle.celmean.specs.Seen.{value_of, values_seen, outcome_of, outcomes_seen}
use Rattle.celplain.specs.Seen.{environment_of}
use Rattle.celplain.proofs.Means.{all_means-map, pair_means-map, over_few, mean-Macro}
use Rattle.celplain.proofs.meaning.+evaluate.Goals as goal

pub evaluate_all-returns : goal.evaluate_all-returns
evaluate_all-returns t c = rw (all_means-map c.args.trees.now.items (environment_of c.args.environment.now)) (grind (arith, common_steps))

pub evaluate_pairs-returns : goal.evaluate_pairs-returns
evaluate_pairs-returns t c = rw (pair_means-map c.args.entries.now.items (environment_of c.args.environment.now)) (grind (arith, common_steps))

pub evaluate_over-returns : goal.evaluate_over-returns
evaluate_over-returns t c =
    let env = environment_of c.args.environment.now in
    let kind = c.args.kind in
    let items = c.args.items.now in
    let outcomes = c.in_ok-outcomes.outcomes in
    let f = λ (v : Value). mean (view c.args.body.now.value) (bind (string_bytes c.args.variable.now) v env) in
    let few : length (values_seen items.items) ≤ 1024 = omega (arith, length-map items.items value_of, items.ok.0, c.len.ensures, c.if-len-gt-LONGEST_RANGE.false) in
    let made : outcomes_seen outcomes.items ≡ map f (values_seen items.items) = rw (c.deref.ensures, c.deref-2.ensures) at c.in_ok-outcomes.ensures in
    let whole = ap (λ (os : List Outcome). reduced kind (values_seen items.items) os) made ∙ sym (over_few kind f (values_seen items.items) few) in
    IfOk-weaker c.reduced.result (λ o. outcome_of o ≡ reduced kind (values_seen items.items) (outcomes_seen outcomes.items)) _ (λ o g. g ∙ whole) c.reduced.ensures

pub evaluate-returns-in-Some : goal.evaluate-returns-in-Some
evaluate-returns-in-Some t c =
    let env = environment_of c.args.environment.now in
    let m = c.in-Macro in
    let items = values_seen c.in-Some.items.items in
    let range : Some items ≡ range_of (mean (view m.of.value) env) = rw c.in-Some.is at c.in_ok-items-in-Macro.ensures in
    let over = ap (λ (t : Tree). mean (view t) env) m.is ∙ mean-Macro m.kind m.of m.variable m.body env (Some items) range in
    IfOk-weaker c.evaluate_over.result (λ o. outcome_of o ≡ over_items m.kind (λ (v : Value). mean (view m.body.value) (bind (string_bytes m.variable) v env)) (Some items)) _ (λ o g. g ∙ sym over) c.evaluate_over.ensures
