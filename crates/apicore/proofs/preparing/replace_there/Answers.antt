use Rattle.std.proofs.Common.{◌≡◌, ◌∙◌, ◌+◌, sym, ap, subst, false, map, string_bytes, Some, IfOk, []}
use Rattle.documents.specs.Document.{shown}
use Rattle.serde_json.specs.View.{view}
use Rattle.policy.specs.declared.match_rules.Operation.TheVariants.{Update}
use Rattle.requests.specs.Codes.{document_in}
use Rattle.requests.specs.Reply.{Reply, showing}
use Rattle.histories.specs.History.{put}
use Rattle.apicore.proofs.Found.{replace_found, there_found, told_found}
use Rattle.apicore.proofs.Deciding.{if_ok, admitted_judged, put_planned, replace_judged}
use Rattle.apicore.proofs.NoBindings.{over_base, verdict_unasked}
use Rattle.apicore.proofs.preparing.replace_there.Goals as goal

pub returns-clause-step : goal.returns-clause-step
returns-clause-step g c = λ trees same held v over inside found limits.
    let m = c.args.replacement.now.placed.now.manifest.now in
    let there = there_found _ _ found in
    if_ok c.judged_put.result _ _
    (λ p judged. replace_judged c.args.core.now.rules held m v over.plans p trees (view c.value.result.now) _ inside (replace_found held m.key c.args.replacement.now.found.now found m.version false c.requires.conflicts) there (sym limits)
    (ap Some (c.value.ensures.value ∙ c.in_ok-old.ensures) ∙ sym (told_found shown _ _ found)) judged)
    (c.judged_put.ensures.judged held v trees over (sym there) same)

pub returns-then-branch-clause-step : goal.returns-then-branch-clause-step
returns-then-branch-clause-step g c = λ trees same held v over inside found limits.
    let m = c.args.replacement.now.placed.now.manifest.now in
    let home = c.args.replacement.now.placed.now.namespace.now in
    let d = document_in m.body in
    let here = c.args.replacement.now.found.now in
    let old = shown here.document here.revision in
    let made = c.admitted_put.result in
    let there = there_found _ _ found in
    let nobody = verdict_unasked v (record { operation = Update; key = m.key; object = Some d.json; old_object = Some old; namespace = home })
    ((c.in_ok-has_no_bindings.ensures over.base v (over_base _ c.args.core.now held v over)).0 c.if-branch.true) in
    if_ok made _ _
    (λ p judged. replace_judged c.args.core.now.rules held m v over.plans p trees old home inside (replace_found held m.key here found m.version false c.requires.conflicts) there (sym limits)
    (sym (told_found shown _ _ found)) judged)
    (admitted_judged held (λ ws. showing 200 ws d (held.revision + 1)) (put m.key d trees) _ [] made nobody
    (subst (λ (r : Reply). IfOk made (λ p. p.reply ≡ r)) (λ i. showing 200 (map string_bytes (c.new.ensures.items i)) d (over.shows.revision i + 1)) c.admitted_put.ensures.reply)
    (put_planned m.key d c.args.plans.items trees made c.admitted_put.ensures.write same)
    (c.admitted_put.ensures.next held over.shows.revision (sym there)))
