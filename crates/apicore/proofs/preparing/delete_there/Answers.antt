use Rattle.std.proofs.Common.{◌≡◌, ◌∙◌, ◌+◌, refl, sym, ap, subst, false, [], map, IfOk, option_map, string_bytes, Some, None}
use Rattle.std.proofs.lemmas.Result.{IfOk-from_err}
use Rattle.documents.specs.Document.{shown}
use Rattle.serde_json.specs.View.{view}
use Rattle.policy.specs.declared.match_rules.Operation.TheVariants.{Delete}
use Rattle.requests.specs.Reply.{Reply, showing}
use Rattle.histories.specs.History.{delete}
use Rattle.histories.specs.Mapped.{mapped_write}
use Rattle.decoded.specs.Shown.{plans_held}
use Rattle.apicore.specs.Namespaces.{namespace_shown}
use Rattle.apicore.proofs.Found.{delete_found, said_found, told_found, stored_found, not_exhausted}
use Rattle.apicore.proofs.Looking.{looked_after, looked_as, looked_on}
use Rattle.decoded.proofs.Over.{over_kept}
use Rattle.apicore.proofs.Deciding.{if_ok, admitted_judged, delete_judged}
use Rattle.apicore.proofs.NoBindings.{over_base, verdict_unasked}
use Rattle.apicore.proofs.Faults.{only_memory, same_fault}
use Rattle.apicore.proofs.preparing.delete_there.Goals as goal

pub returns-clause-step : goal.returns-clause-step
returns-clause-step g c = λ held v over found unused s.
    let core = c.args.core.now in
    let key = c.args.asked.now.key.now in
    let asked = option_map string_bytes c.args.asked.now.version.now in
    let after = over_kept _ _ core held v c.in_ok-namespace.ensures.looked.kept over in
    if_ok c.judged_delete.result _ _
    (λ p judged. delete_judged core.rules held key asked v over.plans p s (view c.value.result.now) _ c.args.found.document
    (c.value_of.ensures ∙ c.in_ok-namespace.ensures.namespace held v over)
    (delete_found held key c.args.found found core.rules asked false false false c.requires.conflicts unused (not_exhausted core core.rules held over.shows.revision c.requires.room))
    (ap Some (c.value.ensures.value ∙ c.in_ok-old.ensures) ∙ sym (told_found shown _ _ found))
    (sym (said_found (λ d _. d) _ _ _ found)) judged)
    (c.judged_delete.ensures.judged held v after found)

pub returns-then-branch-clause-step : goal.returns-then-branch-clause-step
returns-then-branch-clause-step g c = λ held v over found unused s.
    let core = c.args.core.now in
    let key = c.args.asked.now.key.now in
    let asked = option_map string_bytes c.args.asked.now.version.now in
    let d = c.args.found.document in
    let old = shown d c.args.found.revision in
    let home = namespace_shown held key in
    let made = c.admitted_delete.result in
    let stored = stored_found _ _ found in
    let nobody = verdict_unasked v (record { operation = Delete; key = key; object = None; old_object = Some old; namespace = home })
    ((c.in_ok-has_no_bindings.ensures over.base v (over_base _ core held v over)).0 c.if-branch.true) in
    if_ok made _ _
    (λ p judged. delete_judged core.rules held key asked v over.plans p s old home d refl
    (delete_found held key c.args.found found core.rules asked false false false c.requires.conflicts unused (not_exhausted core core.rules held over.shows.revision c.requires.room))
    (sym (told_found shown _ _ found)) (sym (said_found (λ d _. d) _ _ _ found)) judged)
    (admitted_judged held (λ ws. showing 200 ws d (held.revision + 1)) (delete key) _ [] made nobody
    (subst (λ (r : Reply). IfOk made (λ p. p.reply ≡ r)) (λ i. showing 200 (map string_bytes (c.new.ensures.items i)) d (over.shows.revision i + 1)) c.admitted_delete.ensures.reply)
    (if_ok made _ _ (λ p is. ap (map (mapped_write plans_held)) is) c.admitted_delete.ensures.write)
    (c.admitted_delete.ensures.next held stored.0 stored.1 stored.2))

pub returns-clause-looked : goal.returns-clause-looked
returns-clause-looked g c =
    let looked = c.in_ok-namespace.ensures.looked in
    looked_on g.S.Source.holds g.S.Source.goes_to g.S.Source.failures g.S.Source.unfailed c.args.core.now c.args.source.now c.namespace_of.new.source c.judged_delete.new.source c.judged_delete.result
    looked.kept looked.counts
    (g.met.S.Source.unfailed_on c.args.source.now c.namespace_of.new.source c.judged_delete.new.source looked.steady)
    (g.met.S.Source.goes_on c.args.source.now c.namespace_of.new.source c.judged_delete.new.source looked.goes c.judged_delete.ensures.looked.goes) c.judged_delete.ensures.looked

pub returns-in_err-namespace-clause-looked : goal.returns-in_err-namespace-clause-looked
returns-in_err-namespace-clause-looked g c =
    let handed = c.from_residual-in_err-namespace in
    looked_as g.S.Source.holds g.S.Source.goes_to g.S.Source.failures g.S.Source.unfailed c.args.core.now c.args.source.now c.namespace_of.new.source c.namespace_of.result handed.result
    (λ fault told. same_fault handed.ensures.1 c.in_err-namespace.was told) (IfOk-from_err handed.result _ handed.ensures.0) c.namespace_of.ensures.looked

pub returns-in_err-old-clause-looked : goal.returns-in_err-old-clause-looked
returns-in_err-old-clause-looked g c =
    let looked = c.in_ok-namespace.ensures.looked in
    let handed = c.from_residual-in_err-old in
    looked_after g.S.Source.holds g.S.Source.goes_to g.S.Source.failures g.S.Source.unfailed c.args.core.now c.args.source.now c.namespace_of.new.source handed.result
    looked.kept looked.goes looked.counts looked.steady (only_memory handed.result handed.ensures.1)
