use Rattle.std.proofs.Common.{rules, ◌≡◌, ◌∙◌, ◌+◌, sym, ap, subst, IfOk, string_bytes, map}
use Rattle.std.proofs.lemmas.Result.{IfOk-from_err}
use Rattle.std.specs.Prelude.{IsErrOf}
use Rattle.objects.specs.declared.fault.LookupFault.TheVariants as LookupFault
use Rattle.histories.specs.History.{delete}
use Rattle.histories.specs.Mapped.{mapped_write}
use Rattle.requests.specs.Reply.{showing}
use Rattle.verdict.specs.DenialSeen.{verdict_seen}
use Rattle.decoded.specs.Shown.{plans_held}
use Rattle.apicore.proofs.Found.{stored_found}
use Rattle.apicore.proofs.Looking.{looked_after}
use Rattle.apicore.proofs.Deciding.{if_ok, admitted_judged, denied_judged}
use Rattle.apicore.proofs.judging.judged_delete.Goals as goal

pub returns-in-Admitted-clause-judged : goal.returns-in-Admitted-clause-judged
returns-in-Admitted-clause-judged g c = λ held v over found.
    let d = c.args.found.document in
    let made = c.admitted_delete.result in
    let warnings = map string_bytes c.in-Admitted.warnings.items in
    let is = sym (c.in_ok-warnings.ensures.verdict held v over) ∙ ap verdict_seen c.in-Admitted.is in
    let stored = stored_found _ _ found in
    admitted_judged held (λ ws. showing 200 ws d (held.revision + 1)) (delete c.args.key.now) _ warnings made is
    (subst (λ n. IfOk made (λ p. p.reply ≡ showing 200 warnings d (n + 1))) over.shows.revision c.admitted_delete.ensures.reply)
    (if_ok made _ _ (λ p is. ap (map (mapped_write plans_held)) is) c.admitted_delete.ensures.write)
    (c.admitted_delete.ensures.next held stored.0 stored.1 stored.2)

pub returns-in-Denied-clause-judged : goal.returns-in-Denied-clause-judged
returns-in-Denied-clause-judged g c = λ held v over found.
    let d = c.args.found.document in
    let is = sym (c.in_ok-warnings.ensures.verdict held v over) ∙ ap verdict_seen c.in-Denied.is in
    denied_judged held (λ ws. showing 200 ws d (held.revision + 1)) (delete c.args.key.now) _ (string_bytes c.in-Denied.policy) (string_bytes c.in-Denied.binding) c.in-Denied.reason
    (string_bytes c.in-Denied.message) c.denied.result is c.denied.ensures.step

pub returns-in-Admitted-clause-looked : goal.returns-in-Admitted-clause-looked
returns-in-Admitted-clause-looked g c =
    looked_after g.S.Source.holds g.S.Source.goes_to g.S.Source.failures g.S.Source.unfailed c.args.core.now c.args.source.now c.verdict_of.new.source c.admitted_delete.result
    c.in_ok-warnings.ensures.kept c.in_ok-warnings.ensures.goes c.in_ok-warnings.ensures.counts c.in_ok-warnings.ensures.steady c.admitted_delete.ensures.memory

pub returns-in-Denied-clause-looked : goal.returns-in-Denied-clause-looked
returns-in-Denied-clause-looked g c =
    looked_after g.S.Source.holds g.S.Source.goes_to g.S.Source.failures g.S.Source.unfailed c.args.core.now c.args.source.now c.verdict_of.new.source c.denied.result
    c.in_ok-warnings.ensures.kept c.in_ok-warnings.ensures.goes c.in_ok-warnings.ensures.counts c.in_ok-warnings.ensures.steady c.denied.ensures.memory

pub returns-in_err-warnings-clause-looked : goal.returns-in_err-warnings-clause-looked
returns-in_err-warnings-clause-looked g c = record {
  kept = c.verdict_of.ensures.kept;
  goes = c.verdict_of.ensures.goes;
  counts = c.verdict_of.ensures.counts;
  steady = IfOk-from_err c.from_residual.result _ c.from_residual.ensures.0;
  device = λ told. let device : IsErrOf c.verdict_of.result LookupFault.Device = search rules in c.verdict_of.ensures.device device;
  memory = λ told. let memory : IsErrOf c.verdict_of.result LookupFault.Memory = search rules in c.verdict_of.ensures.memory memory;
  damaged = λ part told held v over. let damaged : IsErrOf c.verdict_of.result (LookupFault.Damaged part) = search rules in c.verdict_of.ensures.damaged part damaged held v over;
}
