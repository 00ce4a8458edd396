use Rattle.std.proofs.Common.{rules, ◌≡◌, ◌∙◌, ◌+◌, sym, ap, subst, IfOk, if◌then◌else◌, is_some, option_map, string_bytes, map, Bor}
use Rattle.std.proofs.lemmas.Result.{IfOk-from_err}
use Rattle.std.specs.Prelude.{IsErrOf}
use Rattle.objects.specs.declared.fault.LookupFault.TheVariants as LookupFault
use Rattle.serde_json.specs.declared.value.Value.{Value}
use Rattle.serde_json.specs.View.{view}
use Rattle.requests.specs.Codes.{document_in}
use Rattle.histories.specs.History.{put}
use Rattle.requests.specs.Reply.{Reply, showing}
use Rattle.verdict.specs.DenialSeen.{verdict_seen}
use Rattle.apicore.proofs.Looking.{looked_after}
use Rattle.apicore.proofs.Deciding.{admitted_judged, denied_judged, put_planned, some_mapped}
use Rattle.apicore.proofs.judging.judged_put.Goals as goal

pub returns-in-Admitted-clause-judged : goal.returns-in-Admitted-clause-judged
returns-in-Admitted-clause-judged g c = λ held v trees over stands same.
    let m = c.args.placed.now.manifest.now in
    let d = document_in m.body in
    let made = c.admitted_put.result in
    let stood = is_some (option_map (λ d. view d.now) c.args.old_object) in
    let warnings = map string_bytes c.in-Admitted.warnings.items in
    let code : c.is_some.result ≡ stood = c.is_some.ensures ∙ sym (some_mapped (λ (d : Bor Value). view d.now) c.args.old_object) in
    let is = sym (rw c.put_attempt-attempt.ensures at (c.in_ok-warnings.ensures.verdict held v over)) ∙ ap verdict_seen c.in-Admitted.is in
    admitted_judged held (λ ws. showing (if stood then 200 else 201) ws d (held.revision + 1)) (put m.key d trees) _ warnings made is
    (subst (λ (r : Reply). IfOk made (λ p. p.reply ≡ r)) (λ i. showing (if code i then 200 else 201) warnings d (over.shows.revision i + 1)) c.admitted_put.ensures.reply)
    (put_planned m.key d c.args.plans.items trees made c.admitted_put.ensures.write same)
    (c.admitted_put.ensures.next held over.shows.revision (code ∙ stands))

pub returns-in-Denied-clause-judged : goal.returns-in-Denied-clause-judged
returns-in-Denied-clause-judged g c = λ held v trees over stands same.
    let m = c.args.placed.now.manifest.now in
    let d = document_in m.body in
    let stood = is_some (option_map (λ d. view d.now) c.args.old_object) in
    let is = sym (rw c.put_attempt-attempt.ensures at (c.in_ok-warnings.ensures.verdict held v over)) ∙ ap verdict_seen c.in-Denied.is in
    denied_judged held (λ ws. showing (if stood then 200 else 201) ws d (held.revision + 1)) (put m.key d trees) _ (string_bytes c.in-Denied.policy) (string_bytes c.in-Denied.binding) c.in-Denied.reason
    (string_bytes c.in-Denied.message) c.denied.result is c.denied.ensures.step

pub returns-in-Admitted-clause-looked : goal.returns-in-Admitted-clause-looked
returns-in-Admitted-clause-looked g c =
    looked_after g.S.Source.holds g.S.Source.goes_to g.S.Source.failures g.S.Source.unfailed c.args.core.now c.args.source.now c.verdict_of.new.source c.admitted_put.result
    c.in_ok-warnings.ensures.kept c.in_ok-warnings.ensures.goes c.in_ok-warnings.ensures.counts c.in_ok-warnings.ensures.steady c.admitted_put.ensures.memory

pub returns-in-Denied-clause-looked : goal.returns-in-Denied-clause-looked
returns-in-Denied-clause-looked g c =
    looked_after g.S.Source.holds g.S.Source.goes_to g.S.Source.failures g.S.Source.unfailed c.args.core.now c.args.source.now c.verdict_of.new.source c.denied.result
    c.in_ok-warnings.ensures.kept c.in_ok-warnings.ensures.goes c.in_ok-warnings.ensures.counts c.in_ok-warnings.ensures.steady c.denied.ensures.memory

pub returns-in_err-warnings-clause-looked : goal.returns-in_err-warnings-clause-looked
returns-in_err-warnings-clause-looked g c = record {
  kept = c.verdict_of.ensures.kept;
  goes = c.verdict_of.ensures.goes;
  counts = c.verdict_of.ensures.counts;
  steady = IfOk-from_err c.from_residual.result _ c.from_residual.ensures.0;
  device = λ told. let device : IsErrOf c.verdict_of.result LookupFault.Device = search rules in c.verdict_of.ensures.device device;
  memory = λ told. let memory : IsErrOf c.verdict_of.result LookupFault.Memory = search rules in c.verdict_of.ensures.memory memory;
  damaged = λ part told held v over. let damaged : IsErrOf c.verdict_of.result (LookupFault.Damaged part) = search rules in c.verdict_of.ensures.damaged part damaged held v over;
}
