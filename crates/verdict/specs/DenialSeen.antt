-- What the program's denials and verdicts stand for.
use Rattle.std.specs.Prelude.{map, string_bytes}
use Rattle.verdict.specs.declared.denials.Denial as code_denial
use Rattle.verdict.specs.declared.verdict.Decision as code_decision
use Rattle.verdict.specs.declared.verdict.Decision.TheVariants as decision
use Rattle.verdict.specs.declared.verdict.Verdict as code_verdict
use Rattle.verdict.specs.declared.verdict.Verdict.TheVariants as verdict
use Rattle.verdict.specs.Told.{Denial}
use Rattle.verdict.specs.Verdict.{Verdict, Decision, decided, warned}

abbrev pub denial_seen : code_denial.Denial → Denial
denial_seen d = record { reason = d.reason; message = string_bytes d.message }

abbrev pub verdict_seen : code_verdict.Verdict → Verdict
verdict_seen (verdict.Admitted warnings) = Verdict.admitted (map string_bytes warnings.items)
verdict_seen (verdict.Denied policy binding reason message) = Verdict.denied (string_bytes policy) (string_bytes binding) reason (string_bytes message)

abbrev pub decision_seen : code_decision.Decision → Decision
decision_seen (decision.Decided v) = decided (verdict_seen v)
decision_seen (decision.Warned d) = warned (denial_seen d)
