use Rattle.std.proofs.Common.{◌≡◌, take}
use Rattle.names.specs.declared.format.Format.{Format}
use Rattle.httpmsg.specs.Sheet.{gathered}
use Rattle.httpmsg.proofs.Flows.{HasTaken}
use Rattle.routes.specs.AnswerBytes.{answers_bytes, CanAnswerAll}
use Rattle.routes.proofs.reply.write_answers.Given as goal

abbrev pub invariant-loop-index : goal.invariant-loop-index
invariant-loop-index g l = record {
  writes : (format : Format) → CanAnswerAll format l.messages l.replies l.allows
      → HasTaken g.O.Output.took l.fn.output l.output (answers_bytes format (take l.index l.messages) l.replies) (gathered l.sheet);
  same : g.O.Output.failures l.output ≡ g.O.Output.failures l.fn.output;
}
