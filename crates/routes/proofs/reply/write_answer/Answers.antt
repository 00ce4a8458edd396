use Rattle.std.proofs.Common.{◌∙◌, ℕ, List, ap, sym, subst, Option, Bor, IfSome}
use Rattle.std.specs.Prelude.{option_map}
use Rattle.requests.specs.Reply.{Reply}
use Rattle.httpmsg.specs.Flow.{Writes}
use Rattle.routes.specs.AnswerBytes.{answer_bytes, CanAnswer}
use Rattle.httpmsg.specs.Response.{response_bytes}
use Rattle.routes.proofs.reply.write_answer.Goals as goal

pub returns-in-Some-clause-writes : goal.returns-in-Some-clause-writes
returns-in-Some-clause-writes g c format can =
    let m = c.args.message.now in
    let Can : Option (Bor Reply) → Type 0 = λ o. IfSome o (λ r. CanAnswer format m r.now c.args.allow) in
    let Wrote : List ℕ → Type 0 = λ b. Writes g.O.Output.took c.args.output.now c.write.new.output b c.write.result in
    subst Wrote
    (ap response_bytes (c.response_to.ensures format (subst Can c.in-Some.is can))
    ∙ ap (λ (o : Option (Bor Reply)). answer_bytes format m (option_map (λ r. r.now) o)) (sym c.in-Some.is))
    c.write.ensures.writes
