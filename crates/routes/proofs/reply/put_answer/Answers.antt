use Rattle.std.proofs.Common.{◌≡◌, ◌∙◌, ℕ, List, ap, sym, subst, Option, Some, unwrap_or, Bor, IfSome}
use Rattle.std.specs.Prelude.{option_map}
use Rattle.names.specs.declared.format.Format.{Format}
use Rattle.requests.specs.declared.refusal.Refusal.TheVariants.{OutOfMemory}
use Rattle.requests.specs.Reply.{Reply, status}
use Rattle.httpmsg.specs.Response.{Response, response_bytes}
use Rattle.httpmsg.specs.Sheet.{gathered}
use Rattle.httpmsg.specs.Stream.{Message, is_head}
use Rattle.routes.specs.ReplyBytes.{response_of, allow_in, reply_bytes}
use Rattle.routes.specs.AnswerBytes.{CanAnswer, PutsAfter}
use Rattle.routes.proofs.reply.put_answer.Goals as goal

-- the bytes of the response of a reply that is found
bytes_of_found : (format : Format) (m : Message) (r : Bor Reply) (found : Option (Bor Reply)) (response : Response) → found ≡ Some r
    → response ≡ response_of (allow_in format m r.now) (is_head m.method) m.closes r.now
    → response_bytes response ≡ reply_bytes format m (unwrap_or (option_map (λ x. x.now) found) (status OutOfMemory))
bytes_of_found format m r found response is shows =
    ap response_bytes shows ∙ ap (λ (o : Option (Bor Reply)). reply_bytes format m (unwrap_or (option_map (λ x. x.now) o) (status OutOfMemory))) (sym is)

pub returns-in-Some-clause-puts : goal.returns-in-Some-clause-puts
returns-in-Some-clause-puts g c format can =
    let m = c.args.message.now in
    let Can : Option (Bor Reply) → Type 0 = λ o. IfSome o (λ r. CanAnswer format m r.now c.args.allow) in
    let Puts : List ℕ → Type 0 =
    λ b. PutsAfter g.O.Output.took c.args.output.now c.put_after.new.output (gathered c.args.sheet.now) (gathered c.put_after.new.sheet) b c.put_after.result
    in
    subst Puts (bytes_of_found format m c.in-Some.reply c.args.reply c.response_to.result c.in-Some.is (c.response_to.ensures format (subst Can c.in-Some.is can)))
    c.put_after.ensures.puts
