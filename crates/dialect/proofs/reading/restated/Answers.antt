use Rattle.std.proofs.Common.{rules, ◌≡◌, ◌∙◌, false, option_map, unwrap_or, string_bytes}
use Rattle.std.proofs.lemmas.Result.{IfOk-weaker}
use Rattle.httpmsg.specs.Stream.{Message}
use Rattle.dialect.specs.Restated.{asks, has_other_pair, restated_body, restated_target}
use Rattle.dialect.proofs.Again.{once, read_again}
use Rattle.dialect.proofs.reading.restated.Goals as goal

pub returns-clause-once : goal.returns-clause-once
returns-clause-once c =
    let f = c.args.format in
    let m : Message = c.args.message.now in
    let none : has_other_pair m ≡ false = search rules in
    let target : unwrap_or (option_map string_bytes c.in_ok-target.target) m.target ≡ restated_target m = search rules in
    let made : Message = record { method = m.method; target = restated_target m; closes = m.closes; body = restated_body f m } in
    let again = read_again f m none c.requires.constant c.in_ok-body.ensures.again in
    IfOk-weaker c.with_parts.result _ _
    (λ reading seen. once f m made reading (seen ∙ (λ i. asks (record { method = m.method; target = target i; closes = m.closes; body = c.in_ok-body.ensures.text i }))) again)
    c.with_parts.ensures
