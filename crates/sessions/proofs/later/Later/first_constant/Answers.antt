use Rattle.std.proofs.Common.{rules, arith, ◌≡◌, ◌<◌, subst, Some, IfOk, IfSome}
use Rattle.sessions.specs.Restating.{Queue, first_constant}
use Rattle.sessions.proofs.Asking.{if_ok_some, first_is}
use Rattle.sessions.proofs.later.Later.first_constant.Goals as goal

pub returns-in-Some : goal.returns-in-Some
returns-in-Some c =
    let below : 0 < c.self.inside.messages.len = search rules in
    let Of : Queue → Type 0 = λ q. IfOk c.constant_for.result (λ text. IfSome text (λ t. first_constant q.format q.messages ≡ Some t.now)) in
    record {
      some = subst Of c.self.view_is
          (if_ok_some c.constant_for.result _ _
          (λ t is. first_is c.self.inside.format c.self.inside.messages.items c.in-Some.message.now t.now (omega (arith, below, c.self.inside.messages.ok.0)) c.in-Some.ensures.lookup is)
          c.constant_for.ensures.some);
    }
