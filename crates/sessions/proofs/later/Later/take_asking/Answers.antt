use Rattle.std.proofs.Common.{rules, arith, ◌≡◌, ◌<◌, ◌∙◌, sym, ap, get_or, Option}
use Rattle.std.specs.Prelude.{unwrap_or}
use Rattle.httpmsg.specs.Stream.{Message}
use Rattle.dialect.specs.ReadingOf.{reading_seen}
use Rattle.dialect.specs.Restated.{asks, reading_of}
use Rattle.sessions.proofs.Asking.{taken_all, rest_all, taken_more, rest_more}
use Rattle.sessions.proofs.later.Later.take_asking.Goals.{in-Plain, in-Restated}
use Rattle.sessions.proofs.later.Later.take_asking.Goals as goal

pub returns-in-Constant-clause-taken : goal.returns-in-Constant-clause-taken
returns-in-Constant-clause-taken c =
    let q = c.loop-message.self-inside in
    let m = c.in-Some.message.now in
    let below : 0 < q.messages.len = search rules in
    taken_all c.args.self.now.format q.format c.loop-message.taken.items q.messages.items m _ c.in-Constant.field-0.now c.loop-message.invariant.format
    (omega (arith, below, q.messages.ok.0)) c.in-Some.ensures.lookup (sym (ap (reading_seen m) c.in-Constant.is) ∙ c.in_ok-reading.ensures.reading) c.loop-message.invariant.taken

pub returns-in-Constant-clause-rest : goal.returns-in-Constant-clause-rest
returns-in-Constant-clause-rest c =
    let q = c.loop-message.self-inside in
    let m = c.in-Some.message.now in
    let below : 0 < q.messages.len = search rules in
    rest_all c.args.self.now.format q.format q.messages.items m _ c.in-Constant.field-0.now c.loop-message.invariant.format
    (omega (arith, below, q.messages.ok.0)) c.in-Some.ensures.lookup (sym (ap (reading_seen m) c.in-Constant.is) ∙ c.in_ok-reading.ensures.reading) c.loop-message.invariant.rest

pub loop-message-preserved-in-Continue-branch-2 : goal.loop-message-preserved-in-Continue-branch-2
loop-message-preserved-in-Continue-branch-2 c =
    let q = c.loop-message.self-inside in
    let f = c.args.self.now.format in
    let m = c.in-Some.message.now in
    let p = c.in-Some-pop_front.message in
    let first = c.in-Some-pop_front.ensures.items in
    let same : m ≡ p = c.in-Some.ensures.lookup ∙ ap (λ ms. get_or ms 0 m) first in
    let Else : Option Message → Message = λ o. unwrap_or o p in
    let reads : asks c.unwrap_or.result ≡ reading_of q.format m =
    elim c.match-reading.branch [
      | in-Plain w ↦ ap asks (c.unwrap_or.ensures ∙ ap Else w.other-is ∙ sym same) ∙ sym (ap (reading_seen m) w.in-Plain.is) ∙ c.in_ok-reading.ensures.reading
      | in-Restated w ↦ ap asks (c.unwrap_or.ensures ∙ ap Else w.other-is) ∙ sym (ap (reading_seen m) w.in-Restated.is) ∙ c.in_ok-reading.ensures.reading
    ] in
    let reads_it : asks c.unwrap_or.result ≡ reading_of q.format p = reads ∙ ap (reading_of q.format) same in
    record {
      format = c.loop-message.invariant.format;
      taken = taken_more f q.format c.loop-message.taken.items q.messages.items p c.unwrap_or.result c.pop_front.new.self.items _ c.push.new.self.items c.loop-message.invariant.format first
          reads_it c.in_ok-push.ensures.items c.loop-message.invariant.taken;
      rest = rest_more f q.format q.messages.items p c.unwrap_or.result c.pop_front.new.self.items _ c.loop-message.invariant.format first reads_it c.loop-message.invariant.rest;
    }
