use Rattle.std.proofs.Common.{arith, ◌≡◌, ◌≤◌, ◌∙◌, ap, refl, sym, subst, ℕ, List, length, map, take, Option, Bor, Err, false}
use Rattle.requests.specs.Request.{Request}
use Rattle.requests.specs.RequestOf.{request_of}
use Rattle.requests.specs.Reply.{Reply}
use Rattle.requests.specs.declared.refusal.Refusal.TheVariants.{StorageFailed}
use Rattle.names.specs.declared.format.Format.{Format}
use Rattle.names.specs.declared.format.Rules.{Rules}
use Rattle.decoded.specs.Standing.{View}
use Rattle.durable.specs.Settled.{ServesAt, HasServed}
use Rattle.httpmsg.specs.Flow.{TookSome}
use Rattle.httpmsg.specs.Stream.{Message}
use Rattle.routes.specs.Allow.{allow_of}
use Rattle.routes.specs.Asked.{asked}
use Rattle.routes.specs.ReplyBytes.{closing_bytes}
use Rattle.routes.specs.AnswerBytes.{answers_bytes, CanAnswerAll}
use Rattle.api.specs.declared.fault.ServeFault.TheVariants.{Write, Damaged}
use Rattle.api.proofs.Causes.{apart, causes_none, causes_write, causes_stored}
use Rattle.api.proofs.Folds.{took_some_of, took_whole}
use Rattle.api.proofs.Groups.{front_can_answer, front_answers, front_writes_some, front_stopped, front_stops}
use Rattle.api.proofs.answer.answer_front.Given.{Over}
use Rattle.api.proofs.answer.answer_front.Goals.{After-write_answers}
use Rattle.api.proofs.answer.answer_front.Goals as goal

-- what the store replied to the messages that were routed
said_of : (g : Over) (c : After-write_answers g) (rules : Rules) (v : View) → ServesAt rules c.args.store.now v → c.format.result ≡ rules.format
    → HasServed c.args.store.now c.replies_to.new.store
    (take (length c.in-Ok.replies.items) (map (asked rules.format) (take (length c.route_front-front.result.requests.items) c.args.messages.now))) c.in-Ok.replies.items
said_of g c rules v serving fits =
    let given = c.in-Ok.replies.items in
    let Said : List Request → Type 0 = λ rs. HasServed c.args.store.now c.replies_to.new.store (take (length given) rs) given in
    let front = take (length c.route_front-front.result.requests.items) c.args.messages.now in
    subst Said (ap (map request_of) c.deref.ensures.value ∙ c.route_front-front.ensures.requests ∙ ap (λ (f : Format). map (asked f) front) fits)
    (c.in-Ok.ensures.served rules v serving)

-- no fewer messages are answered
counted : (g : Over) (c : After-write_answers g) → length c.in-Ok.replies.items ≤ length c.args.messages.now
    → length c.in-Ok.replies.items ≤ c.answered_count-count.result
counted g c few =
    omega (arith, few, c.in-Ok.replies.ok.0, c.len.ensures, c.answered_count-count.ensures.replies (omega (arith, few, c.in-Ok.replies.ok.0, c.len.ensures)))

-- the replies can be written
can_write : (g : Over) (c : After-write_answers g) (rules : Rules) (v : View) → ServesAt rules c.args.store.now v → c.format.result ≡ rules.format
    → CanAnswerAll rules.format (take c.answered_count-count.result c.args.messages.now) c.deref-in-Ok.result.now c.deref-in-Ok-2.result.now
can_write g c rules v serving fits =
    let ms : List Message = take c.answered_count-count.result c.args.messages.now in
    let front = take (length c.route_front-front.result.requests.items) c.args.messages.now in
    let With : List Reply → Type 0 = λ rs. CanAnswerAll rules.format ms rs c.deref-in-Ok-2.result.now in
    let Decoded : List (Option (Bor (List ℕ))) → Type 0 = λ allows. CanAnswerAll rules.format ms c.in-Ok.replies.items allows in
    subst With (sym c.deref-in-Ok.ensures.value)
    (subst Decoded (sym c.deref-in-Ok-2.ensures.value)
    (front_can_answer rules c.args.store.now c.replies_to.new.store v c.args.messages.now (length c.route_front-front.result.requests.items) c.answered_count-count.result
    c.in-Ok.replies.items c.route_front-front.ensures.few (counted g c) serving (said_of g c rules v serving fits) c.route_front-front.result.allows.items
    (c.route_front-front.ensures.allows ∙ ap (λ (f : Format). map (allow_of f) front) fits)))

pub returns-in-Ok-write_answers-clause-outcome : goal.returns-in-Ok-write_answers-clause-outcome
returns-in-Ok-write_answers-clause-outcome g c rules v shows =
    let here = (goal.at.returns-in-Ok-write_answers-clause-outcome g c).After-write_answers in
    let serving = shows c.in-Ok.ensures.serves in
    let fits = c.format.ensures.value ∙ ap (λ (r : Rules). r.format) serving.rules_are in
    let Written : List Reply → Type 0 =
    λ rs. g.O.Output.took c.args.output.now c.write_answers.new.output (answers_bytes rules.format (take c.answered_count-count.result c.args.messages.now) rs)
    in
    front_answers rules c.args.store.now c.replies_to.new.store v c.args.messages.now (length c.route_front-front.result.requests.items) c.answered_count-count.result
    c.in-Ok.replies.items c.route_front-front.ensures.few (counted g here) serving (said_of g here rules v serving fits) g.O.Output.took c.args.output.now c.write_answers.new.output
    (subst Written c.deref-in-Ok.ensures.value (c.in-Ok-write_answers.ensures.writes rules.format (can_write g here rules v serving fits)))

pub returns-in-Ok-clause-outcome : goal.returns-in-Ok-clause-outcome
returns-in-Ok-clause-outcome g c rules v shows =
    let here = (goal.at.returns-in-Ok-clause-outcome g c).After-write_answers in
    let serving = shows c.in-Ok.ensures.serves in
    let fits = c.format.ensures.value ∙ ap (λ (r : Rules). r.format) serving.rules_are in
    let Written : List Reply → Type 0 =
    λ rs. TookSome g.O.Output.took c.args.output.now c.write_answers.new.output (answers_bytes rules.format (take c.answered_count-count.result c.args.messages.now) rs)
    in
    front_writes_some rules c.args.store.now c.replies_to.new.store v c.args.messages.now (length c.route_front-front.result.requests.items) c.answered_count-count.result
    c.in-Ok.replies.items c.route_front-front.ensures.few (counted g here) serving (said_of g here rules v serving fits) g.O.Output.took c.args.output.now c.write_answers.new.output
    (subst Written c.deref-in-Ok.ensures.value (c.in-Err-write_answers.ensures.writes rules.format (can_write g here rules v serving fits)))

pub returns-clause-outcome : goal.returns-clause-outcome
returns-clause-outcome g c rules v shows =
    let front = take (length c.route_front-front.result.requests.items) c.args.messages.now in
    front_stops rules g.O.Output.took g.O.Output.failures c.args.output.now c.write_storage_failed.new.output c.args.store.now c.replies_to.new.store v c.args.messages.now
    (took_some_of g.O.Output.took c.args.output.now c.write_storage_failed.new.output (closing_bytes false StorageFailed) c.write_storage_failed.result c.write_storage_failed.ensures.writes)
    (took_whole g.O.Output.took c.args.output.now c.write_storage_failed.new.output (closing_bytes false StorageFailed) c.write_storage_failed.result
    (g.O.Output.failures c.args.output.now) (g.O.Output.failures c.write_storage_failed.new.output) c.write_storage_failed.ensures.writes c.write_storage_failed.ensures.cause)
    c.in-Err.fault
    (front_stopped rules c.args.store.now c.replies_to.new.store v c.args.messages.now (length c.route_front-front.result.requests.items) (map request_of c.deref.result.now) c.in-Err.fault
    (λ working. ap (map request_of) c.deref.ensures.value ∙ c.route_front-front.ensures.requests ∙ ap (λ (f : Format). map (asked f) front)
    (c.format.ensures.value ∙ ap (λ (r : Rules). r.format) (shows working).rules_are)) c.requires.some c.requires.few shows
    (λ is. c.in-Err.ensures.stopped (ap Err is)) (λ is. c.in-Err.ensures.stops (ap Err is))
    (λ damage is. c.in-Err.ensures.damaged damage (ap Err is) rules v (shows (c.in-Err.ensures.damaged_stops damage (ap Err is)).0)) (λ is. c.in-Err.ensures.failed (ap Err is)) c.in-Err.ensures.refusal)

pub returns-in-Ok-write_answers-clause-causes : goal.returns-in-Ok-write_answers-clause-causes
returns-in-Ok-write_answers-clause-causes g c =
    causes_none _ _ _ _ _ _ c.answered_count-count.result (c.in-Ok-write_answers.ensures.cause.well refl) c.replies_to.ensures.count c.in-Ok.ensures.goes_on

pub returns-in-Ok-clause-causes : goal.returns-in-Ok-clause-causes
returns-in-Ok-clause-causes g c =
    causes_write _ _ _ _ _ _ c.write_answers.ensures.cause.later c.replies_to.ensures.count (c.in-Err-write_answers.ensures.cause.failed refl)

pub returns-clause-causes : goal.returns-clause-causes
returns-clause-causes g c =
    causes_stored _ _ _ _ _ _ c.in-Err.fault c.in-Err.ensures.refusal c.write_storage_failed.ensures.cause.later c.replies_to.ensures.count
    (λ is. c.in-Err.ensures.cause (ap Err is)) (λ damage is. c.in-Err.ensures.damaged_stops damage (ap Err is)) (λ is. (c.in-Err.ensures.failed (ap Err is)).0)

pub returns-in-Ok-clause-damage_told : goal.returns-in-Ok-clause-damage_told
returns-in-Ok-clause-damage_told g c damage is = apart Write (Damaged damage) (λ is. cc) is

pub returns-clause-damage_told : goal.returns-clause-damage_told
returns-clause-damage_told g c damage is =
    let took = g.O.Output.took in
    let last =
    took_some_of took c.args.output.now c.write_storage_failed.new.output (closing_bytes false StorageFailed) c.write_storage_failed.result c.write_storage_failed.ensures.writes
    in
    record {
      before = c.args.output.now;
      later = omega arith;
      closing = last.front;
      unwritten = last.rest;
      refusal = last.split;
      whole = took_whole took c.args.output.now c.write_storage_failed.new.output (closing_bytes false StorageFailed) c.write_storage_failed.result
          (g.O.Output.failures c.args.output.now) (g.O.Output.failures c.write_storage_failed.new.output) c.write_storage_failed.ensures.writes
          c.write_storage_failed.ensures.cause;
      written = last.taken;
    }
