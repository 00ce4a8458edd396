use Rattle.std.proofs.Common.{arith, ◌≡◌, ◌≤◌, ◌+◌, ◌++◌, true, ◌∙◌, ap, sym, subst, ℕ, List, length, map, take, Option, Bor, Err}
use Rattle.requests.specs.Request.{Request}
use Rattle.requests.specs.RequestOf.{request_of}
use Rattle.requests.specs.Reply.{Reply}
use Rattle.names.specs.declared.format.Format.{Format}
use Rattle.names.specs.declared.format.Rules.{Rules}
use Rattle.records.specs.Payload.{group_limit}
use Rattle.decoded.specs.Standing.{View}
use Rattle.durable.specs.Settled.{ServesAt, HasServed}
use Rattle.httpmsg.specs.Stream.{Message}
use Rattle.routes.specs.Allow.{allow_of}
use Rattle.routes.specs.Asked.{asked}
use Rattle.routes.specs.AnswerBytes.{CanAnswerAll}
use Rattle.api.proofs.Causes.{causes_none, causes_stored}
use Rattle.api.proofs.Groups.{front_can_answer, front_stopped}
use Rattle.sessions.specs.Turn.{answers_to, AllGain}
use Rattle.sessions.specs.Notes.{listed, notes_to}
use Rattle.sessions.proofs.Fronts.{front_told, front_refused}
use Rattle.sessions.proofs.turn.answer_front.Given.{Over}
use Rattle.sessions.proofs.turn.answer_front.Goals.{After-deliver}
use Rattle.sessions.proofs.turn.answer_front.Goals as goal

-- what the store replied to the messages that were routed
said_of : (g : Over) (c : After-deliver g) (rules : Rules) (v : View) → ServesAt rules c.args.store.now v → c.format.result ≡ rules.format
    → HasServed c.args.store.now c.replies_to.new.store
    (take (length c.in-Ok.replies.items) (map (asked rules.format) (take (length c.route_front-front.result.requests.items) c.args.messages.now))) c.in-Ok.replies.items
said_of g c rules v serving fits =
    let given = c.in-Ok.replies.items in
    let Said : List Request → Type 0 = λ rs. HasServed c.args.store.now c.replies_to.new.store (take (length given) rs) given in
    let front = take (length c.route_front-front.result.requests.items) c.args.messages.now in
    subst Said (ap (map request_of) c.deref.ensures.value ∙ c.route_front-front.ensures.requests ∙ ap (λ (f : Format). map (asked f) front) fits)
    (c.in-Ok.ensures.served rules v serving)

-- no fewer messages are answered
counted : (g : Over) (c : After-deliver g) → length c.in-Ok.replies.items ≤ length c.args.messages.now
    → length c.in-Ok.replies.items ≤ c.answered_count-count.result
counted g c few =
    omega (arith, few, c.in-Ok.replies.ok.0, c.len.ensures, c.answered_count-count.ensures.replies (omega (arith, few, c.in-Ok.replies.ok.0, c.len.ensures)))

-- the replies can be written, and told of
can_answer : (g : Over) (c : After-deliver g) (rules : Rules) (v : View) → ServesAt rules c.args.store.now v → c.format.result ≡ rules.format → (rs : List Reply) → rs ≡ c.in-Ok.replies.items
    → (allows : List (Option (Bor (List ℕ)))) → allows ≡ c.route_front-front.result.allows.items
    → CanAnswerAll rules.format (take c.answered_count-count.result c.args.messages.now) rs allows
can_answer g c rules v serving fits rs replies_are allows allows_are =
    let ms : List Message = take c.answered_count-count.result c.args.messages.now in
    let front = take (length c.route_front-front.result.requests.items) c.args.messages.now in
    let With : List Reply → Type 0 = λ xs. CanAnswerAll rules.format ms xs allows in
    let Decoded : List (Option (Bor (List ℕ))) → Type 0 = λ xs. CanAnswerAll rules.format ms c.in-Ok.replies.items xs in
    subst With (sym replies_are)
    (subst Decoded (sym allows_are)
    (front_can_answer rules c.args.store.now c.replies_to.new.store v c.args.messages.now (length c.route_front-front.result.requests.items) c.answered_count-count.result
    c.in-Ok.replies.items c.route_front-front.ensures.few (counted g c) serving (said_of g c rules v serving fits) c.route_front-front.result.allows.items
    (c.route_front-front.ensures.allows ∙ ap (λ (f : Format). map (allow_of f) front) fits)))

pub returns-in-Ok-clause-outcome : goal.returns-in-Ok-clause-outcome
returns-in-Ok-clause-outcome g c rules v shows =
    let here = (goal.at.returns-in-Ok-clause-outcome g c).After-deliver in
    let serving = shows c.in-Ok.ensures.serves in
    let fits = c.format.ensures.value ∙ ap (λ (r : Rules). r.format) serving.rules_are in
    let count : ℕ = c.answered_count-count.result in
    let Given : List Reply → Type 0 =
    λ rs. AllGain c.args.sessions.now c.deliver.new.sessions (λ i. answers_to rules.format i (take count c.args.places.now) (take count c.args.messages.now) rs)
    in
    let Told : List Reply → Type 0 =
    λ rs. c.args.tools.now.notes.is_kept ≡ true → length (listed c.args.tools.now.notes) + length (take count c.args.messages.now) ≤ group_limit
    → listed c.take.new.self ≡ listed c.args.tools.now.notes ++ notes_to rules.format (take count c.args.messages.now) rs
    in
    front_told rules c.args.store.now c.replies_to.new.store v c.args.messages.now (length c.route_front-front.result.requests.items) count
    c.in-Ok.replies.items c.route_front-front.ensures.few (counted g here) serving (said_of g here rules v serving fits) (take count c.args.places.now)
    c.args.sessions.now c.deliver.new.sessions (subst Given c.deref-in-Ok.ensures.value (c.deliver.ensures rules.format (can_answer g here rules v serving fits c.deref-in-Ok.result.now
    c.deref-in-Ok.ensures.value c.deref-in-Ok-2.result.now c.deref-in-Ok-2.ensures.value)))
    c.args.tools.now.notes.is_kept (listed c.args.tools.now.notes) (listed c.take.new.self)
    (subst Told c.deref-in-Ok-3.ensures.value (c.take.ensures.told rules.format (can_answer g here rules v serving fits c.deref-in-Ok-3.result.now
    c.deref-in-Ok-3.ensures.value c.deref-in-Ok-4.result.now c.deref-in-Ok-4.ensures.value)))

pub returns-in-Ok-clause-causes : goal.returns-in-Ok-clause-causes
returns-in-Ok-clause-causes g c = causes_none _ _ _ _ _ _ c.answered_count-count.result (omega arith) c.replies_to.ensures.count c.in-Ok.ensures.goes_on

pub returns-clause-outcome : goal.returns-clause-outcome
returns-clause-outcome g c rules v shows =
    let front = take (length c.route_front-front.result.requests.items) c.args.messages.now in
    front_refused rules c.args.store.now c.replies_to.new.store v c.args.places.now c.args.messages.now c.args.sessions.now c.refuse_all.new.sessions c.in-Err.fault
    (front_stopped rules c.args.store.now c.replies_to.new.store v c.args.messages.now (length c.route_front-front.result.requests.items) (map request_of c.deref.result.now) c.in-Err.fault
    (λ working. ap (map request_of) c.deref.ensures.value ∙ c.route_front-front.ensures.requests ∙ ap (λ (f : Format). map (asked f) front)
    (c.format.ensures.value ∙ ap (λ (r : Rules). r.format) (shows working).rules_are)) c.requires.some c.requires.few shows
    (λ is. c.in-Err.ensures.stopped (ap Err is)) (λ is. c.in-Err.ensures.stops (ap Err is))
    (λ damage is. c.in-Err.ensures.damaged damage (ap Err is) rules v (shows (c.in-Err.ensures.damaged_stops damage (ap Err is)).0)) (λ is. c.in-Err.ensures.failed (ap Err is)) c.in-Err.ensures.refusal)
    c.refuse_all.ensures

pub returns-clause-causes : goal.returns-clause-causes
returns-clause-causes g c =
    causes_stored _ _ _ _ _ _ c.in-Err.fault c.in-Err.ensures.refusal (omega arith) c.replies_to.ensures.count
    (λ is. c.in-Err.ensures.cause (ap Err is)) (λ damage is. c.in-Err.ensures.damaged_stops damage (ap Err is)) (λ is. (c.in-Err.ensures.failed (ap Err is)).0)
