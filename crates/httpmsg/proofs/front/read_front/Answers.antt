use Rattle.std.proofs.Common.{◌≡◌, ◌∙◌, subst, length, take, arith}
use Rattle.std.proofs.lemmas.List.{take_all}
use Rattle.httparse.specs.Grammar.{HasNoRequest, MayBecomeRequest}
use Rattle.httparse.specs.Outcome.{OnPartial}
use Rattle.httparse.specs.Spans.{IsRequestOf}
use Rattle.httpmsg.proofs.Fronts.{begins_first, front_whole, never_later, never_read}
use Rattle.httpmsg.proofs.front.read_front.Goals as goal

pub returns-in-Ok-Complete : goal.returns-in-Ok-Complete
returns-in-Ok-Complete c =
    let found : IsRequestOf c.first_bytes-first.result.now c.parse_request.new.headers c.in-Ok-Complete.head =
    rw c.in-Ok-Complete.field-0-is at c.in-Ok-Complete.ensures.complete
    in
    let whole = front_whole c.args.bytes.now c.first_bytes-first.result.now c.parse_request.new.headers c.in-Ok-Complete.head c.first_bytes-first.ensures found in
    (whole.0, (whole.1.0, whole.1.1, rw (c.of.ensures, c.text.ensures, c.of-in-Ok-Complete.ensures) whole.1.2))

pub returns-then-bytes-lt-HEAD_LIMIT : goal.returns-then-bytes-lt-HEAD_LIMIT
returns-then-bytes-lt-HEAD_LIMIT c =
    let answer : OnPartial c.parse_request.result (HasNoRequest c.first_bytes-first.result.now) = c.parse_request.ensures.partial in
    let none : HasNoRequest c.first_bytes-first.result.now = rw (c.in-Ok-Partial.is, c.in-Ok-Partial.field-0-is) at answer in
    let first : HasNoRequest (take 8192 c.args.bytes.now) = rw (← c.first_bytes-first.ensures) none in
    let may : OnPartial c.parse_request.result (MayBecomeRequest c.first_bytes-first.result.now) = c.parse_request.ensures.unfinished in
    let becomes : MayBecomeRequest c.first_bytes-first.result.now = rw (c.in-Ok-Partial.is, c.in-Ok-Partial.field-0-is) at may in
    let all : c.first_bytes-first.result.now ≡ c.args.bytes.now =
    c.first_bytes-first.ensures ∙ take_all 8192 c.args.bytes.now (omega (arith, c.if-bytes-lt-HEAD_LIMIT.true)) in
    (c.if-bytes-lt-HEAD_LIMIT.true, subst MayBecomeRequest all becomes, λ h rest b. first h _ (begins_first c.args.bytes.now h rest b))

pub returns-else-bytes-lt-HEAD_LIMIT : goal.returns-else-bytes-lt-HEAD_LIMIT
returns-else-bytes-lt-HEAD_LIMIT c =
    let answer : OnPartial c.parse_request.result (HasNoRequest c.first_bytes-first.result.now) = c.parse_request.ensures.partial in
    let none : HasNoRequest c.first_bytes-first.result.now = rw (c.in-Ok-Partial.is, c.in-Ok-Partial.field-0-is) at answer in
    never_later c.args.bytes.now (omega arith) (rw (← c.first_bytes-first.ensures) none)

pub returns-in-Err : goal.returns-in-Err
returns-in-Err c =
    never_read c.args.bytes.now c.first_bytes-first.result.now (length c.args.room.now) c.first_bytes-first.ensures c.requires c.in-Err.ensures.no_room
