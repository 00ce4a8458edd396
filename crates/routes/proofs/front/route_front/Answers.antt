use Rattle.std.proofs.Common.{arith, ◌∙◌, sym, ap, ◌≤◌, ℕ, List, length, map, take, Bor}
use Rattle.std.specs.Prelude.{option_map}
use Rattle.std.proofs.lemmas.List.{length-map, length-take}
use Rattle.requests.specs.RequestOf.{request_of}
use Rattle.routes.specs.Allow.{allow_of}
use Rattle.routes.specs.Asked.{asked}
use Rattle.routes.proofs.Fronts.{front_length, one_more, up_to}
use Rattle.routes.proofs.front.route_front.Goals as goal

pub push-requires-clause-requests_room : goal.push-requires-clause-requests_room
push-requires-clause-requests_room c =
    let requests = c.loop-message.front.requests in
    let routed = take c.loop-message.message-index c.args.messages.now in
    omega (
      arith,
      requests.ok.0,
      sym (length-map requests.items request_of) ∙ ap length c.loop-message.invariant.requests,
      length-map routed (asked c.args.format),
      length-take c.loop-message.message-index c.args.messages.now,
    )

pub push-requires-clause-allows_room : goal.push-requires-clause-allows_room
push-requires-clause-allows_room c =
    let allows = c.loop-message.front.allows in
    let routed = take c.loop-message.message-index c.args.messages.now in
    omega (
      arith,
      allows.ok.0,
      sym (length-map allows.items (option_map (λ (methods : Bor (List ℕ)). methods.now))) ∙ ap length c.loop-message.invariant.allows,
      length-map routed (allow_of c.args.format),
      length-take c.loop-message.message-index c.args.messages.now,
    )

pub loop-message-init : goal.loop-message-init
loop-message-init c = record {
  requests = ap (map request_of) c.in-Ok.ensures.requests;
  allows = ap (map (option_map (λ (methods : Bor (List ℕ)). methods.now))) c.in-Ok.ensures.allows;
  requests_room = c.in-Ok.ensures.room.0;
  allows_room = c.in-Ok.ensures.room.1;
}

pub loop-message-preserved : goal.loop-message-preserved
loop-message-preserved c =
    let front = c.loop-message.front in
    let routed = c.in-Ok-route.routed in
    let messages = c.args.messages.now in
    let i = c.loop-message.message-index in
    let message = c.message-item.result in
    let below = c.loop-message-test.true in
    let methods_of = option_map (λ (methods : Bor (List ℕ)). methods.now) in record {
      requests = one_more request_of (asked c.args.format) front.requests.items c.push.new.self.requests.items routed.request messages i message below c.message-item.is
          c.in-Ok-route.ensures.request c.push.ensures.requests c.loop-message.invariant.requests;
      allows = one_more methods_of (allow_of c.args.format) front.allows.items c.push.new.self.allows.items routed.allow messages i message below c.message-item.is
          c.in-Ok-route.ensures.allow c.push.ensures.allows c.loop-message.invariant.allows;
      requests_room = rw c.push.ensures.requests_capacity c.loop-message.invariant.requests_room;
      allows_room = rw c.push.ensures.allows_capacity c.loop-message.invariant.allows_room;
    }

pub returns-in-Err-route-clause-few : goal.returns-in-Err-route-clause-few
returns-in-Err-route-clause-few c =
    let le : c.loop-message.message-index ≤ length c.args.messages.now = omega (arith, c.loop-message-test.true) in
    omega (arith, le, front_length request_of (asked c.args.format) c.loop-message.message-index c.loop-message.front.requests.items c.args.messages.now c.loop-message.invariant.requests le)

pub returns-in-Err-route-clause-requests : goal.returns-in-Err-route-clause-requests
returns-in-Err-route-clause-requests c =
    let routed = c.loop-message.front.requests.items in
    let many = front_length request_of (asked c.args.format) c.loop-message.message-index routed c.args.messages.now c.loop-message.invariant.requests (omega (arith, c.loop-message-test.true)) in
    up_to request_of (asked c.args.format) c.loop-message.message-index (length routed) routed c.args.messages.now (sym many) c.loop-message.invariant.requests

pub returns-in-Err-route-clause-allows : goal.returns-in-Err-route-clause-allows
returns-in-Err-route-clause-allows c =
    let routed = c.loop-message.front.requests.items in
    let many = front_length request_of (asked c.args.format) c.loop-message.message-index routed c.args.messages.now c.loop-message.invariant.requests (omega (arith, c.loop-message-test.true)) in
    up_to (option_map (λ (methods : Bor (List ℕ)). methods.now)) (allow_of c.args.format) c.loop-message.message-index (length routed) c.loop-message.front.allows.items c.args.messages.now (sym many)
    c.loop-message.invariant.allows

pub returns-clause-few : goal.returns-clause-few
returns-clause-few c =
    let le = c.loop-message.auto.message-index-end in
    omega (arith, le, front_length request_of (asked c.args.format) c.loop-message.message-index c.loop-message.front.requests.items c.args.messages.now c.loop-message.invariant.requests le)

pub returns-clause-requests : goal.returns-clause-requests
returns-clause-requests c =
    let routed = c.loop-message.front.requests.items in
    let many = front_length request_of (asked c.args.format) c.loop-message.message-index routed c.args.messages.now c.loop-message.invariant.requests c.loop-message.auto.message-index-end in
    up_to request_of (asked c.args.format) c.loop-message.message-index (length routed) routed c.args.messages.now (sym many) c.loop-message.invariant.requests

pub returns-clause-allows : goal.returns-clause-allows
returns-clause-allows c =
    let routed = c.loop-message.front.requests.items in
    let many = front_length request_of (asked c.args.format) c.loop-message.message-index routed c.args.messages.now c.loop-message.invariant.requests c.loop-message.auto.message-index-end in
    up_to (option_map (λ (methods : Bor (List ℕ)). methods.now)) (allow_of c.args.format) c.loop-message.message-index (length routed) c.loop-message.front.allows.items c.args.messages.now (sym many)
    c.loop-message.invariant.allows
