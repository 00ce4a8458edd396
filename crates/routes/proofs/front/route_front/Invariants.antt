use Rattle.std.proofs.Common.{◌≡◌, ◌≤◌, ℕ, List, length, map, take, Bor}
use Rattle.std.specs.Prelude.{option_map}
use Rattle.std.specs.Vec.{vec_capacity}
use Rattle.requests.specs.RequestOf.{request_of}
use Rattle.routes.specs.Allow.{allow_of}
use Rattle.routes.specs.Asked.{asked}
use Rattle.routes.proofs.front.route_front.Given as goal

abbrev pub invariant-loop-message : goal.invariant-loop-message
invariant-loop-message l = record {
  requests : map request_of l.front.requests.items ≡ map (asked l.format) (take l.message-index l.messages);
  allows : map (option_map (λ (methods : Bor (List ℕ)). methods.now)) l.front.allows.items ≡ map (allow_of l.format) (take l.message-index l.messages);
  requests_room : length l.messages ≤ vec_capacity l.front.requests;
  allows_room : length l.messages ≤ vec_capacity l.front.allows;
}
