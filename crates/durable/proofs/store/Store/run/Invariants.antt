use Rattle.std.proofs.Common.{◌≡◌, ◌≤◌, ◌++◌, [], length, take, map, true}
use Rattle.std.specs.Vec.{vec_capacity}
use Rattle.requests.specs.RequestOf.{request_of}
use Rattle.durable.specs.Called.{IsSteady}
use Rattle.durable.specs.Settled.{device_of, serves, HasServed}
use Rattle.durable.proofs.store.Store.run.Given as goal

-- the requests before the rest are answered
abbrev pub invariant-loop-rest : goal.invariant-loop-rest
invariant-loop-rest g l =
    HasServed l.fn.self l.self (take (length l.replies.items) (map request_of l.requests)) l.replies.items
    × (map request_of l.requests ≡ take (length l.replies.items) (map request_of l.requests) ++ map request_of l.rest)
    × (length l.replies.items ≤ length l.requests)
    × (length l.requests ≤ vec_capacity l.replies)
    × (serves l.self ≡ true)
    × (serves l.fn.self ≡ true)
    × (g.D.Device.disk.failures (device_of l.fn.self) ≤ g.D.Device.disk.failures (device_of l.self))
    × (l.replies.items ≡ [] → l.self ≡ l.fn.self)
    × IsSteady l.fn.self l.self

-- and each group takes some of the rest
abbrev pub decreases-loop-rest : goal.decreases-loop-rest
decreases-loop-rest g l = length l.rest
