use Rattle.std.proofs.Common.{◌≡◌, ◌≤◌, ◌+◌, length, map, true}
use Rattle.std.specs.Vec.{vec_capacity}
use Rattle.device.specs.Run.{Ran}
use Rattle.device.specs.Step.{Same}
use Rattle.requests.specs.RequestOf.{request_of}
use Rattle.records.specs.Gathered.{count_of}
use Rattle.durable.specs.Called.{IsSteady}
use Rattle.durable.specs.Gathered.{HasGatheredMore}
use Rattle.durable.specs.Settled.{device_of, serves}
use Rattle.durable.proofs.store.Store.gather_all.Given as goal

-- the requests so far are answered, and each has gathered a write at most
abbrev pub invariant-loop-request : goal.invariant-loop-request
invariant-loop-request g l =
    HasGatheredMore l.fn.self l.self l.group (map request_of l.requests) l.fn.replies.items l.replies.items
    × (length l.replies.items ≡ length l.fn.replies.items + l.request-index)
    × (vec_capacity l.replies ≡ vec_capacity l.fn.replies)
    × Ran g.D.Device.disk (device_of l.fn.self) (device_of l.self) Same
    × (serves l.self ≡ true)
    × (count_of l.group ≤ l.request-index)
    × IsSteady l.fn.self l.self
