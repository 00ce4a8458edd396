use Rattle.clients.proofs.Served.{served_none, served_then}
use Rattle.gated.proofs.Leaving.{on_err, up_to_after}
use Rattle.gated.proofs.listening.serve_connections.Goals as goal

pub loop-stream-init : goal.loop-stream-init
loop-stream-init g c rules v shows = served_none rules c.args.store.now v shows (λ keeps content since. g.met.D.Device.only_now _ content keeps since)

pub loop-stream-preserved : goal.loop-stream-preserved
loop-stream-preserved g c rules v shows =
    let before = c.loop-stream.invariant rules v shows in
    served_then rules c.args.store.now c.loop-stream.store c.serve_one.new.store v before (c.in_ok-serve_one.ensures.served rules _ before.store.shows)

pub returns-in_err-serve_one-clause-stopped : goal.returns-in_err-serve_one-clause-stopped
returns-in_err-serve_one-clause-stopped g c rules v shows =
    on_err c.from_residual.result
    (up_to_after rules c.args.store.now c.loop-stream.store c.serve_one.new.store v (c.loop-stream.invariant rules v shows) (λ w at. c.in_err-serve_one.ensures.stopped rules w at))
