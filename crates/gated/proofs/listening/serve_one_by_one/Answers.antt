use Rattle.std.proofs.Common.{inl}
use Rattle.clients.proofs.Served.{served_none}
use Rattle.gated.proofs.Leaving.{on_err}
use Rattle.gated.proofs.listening.serve_one_by_one.Goals as goal

pub returns-in_err-address-clause-stopped : goal.returns-in_err-address-clause-stopped
returns-in_err-address-clause-stopped g c rules v shows =
    on_err c.from_residual.result (inl (served_none rules c.args.store.now v shows (λ keeps content since. g.met.D.Device.only_now _ content keeps since)))

pub returns-in-Err-clause-stopped : goal.returns-in-Err-clause-stopped
returns-in-Err-clause-stopped g c rules v shows = inl (served_none rules c.args.store.now v shows (λ keeps content since. g.met.D.Device.only_now _ content keeps since))

pub returns-in_err-print_ready-clause-stopped : goal.returns-in_err-print_ready-clause-stopped
returns-in_err-print_ready-clause-stopped g c rules v shows =
    on_err c.from_residual-in_err-print_ready.result (inl (served_none rules c.args.store.now v shows (λ keeps content since. g.met.D.Device.only_now _ content keeps since)))
