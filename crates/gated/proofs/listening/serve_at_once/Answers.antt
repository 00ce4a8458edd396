use Rattle.std.proofs.Common.{inl}
use Rattle.histories.specs.View.{view}
use Rattle.durable.proofs.Answering.{settled_serves}
use Rattle.clients.proofs.Served.{served_none}
use Rattle.gated.proofs.Leaving.{clients_up_to, on_err}
use Rattle.gated.proofs.listening.serve_at_once.Goals as goal

pub returns-in_err-address-clause-stopped : goal.returns-in_err-address-clause-stopped
returns-in_err-address-clause-stopped g c rules h settled =
    on_err c.from_residual.result (inl (inl (served_none rules c.args.store.now (view rules h) (λ working. settled_serves rules c.args.store.now h settled) (λ keeps content since. g.met.D.Device.only_now _ content keeps since))))

pub returns-in_err-server-clause-stopped : goal.returns-in_err-server-clause-stopped
returns-in_err-server-clause-stopped g c rules h settled =
    on_err c.from_residual-in_err-server.result (inl (inl (served_none rules c.args.store.now (view rules h) (λ working. settled_serves rules c.args.store.now h settled) (λ keeps content since. g.met.D.Device.only_now _ content keeps since))))

pub returns-in_err-print_ready-clause-stopped : goal.returns-in_err-print_ready-clause-stopped
returns-in_err-print_ready-clause-stopped g c rules h settled =
    on_err c.from_residual-in_err-print_ready.result (inl (inl (served_none rules c.args.store.now (view rules h) (λ working. settled_serves rules c.args.store.now h settled) (λ keeps content since. g.met.D.Device.only_now _ content keeps since))))

pub returns-clause-stopped : goal.returns-clause-stopped
returns-clause-stopped g c rules h settled = clients_up_to rules c.args.store.now c.run.new.store (view rules h) c.in-Err.fault (c.in-Err.ensures.settled rules h settled)
