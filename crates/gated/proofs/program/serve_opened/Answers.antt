use Rattle.std.proofs.Common.{inl, inr}
use Rattle.std.specs.Duration.{as_nanos}
use Rattle.durable.proofs.Answering.{settled_serves}
use Rattle.histories.specs.View.{view}
use Rattle.clients.proofs.Served.{served_none}
use Rattle.gated.proofs.Leaving.{on_err, on_ok}
use Rattle.gated.proofs.program.serve_opened.Goals as goal

pub returns-in_err-print_opened-clause-told_err : goal.returns-in_err-print_opened-clause-told_err
returns-in_err-print_opened-clause-told_err g c = on_err c.from_residual.result (inl c.in_err-print_opened.ensures.refusal.1)

pub returns-in_err-print_opened-clause-stopped : goal.returns-in_err-print_opened-clause-stopped
returns-in_err-print_opened-clause-stopped g c rules h settled =
    on_err c.from_residual.result
    (inl (inl (served_none rules c.args.store.now (view rules h) (λ working. settled_serves rules c.args.store.now h settled)
    (λ keeps content since. g.met.D.Device.only_now _ content keeps since))))

pub returns-clause-told : goal.returns-clause-told
returns-clause-told g c =
    on_ok c.serve_store.result (record {
      found = c.of-found.result;
      nanoseconds = as_nanos c.args.passed;
      line = c.in_ok-print_opened.ensures.line;
    })

pub returns-clause-told_err : goal.returns-clause-told_err
returns-clause-told_err g c =
    on_err c.serve_store.result (inr (record {
      found = c.of-found.result;
      nanoseconds = as_nanos c.args.passed;
      line = c.in_ok-print_opened.ensures.line;
    }))
