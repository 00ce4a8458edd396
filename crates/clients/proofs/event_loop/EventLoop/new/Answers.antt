use Rattle.std.proofs.Common.{◌∙◌, sym, subst, ◌<◌}
use Rattle.clients.proofs.event_loop.EventLoop.new.Goals as goal

pub returns-clause-nobody : goal.returns-clause-nobody
returns-clause-nobody g c = record {
  free = λ i inside. c.in_ok-new.ensures.free i (subst (λ n. i < n) c.in_ok-new.ensures.many.0 inside);
  fresh = c.in_ok-new.ensures.fresh;
  rooms = c.in_ok-new.ensures.many.1 ∙ sym c.in_ok-new.ensures.many.0;
}
