use Rattle.std.proofs.Common.{refl, ◌∙◌}
use Rattle.sessions.specs.Batch.{held, places_of}
use Rattle.clients.proofs.Served.{group_outcome}
use Rattle.clients.proofs.desk.Desk.answer.Goals as goal

pub returns-clause-outcome : goal.returns-clause-outcome
returns-clause-outcome g c rules v shows =
    let full = c.gather-self.new.self in
    group_outcome rules c.args.self.now.first c.gather-self.result c.args.store.now c.answer.new.store v (places_of full) (held full) c.args.sessions.now c.gather-self.new.sessions c.answer.new.sessions c.answer.result
    (c.answer.auto.sessions ∙ c.gather-self.auto.sessions)
    (record {
      empty = c.args.self.now.batch;
      full = full;
      none = c.args.self.now.empty;
      messages = refl;
      at = refl;
      alike = full.alike;
      many = c.gather-self.auto.sessions;
      kept = c.gather-self.ensures.kept;
      some = c.gather-self.ensures.some;
      begins = c.gather-self.ensures.begins;
      behind = c.gather-self.ensures.next;
    })
    (c.answer.ensures.outcome rules v shows)
