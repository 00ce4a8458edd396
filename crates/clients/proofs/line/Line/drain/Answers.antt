use Rattle.std.proofs.Common.{[]}
use Rattle.clients.proofs.line.Line.drain.Goals as goal

pub returns-clause-forgets : goal.returns-clause-forgets
returns-clause-forgets g c =
    let forgets = c.forget.ensures.forgets in
    (forgets.0, g.met.S.Stream.moved_then c.args.self.now.stream c.drain_since-since.new.self.stream c.forget.new.self.stream [] forgets.0 [] [] c.drain_since-since.ensures.none forgets.1)
