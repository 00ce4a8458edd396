use Rattle.std.proofs.Common.{◌≡◌, ◌≤◌}
use Rattle.clients.specs.Story.{SendsOn}
use Rattle.clients.proofs.line.Line.send.Given as goal

abbrev pub invariant-loop : goal.invariant-loop
invariant-loop g l = record {
  sent : SendsOn g.S.Stream.moved l.fn.self.stream l.self.stream l.fn.session l.session;
  later : g.S.Stream.failures l.fn.self.stream ≤ g.S.Stream.failures l.self.stream;
  behind : l.self.later ≡ l.fn.self.later;
}
