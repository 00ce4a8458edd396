use Rattle.std.proofs.Common.{◌≡◌, ◌++◌, map, length}
use Rattle.dialect.specs.Restated.{restated}
use Rattle.sessions.specs.Restating.{asking, behind}
use Rattle.sessions.proofs.later.Later.take_asking.Given as goal

-- what was taken, and then what is left
abbrev pub invariant-loop-message : goal.invariant-loop-message
invariant-loop-message l = record {
  format : l.self-inside.format ≡ l.fn.self.format;
  taken : l.taken.items ++ map (restated l.fn.self.format) (asking l.fn.self.format l.self-inside.messages.items)
      ≡ map (restated l.fn.self.format) (asking l.fn.self.format l.fn.self.messages);
  rest : behind l.fn.self.format l.self-inside.messages.items ≡ behind l.fn.self.format l.fn.self.messages;
}

abbrev pub decreases-loop-message : goal.decreases-loop-message
decreases-loop-message l = length l.self-inside.messages.items
