use Rattle.names.specs.declared.format.Rules.{Rules}
use Rattle.decoded.specs.Standing.{View}
use Rattle.api.specs.Answers.{ShowsAt}
use Rattle.clients.specs.Serving.{HasServedSome}
use Rattle.gated.proofs.listening.serve_connections.Given as goal

abbrev pub invariant-loop-stream : goal.invariant-loop-stream
invariant-loop-stream g l = (rules : Rules) (v : View) → ShowsAt rules l.fn.store v → HasServedSome rules l.fn.store l.store v
