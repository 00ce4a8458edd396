use Rattle.std.proofs.Common.{◌≡◌, drop}
use Rattle.celmean.specs.Meaning.{bound}
use Rattle.celplain.specs.Seen.{bindings_seen}
use Rattle.celplain.proofs.environment.bound.Given as goal

abbrev pub invariant-loop-binding : goal.invariant-loop-binding
invariant-loop-binding l = bound l.name (bindings_seen (drop l.binding-index l.bindings)) ≡ bound l.name (bindings_seen l.bindings)
