use Rattle.std.proofs.Common.{◌≡◌, ◌∷◌, take}
use Rattle.celplain.proofs.environment.bind.Given as goal

abbrev pub invariant-loop-binding : goal.invariant-loop-binding
invariant-loop-binding l = l.all.items ≡ l.first ∷ take l.binding-index l.bindings
