use Rattle.std.proofs.Common.{◌≡◌, take}
use Rattle.std.specs.List.{flat_map}
use Rattle.gated.proofs.problem.write_pieces.Given as goal

abbrev pub invariant-loop-piece : goal.invariant-loop-piece
invariant-loop-piece g l =
    g.E.Output.took l.fn.errors l.errors (flat_map (λ p. p.now) (take l.piece-index l.pieces))
    × (g.E.Output.failures l.errors ≡ g.E.Output.failures l.fn.errors)
