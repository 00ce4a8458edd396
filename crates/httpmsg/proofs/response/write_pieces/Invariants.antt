use Rattle.std.proofs.Common.{◌≡◌, take}
use Rattle.std.specs.List.{flat_map}
use Rattle.httpmsg.proofs.response.write_pieces.Given as goal

abbrev pub invariant-loop-piece : goal.invariant-loop-piece
invariant-loop-piece g l =
    g.O.Output.took l.fn.output l.output (flat_map (λ p. p.now) (take l.piece-index l.pieces))
    × (g.O.Output.failures l.output ≡ g.O.Output.failures l.fn.output)
