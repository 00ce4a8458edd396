use Rattle.shelf.specs.Shelf.{root_of}
use Rattle.diskcases.specs.Inside.{LiesInside}
use Rattle.diskcases.proofs.shelf_lines.shelf.Given as goal

abbrev pub invariant-loop-question : goal.invariant-loop-question
invariant-loop-question l = LiesInside (root_of l.shelf) l.device
