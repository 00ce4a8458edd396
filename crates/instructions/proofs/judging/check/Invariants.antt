use Rattle.instructions.specs.Seen.{ops_of}
use Rattle.instructions.specs.Bodies.{table_of, tables_of}
use Rattle.instructions.proofs.Walking.{Reached}
use Rattle.instructions.proofs.judging.check.Given as goal

abbrev pub invariant-loop-at : goal.invariant-loop-at
invariant-loop-at l = Reached l.vars l.at (ops_of l.code) (table_of l.body) (tables_of l.outer.items)
