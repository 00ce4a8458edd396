use Rattle.std.proofs.Common.{arith}
use Rattle.pages.proofs.Slots.{cell_inside}
use Rattle.pages.proofs.conditions.has_cells.Goals as goal

pub is_cell-requires-clause-inside : goal.is_cell-requires-clause-inside
is_cell-requires-clause-inside c = omega (arith, cell_inside c.args.bytes.now c.requires.slots c.loop-i.i (omega arith))
