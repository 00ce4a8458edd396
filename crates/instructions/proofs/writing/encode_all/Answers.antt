use Rattle.instructions.proofs.Rooms.{fits_each}
use Rattle.instructions.proofs.writing.encode_all.Goals as goal

pub put_instruction-requires : goal.put_instruction-requires
put_instruction-requires c = rw c.instruction-item.is (fits_each c.args.instructions.now c.requires.operands c.loop-instruction.instruction-index _ c.loop-instruction-test.true)
