use Rattle.std.proofs.Common.{arith}
use Rattle.pages.proofs.Room.{room_pushed}
use Rattle.pages.proofs.builder.has_room.Goals as goal

pub returns : goal.returns
returns c =
    let room = room_pushed c.args.bytes.now (c.args.key.now, c.args.cell.now) c.requires in (
      λ yes. (let enough = c.is_enough.ensures.0 yes in omega arith),
      λ fits. c.is_enough.ensures.1 (omega (arith, c.requires.room)),
    )
