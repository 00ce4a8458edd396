use Rattle.std.proofs.Common.{arith, refl, ◌+◌, ◌*◌}
use Rattle.checkpoint.proofs.Buffering.{torn_within}
use Rattle.checkpoint.proofs.page_writer.PageWriter.end_page.Goals as goal

pub returns-in_err-make_room-clause-ran : goal.returns-in_err-make_room-clause-ran
returns-in_err-make_room-clause-ran g c =
    torn_within g.D.Device.disk c.args.device.now c.make_room.new.device (512 * c.args.self.now.at) (32768 * c.args.self.now.filled)
    (512 * c.args.self.now.at) (32768 * (c.args.self.now.filled + c.args.self.now.left)) (omega arith) (omega arith) c.make_room.ensures.ran

pub returns-clause-ran : goal.returns-clause-ran
returns-clause-ran g c =
    torn_within g.D.Device.disk c.args.device.now c.make_room.new.device (512 * c.args.self.now.at) (32768 * c.args.self.now.filled)
    (512 * c.args.self.now.at) (32768 * (c.args.self.now.filled + c.args.self.now.left)) (omega arith) (omega arith) c.make_room.ensures.ran

pub returns-clause-steady : goal.returns-clause-steady
returns-clause-steady g c = c.in_ok-make_room.ensures.cause.well refl
