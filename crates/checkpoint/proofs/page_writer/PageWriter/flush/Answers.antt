use Rattle.std.proofs.Common.{arith, ap, ◌*◌, length-take, take}
use Rattle.checkpoint.proofs.Buffering.{filled_flushed}
use Rattle.checkpoint.proofs.page_writer.PageWriter.flush.Goals as goal

pub returns-clause-filled : goal.returns-clause-filled
returns-clause-filled g c keeps first pages filled =
    let disk = g.D.Device.disk in
    let writer = c.args.self.now in
    let h = c.in_ok-write.ensures in
    let v = c.deref.ensures.value in
    let b = disk.content c.args.device.now in
    filled_flushed writer _ first pages b (disk.content c.write.new.self)
    (take (32768 * writer.filled) c.deref.result.now) filled (ap (take (32768 * writer.filled)) v) (omega (arith, length-take (32768 * writer.filled) c.deref.result.now, c.deref.ensures.len, writer.size, writer.room))
    (h.written keeps) (h.ran.seen keeps)
    (omega arith) (omega arith)
