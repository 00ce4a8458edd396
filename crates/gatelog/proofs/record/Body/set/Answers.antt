use Rattle.std.proofs.Common.{arith, ap, ◌∙◌}
use Rattle.gatelog.specs.Record.{part}
use Rattle.gatelog.proofs.Parts.{length-part}
use Rattle.gatelog.proofs.Gathering.{part-put}
use Rattle.gatelog.proofs.record.Body.set.Goals as goal

pub returns : goal.returns
returns c =
    let body = c.args.self.now in
    ap (part 4 body.payload_length) c.put.ensures.row
    ∙ part-put 4 body.payload_length c.args.byte_offset c.args.with.now body.bytes.items
    (omega (arith, c.requires, length-part 4 body.payload_length body.bytes.items (omega (arith, body.size)))) (omega (arith, body.size))
