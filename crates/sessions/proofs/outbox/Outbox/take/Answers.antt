use Rattle.std.proofs.Common.{arith, ◌≡◌, ◌+◌, ap, length, drop}
use Rattle.std.proofs.lemmas.List.{length-drop}
use Rattle.sessions.proofs.outbox.Outbox.take.Goals as goal

pub returns-then-self-len-clause-room : goal.returns-then-self-len-clause-room
returns-then-self-len-clause-room c is =
    let size : length (drop (c.args.self.now.sent + c.args.count) c.args.self.now.bytes.items) ≡ 0 = ap length is in
    absurd (omega (arith, length-drop (c.args.self.now.sent + c.args.count) c.args.self.now.bytes.items, size, c.if-self-len.true, c.len.ensures))
