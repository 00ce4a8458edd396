use Rattle.std.proofs.Common.{arith, ◌≡◌, ◌∙◌, subst, ◌*◌, ◌+◌, ◌++◌, ◌≤◌, List, ℕ, length, take, drop}
use Rattle.std.proofs.lemmas.List.{with_items_is}
use Rattle.checkpoint.proofs.Buffering.{filled_more}
use Rattle.checkpoint.proofs.page_writer.PageWriter.lay_page.Goals as goal

pub returns-clause-filled : goal.returns-clause-filled
returns-clause-filled c first pages content some sorted filled =
    let writer = c.args.self.now in
    let last : List ℕ = c.bytes.result.now in
    let Laid : List ℕ → Type 0 = λ x. c.lay.new.buffer ≡ take (32768 * writer.filled) x ++ last ++ drop (32768 * writer.filled + length last) x in
    let room : 32768 * writer.filled ≤ length writer.buffer.items = omega (arith, c.requires.room, writer.size) in
    let size : length c.lay.new.buffer ≡ writer.buffer.len = omega (arith, c.lay.auto.buffer, c.deref_mut.ensures.len) in
    let laid = subst Laid c.deref_mut.ensures.value c.lay.ensures in
    filled_more writer _ first pages writer.page content last filled c.bytes.ensures.size
    (c.bytes.ensures.page.1 (some, sorted)) room (omega arith) (omega arith) (with_items_is writer.buffer c.lay.new.buffer size ∙ laid)
