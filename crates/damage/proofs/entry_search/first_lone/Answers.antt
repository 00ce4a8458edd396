use Rattle.std.proofs.Common.{rules}
use Rattle.damage.specs.Entries.{AreWithout, IsPieceOf}
use Rattle.damage.proofs.Finding.{contains_here}
use Rattle.damage.proofs.entry_search.first_lone.Goals as goal

pub returns-in-Ok-true : goal.returns-in-Ok-true
returns-in-Ok-true c =
    let entries = c.args.entries.now in
    let item = c.entry-item.result in
    let piece : IsPieceOf c.in-Some.key item = search rules in
    let without : AreWithout c.in-Some.key entries = c.in-Ok-true.ensures c.in-Ok-true.field-0-test in
    record { piece = item; there = contains_here entries c.each.entry-index item c.each-test.true c.entry-item.is; is_piece = piece; without = without }
