use Rattle.std.proofs.Common.{rules, ◌≡◌, true}
use Rattle.shelf.specs.Prefix.{begins}
use Rattle.shelf.proofs.Telling.{refused_one}
use Rattle.shelf.proofs.page.tell_entry.Goals as goal

pub returns-clause-refused : goal.returns-clause-refused
returns-clause-refused g c is =
    let here : begins c.args.prefix.now c.args.key.now ≡ true = search rules in
    refused_one g.R.Reader.told g.R.Reader.refuses g.met.R.Reader.told_none c.args.reader.now c.args.prefix.now (c.args.key.now, c.args.cell.now) here (c.entry.ensures.refused is)
