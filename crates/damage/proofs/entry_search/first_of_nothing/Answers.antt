use Rattle.std.proofs.Common.{rules, ◌≡◌, get_or}
use Rattle.std.proofs.lemmas.Option.{IfSome_then}
use Rattle.damage.proofs.Finding.{one_there}
use Rattle.damage.specs.Entries.{IsOfNothing}
use Rattle.damage.proofs.entry_search.first_of_nothing.Goals as goal

pub returns-in-Ok-true : goal.returns-in-Ok-true
returns-in-Ok-true c =
    let damaged : IsOfNothing c.entry-item.result = search rules in
    let there : get_or c.args.entries.now c.each.entry-index c.entry-item.result ≡ c.entry-item.result = search rules in
    IfSome_then c.key_of.result c.key_of.ensures (λ key is. one_there c.args.entries.now c.each.entry-index c.entry-item.result key.items c.each-test.true there damaged is)
