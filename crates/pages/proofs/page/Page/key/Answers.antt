use Rattle.std.proofs.Common.{ap, ◌∙◌}
use Rattle.pages.specs.Page.{Entry}
use Rattle.pages.proofs.Entries.{inside_page, entry_at-get_or}
use Rattle.pages.proofs.page.Page.key.Goals as goal

pub read_key-requires-clause-inside : goal.read_key-requires-clause-inside
read_key-requires-clause-inside c = inside_page c.self.inside.bytes.now c.args.self.now c.args.i c.self.view_is c.requires

pub returns : goal.returns
returns c = λ d. c.read_key.ensures ∙ ap (λ (entry : Entry). entry.0) (entry_at-get_or c.self.inside.bytes.now c.args.self.now c.args.i d c.self.view_is c.requires)
