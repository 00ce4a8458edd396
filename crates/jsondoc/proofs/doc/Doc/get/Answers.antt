use Rattle.jsondoc.proofs.Json.{found_is_whole}
use Rattle.jsondoc.proofs.doc.Doc.get.Goals as goal

pub returns-clause-whole : goal.returns-clause-whole
returns-clause-whole c = found_is_whole c.args.name.now _ c.get.result c.self.invariant c.get.ensures
