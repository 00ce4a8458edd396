use Rattle.std.proofs.Common.{sym, ◌∙◌}
use Rattle.jsondoc.proofs.Json.{reading-whole, reading-not_whole}
use Rattle.jsondoc.proofs.doc.Doc.read.Goals as goal

pub returns-then-has_whole_numbers-clause-ok : goal.returns-then-has_whole_numbers-clause-ok
returns-then-has_whole_numbers-clause-ok c =
    reading-whole c.args.bytes.now _ c.in-Ok.ensures.ok.0 c.in-Ok.ensures.ok.1 (sym c.has_whole_numbers.ensures ∙ c.if-has_whole_numbers.true)

pub returns-else-has_whole_numbers-clause-number : goal.returns-else-has_whole_numbers-clause-number
returns-else-has_whole_numbers-clause-number c _ =
    reading-not_whole c.args.bytes.now _ c.in-Ok.ensures.ok.0 c.in-Ok.ensures.ok.1 (sym c.has_whole_numbers.ensures ∙ c.if-has_whole_numbers.false)
