use Rattle.std.proofs.Common.{sym, ◌∙◌}
use Rattle.routes.proofs.Revisions.{parsed-revision}
use Rattle.routes.proofs.query.revision_of.Goals as goal

pub returns-then-begins_above_zero : goal.returns-then-begins_above_zero
returns-then-begins_above_zero c =
    c.ok.ensures.value ∙ parsed-revision c.args.text.now c.parse.result c.parse.ensures.value.0 (sym c.begins_above_zero.ensures ∙ c.if-begins_above_zero.true)
