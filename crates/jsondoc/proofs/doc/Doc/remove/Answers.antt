use Rattle.std.proofs.Common.{sym}
use Rattle.serde_json.specs.View.{view}
use Rattle.jsondoc.proofs.Json.{remove_keeps, is_whole-get, is_whole-without_member}
use Rattle.jsondoc.proofs.doc.Doc.remove.Goals as goal

pub invariant_of-self : goal.invariant_of-self
invariant_of-self c = rw c.remove_member.ensures.rest (is_whole-without_member c.args.name.now (view c.self.inside.value) c.self.invariant)

pub invariant_of-self-2 : goal.invariant_of-self-2
invariant_of-self-2 c = rw c.remove_member.ensures.rest (is_whole-without_member c.args.name.now (view c.self.inside.value) c.self.invariant)

pub invariant_of-result : goal.invariant_of-result
invariant_of-result c = is_whole-get c.args.name.now (view c.self.inside.value) _ c.self.invariant (sym c.in_ok-value.ensures.removed)

pub returns-in_err-value-clause-others : goal.returns-in_err-value-clause-others
returns-in_err-value-clause-others c = remove_keeps c.args.name.now (view c.self.inside.value) _ _ c.remove_member.ensures.rest c.self.view_is

pub returns-clause-others : goal.returns-clause-others
returns-clause-others c = remove_keeps c.args.name.now (view c.self.inside.value) _ _ c.remove_member.ensures.rest c.self.view_is
