use Rattle.std.proofs.Common.{◌≡◌, true}
use Rattle.serde_json.specs.View.{view}
use Rattle.jsondoc.specs.Json.{is_whole}
use Rattle.jsondoc.proofs.Json.{holds_after, put_finds, put_keeps, is_whole-with_member}
use Rattle.jsondoc.proofs.doc.Doc.put.Goals as goal

pub invariant_of-self : goal.invariant_of-self
invariant_of-self c =
    holds_after (λ d. is_whole d ≡ true) c.put_member.result _ _ _ c.put_member.ensures.ok c.put_member.ensures.err
    (is_whole-with_member c.args.name.now (view c.member.inside.value) (view c.self.inside.value) c.member.invariant c.self.invariant) c.self.invariant

pub returns-clause-found : goal.returns-clause-found
returns-clause-found c =
    put_finds c.put_member.result c.args.name.now (view c.member.inside.value) (view c.self.inside.value) _ _ _
    c.put_member.ensures.ok c.member.view_is c.self.view_is

pub returns-clause-others : goal.returns-clause-others
returns-clause-others c =
    put_keeps c.put_member.result c.args.name.now (view c.member.inside.value) (view c.self.inside.value) _ _
    c.put_member.ensures.ok c.put_member.ensures.err c.self.view_is
