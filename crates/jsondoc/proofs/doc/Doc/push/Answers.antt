use Rattle.std.proofs.Common.{◌≡◌, true}
use Rattle.serde_json.specs.View.{view}
use Rattle.jsondoc.specs.Json.{is_whole}
use Rattle.jsondoc.proofs.Json.{holds_after, is_whole-with_item}
use Rattle.jsondoc.proofs.doc.Doc.push.Goals as goal

pub invariant_of-self : goal.invariant_of-self
invariant_of-self c =
    holds_after (λ d. is_whole d ≡ true) c.push_item.result _ _ _ c.push_item.ensures.ok c.push_item.ensures.err
    (is_whole-with_item (view c.item.inside.value) (view c.self.inside.value) c.item.invariant c.self.invariant) c.self.invariant
