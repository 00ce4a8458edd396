use Rattle.std.proofs.Common.{rules, ap, sym, ◌∙◌, Bool, ◌&&◌}
use Rattle.policy.specs.Rules.{rule_seen}
use Rattle.policy.specs.Matching.{allows_name, has_resource}
use Rattle.policy.proofs.attempt.has_object.Goals as goal

pub returns-then-has_resource : goal.returns-then-has_resource
returns-then-has_resource c =
    let rule = rule_seen c.args.rule.now in
    let has = ap (has_resource rule) (sym c.resource.ensures.value) ∙ sym c.has_resource.ensures ∙ c.if-has_resource.true in
    c.allows_name.ensures ∙ search rules ∙ ap (λ (b : Bool). b && allows_name rule.names c.args.key.now.name) (sym has)

pub returns-else-has_resource : goal.returns-else-has_resource
returns-else-has_resource c =
    let rule = rule_seen c.args.rule.now in
    let lacks = ap (has_resource rule) (sym c.resource.ensures.value) ∙ sym c.has_resource.ensures ∙ c.if-has_resource.false in
    c.if-has_resource.false ∙ ap (λ (b : Bool). b && allows_name rule.names c.args.key.now.name) (sym lacks)
