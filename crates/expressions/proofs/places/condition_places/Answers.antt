use Rattle.std.proofs.Common.{◌≡◌, ◌∙◌, ℕ, ◌+◌, ◌<◌, List, [], ◌∷◌, ◌++◌, length, map, drop, sym, ap, append_assoc, append-nil, arith}
use Rattle.std.proofs.lemmas.List.{at_drop_more, drop_all}
use Rattle.policy.specs.declared.named.NamedExpression.{NamedExpression}
use Rattle.policy.specs.Spec.{named_seen}
use Rattle.expressions.proofs.places.condition_places.Goals as goal

abbrev none_of : List NamedExpression → List ℕ
none_of conditions = map (λ _. 0) (map named_seen conditions)

none_more : (conditions : List NamedExpression) (i : ℕ) → i < length conditions → none_of (drop i conditions) ≡ 0 ∷ none_of (drop (i + 1) conditions)
none_more [] i less = absurd (omega arith)
none_more (x ∷ xs) i less = at_drop_more none_of (x ∷ xs) i x less

pub loop-condition-preserved : goal.loop-condition-preserved
loop-condition-preserved c =
    let conditions = c.args.conditions.now in
    let i = c.loop-condition._condition-index in
    let places = c.loop-condition.places.items in
    let rest = none_of (drop (i + 1) conditions) in
    c.loop-condition.invariant
    ∙ ap (λ (ns : List ℕ). places ++ ns) (none_more conditions i c.loop-condition-test.true)
    ∙ sym (append_assoc places (0 ∷ []) rest)
    ∙ sym (ap (λ (ns : List ℕ). ns ++ rest) c.in_ok-push.ensures.items)

pub returns : goal.returns
returns c =
    let places = c.loop-condition.places.items in
    let none : drop c.loop-condition._condition-index c.args.conditions.now ≡ [] = drop_all c.loop-condition._condition-index c.args.conditions.now c.loop-condition-test.false in
    sym (c.loop-condition.invariant ∙ ap (λ (cs : List NamedExpression). places ++ none_of cs) none ∙ append-nil places)
