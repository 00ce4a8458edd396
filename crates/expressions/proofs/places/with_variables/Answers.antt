use Rattle.std.proofs.Common.{◌≡◌, ◌∙◌, ℕ, ◌+◌, ◌<◌, List, [], ◌∷◌, ◌++◌, length, map, drop, sym, ap, append_assoc, append-nil, arith}
use Rattle.std.proofs.lemmas.List.{at_drop_more, drop_all}
use Rattle.policy.specs.declared.named.NamedExpression.{NamedExpression}
use Rattle.policy.specs.Spec.{named_seen}
use Rattle.expressions.specs.Places.{variable_places}
use Rattle.expressions.proofs.places.with_variables.Goals as goal

abbrev places_after : ℕ → List NamedExpression → List ℕ
places_after n variables = variable_places n (map named_seen variables)

variable_more : (variables : List NamedExpression) (i n : ℕ) → i < length variables → places_after n (drop i variables) ≡ n ∷ places_after (n + 1) (drop (i + 1) variables)
variable_more [] i n less = absurd (omega arith)
variable_more (x ∷ xs) i n less = at_drop_more (places_after n) (x ∷ xs) i x less

pub loop-variable-preserved : goal.loop-variable-preserved
loop-variable-preserved c =
    let variables = c.args.variables.now in
    let i = c.loop-variable._variable-index in
    let n = c.loop-variable.earlier in
    let places = c.loop-variable.places.items in
    let rest = places_after (n + 1) (drop (i + 1) variables) in (
      omega arith,
      c.loop-variable.invariant.1
          ∙ ap (λ (ns : List ℕ). places ++ ns) (variable_more variables i n c.loop-variable-test.true)
          ∙ sym (append_assoc places (n ∷ []) rest)
          ∙ sym (ap (λ (ns : List ℕ). ns ++ rest) c.in_ok-push.ensures.items),
    )

pub returns : goal.returns
returns c =
    let n = c.loop-variable.earlier in
    let places = c.loop-variable.places.items in
    let none : drop c.loop-variable._variable-index c.args.variables.now ≡ [] = drop_all c.loop-variable._variable-index c.args.variables.now c.loop-variable-test.false in
    sym (c.loop-variable.invariant.1 ∙ ap (λ (vs : List NamedExpression). places ++ places_after n vs) none ∙ append-nil places)
