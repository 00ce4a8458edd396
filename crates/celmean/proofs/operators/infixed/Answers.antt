use Rattle.std.proofs.Common.{◌≡◌, refl}
use Rattle.celtree.specs.declared.tree.Operator.{Operator}
use Rattle.celtree.specs.declared.tree.Operator.TheVariants as operator_of
use Rattle.celmean.specs.Value.{Outcome, with_values}
use Rattle.celmean.specs.Operators.{on_values, infixed}
use Rattle.celmean.specs.Seen.{outcome_of}
use Rattle.celmean.proofs.operators.infixed.Goals as goal

-- an operator but `&&` and `||`
on_two_values : (o : Operator) (a b : Outcome) → (o ≡ operator_of.And → ⊥) → (o ≡ operator_of.Or → ⊥) → infixed o a b ≡ with_values (on_values o) a b
on_two_values operator_of.Multiply a b n m = refl
on_two_values operator_of.Divide a b n m = refl
on_two_values operator_of.Remainder a b n m = refl
on_two_values operator_of.Add a b n m = refl
on_two_values operator_of.Subtract a b n m = refl
on_two_values operator_of.Less a b n m = refl
on_two_values operator_of.LessEqual a b n m = refl
on_two_values operator_of.Greater a b n m = refl
on_two_values operator_of.GreaterEqual a b n m = refl
on_two_values operator_of.Equal a b n m = refl
on_two_values operator_of.NotEqual a b n m = refl
on_two_values operator_of.In a b n m = refl
on_two_values operator_of.And a b n m = absurd (n refl)
on_two_values operator_of.Or a b n m = absurd (m refl)

pub returns-in_default : goal.returns-in_default
returns-in_default c = rw (on_two_values c.args.operator (outcome_of c.args.left.now) (outcome_of c.args.right.now) c.in_default.not-And c.in_default.not-Or) c.on_outcomes.ensures
