-- The operators (CEL language definition, "Operators").
use Rattle.std.specs.Prelude.{not, option_map}
use Rattle.celtree.specs.declared.tree.Prefix.{Prefix}
use Rattle.celtree.specs.declared.tree.Prefix.TheVariants as prefix_of
use Rattle.celtree.specs.declared.tree.Operator.{Operator}
use Rattle.celtree.specs.declared.tree.Operator.TheVariants as operator_of
use Rattle.celmean.specs.Value.{Value, Truth, Outcome, Gives, Error, truth_or_error, with_values}
use Rattle.celmean.specs.Equality.{same}
use Rattle.celmean.specs.Order.{less}
use Rattle.celmean.specs.Arithmetic.{sum, difference, product, quotient, remainder, negation}
use Rattle.celmean.specs.Collections.{contained}
use Rattle.celmean.specs.Macros.{both, either}

-- `!`
abbrev pub denial : Value → Outcome
denial (Truth b) = Gives (Truth (not b))
denial _ = Error

abbrev pub prefixed : Prefix → Value → Outcome
prefixed prefix_of.Not v = denial v
prefixed prefix_of.Negate v = negation v

-- an operator on two values; `&&` and `||` have tables over outcomes instead
abbrev pub on_values : Operator → Value → Value → Outcome
on_values operator_of.Multiply a b = product a b
on_values operator_of.Divide a b = quotient a b
on_values operator_of.Remainder a b = remainder a b
on_values operator_of.Add a b = sum a b
on_values operator_of.Subtract a b = difference a b
on_values operator_of.Less a b = truth_or_error (less a b)
on_values operator_of.LessEqual a b = truth_or_error (option_map not (less b a))
on_values operator_of.Greater a b = truth_or_error (less b a)
on_values operator_of.GreaterEqual a b = truth_or_error (option_map not (less a b))
on_values operator_of.Equal a b = Gives (Truth (same a b))
on_values operator_of.NotEqual a b = Gives (Truth (not (same a b)))
on_values operator_of.In a b = contained a b
on_values operator_of.And a b = Error
on_values operator_of.Or a b = Error

-- an operator on the outcomes of its two sides
abbrev pub infixed : Operator → Outcome → Outcome → Outcome
infixed operator_of.And a b = both a b
infixed operator_of.Or a b = either a b
infixed o a b = with_values (on_values o) a b
