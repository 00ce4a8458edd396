-- What a tree means in an environment (CEL language definition, "Evaluation").
use Rattle.std.specs.Prelude.{ℕ, if◌then◌else◌, List, [], ◌∷◌, bytes_eq}
use Rattle.celtree.specs.Tree as tree
use Rattle.celtree.specs.Tree.{Expr, Exprs, no_items, item, Pairs, no_pairs, pair}
use Rattle.celtree.specs.Variables.{is_variables}
use Rattle.celmean.specs.Value.{Value, Null, Truth, Int, Uint, Text, Outcome, Gives, Error, with_value, with_values}
use Rattle.celmean.specs.Collections.{indexed, member, has_member, list_of, map_of}
use Rattle.celmean.specs.Macros.{is_true, is_false, range_of, over_items}
use Rattle.celmean.specs.Operators.{prefixed, infixed}
use Rattle.celmean.specs.Functions.{called, method_called}

-- What the names stand for: `object` and the like and the variables of macros, the innermost first, and what stands after `variables.`.
pub record Environment : Type 0 where
  pub names : List (List ℕ × Outcome)
  pub variables : List (List ℕ × Outcome)

-- what a name stands for: the first that is bound; an unbound name is the error
abbrev pub bound : List ℕ → List (List ℕ × Outcome) → Outcome
bound x [] = Error
bound x (b ∷ bs) = if bytes_eq x b.0 then b.1 else bound x bs

-- with the variable of a macro bound to an item
abbrev pub bind : List ℕ → Value → Environment → Environment
bind x v env = record { names = (x, Gives v) ∷ env.names; variables = env.variables }

-- `e.f`, where `variables.f` stands for a variable
abbrev pub field : Expr → Outcome → List ℕ → Environment → Outcome
field e o f env = if is_variables e then bound f env.variables else with_value (member f) o

-- `c ? a : b`: one of the two, by a truth value
abbrev pub chosen : Outcome → Outcome → Outcome → Outcome
chosen c a b = if is_true c then a else (if is_false c then b else Error)

abbrev mutual
  pub mean : Expr → Environment → Outcome
  mean tree.Null env = Gives Null
  mean (tree.Truth b) env = Gives (Truth b)
  mean (tree.Int n) env = Gives (Int n)
  mean (tree.Uint n) env = Gives (Uint n)
  mean (tree.Text s) env = Gives (Text s)
  mean (tree.Name x) env = bound x env.names
  mean (tree.Field e f) env = field e (mean e env) f env
  mean (tree.Has e f) env = with_value (has_member f) (mean e env)
  mean (tree.Index e i) env = with_values indexed (mean e env) (mean i env)
  mean (tree.Sequence ts) env = list_of (all_means ts env)
  mean (tree.Mapping ps) env = map_of (pair_means ps env)
  mean (tree.Unary p e) env = with_value (prefixed p) (mean e env)
  mean (tree.Infix o a b) env = infixed o (mean a env) (mean b env)
  mean (tree.Conditional c a b) env = chosen (mean c env) (mean a env) (mean b env)
  mean (tree.Call f ts) env = called f (all_means ts env)
  mean (tree.Method e f ts) env = method_called f (mean e env) (all_means ts env)
  mean (tree.Over m e x body) env = over_items m (λ v. mean body (bind x v env)) (range_of (mean e env))

  pub all_means : Exprs → Environment → List Outcome
  all_means no_items env = []
  all_means (item t ts) env = mean t env ∷ all_means ts env

  pub pair_means : Pairs → Environment → List (Outcome × Outcome)
  pair_means no_pairs env = []
  pair_means (pair k v ps) env = (mean k env, mean v env) ∷ pair_means ps env
