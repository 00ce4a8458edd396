-- The plans of a policy: each of its expressions, compiled, in order.
use Rattle.std.specs.Prelude.{◌∷◌, ◌++◌, List, [], length}
use Rattle.celtree.specs.Tree.{Expr}
use Rattle.plan.specs.Compilation.{compiled}
use Rattle.plancode.specs.Plans.{Judged}
use Rattle.policy.specs.Forms.{Text}
use Rattle.policy.specs.Spec.{Policy}
use Rattle.expressions.specs.Expressions.{Place, condition, variable, validation, message, Source, sources}

-- the names of the earlier variables that an expression may name: none in a match condition
abbrev pub names_at : (earlier : List Text) → Place → List Text
names_at earlier condition = []
names_at earlier (variable name) = earlier
names_at earlier validation = earlier
names_at earlier message = earlier

abbrev pub and_named : Place → (earlier : List Text) → List Text
and_named condition earlier = earlier
and_named (variable name) earlier = earlier ++ name ∷ []
and_named validation earlier = earlier
and_named message earlier = earlier

-- the plan of a tree where these variables may be named
abbrev pub plan_of : (names : List Text) → Expr → Judged
plan_of names e = record { vars = length names; ops = compiled e 0 (record { locals = []; variables = names }) }

-- the plan of each tree, after these earlier variables
abbrev pub each_plan : (earlier : List Text) → List Source → List Expr → List Judged
each_plan earlier [] es = []
each_plan earlier (s ∷ ss) [] = []
each_plan earlier (s ∷ ss) (e ∷ es) = plan_of (names_at earlier s.place) e ∷ each_plan (and_named s.place earlier) ss es

abbrev pub plans_of : Policy → List Expr → List Judged
plans_of p trees = each_plan [] (sources p) trees
