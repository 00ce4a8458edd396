use Rattle.std.proofs.Common.{◌≡◌, ℤ, sym, rules, w64, SFits}
use Rattle.std.proofs.lemmas.Int.{to_z-of_z}
use Rattle.celtokens.specs.Seen.{terminals}
use Rattle.celtokens.specs.Literal.{one_token}
use Rattle.celtree.specs.Tree as expr
use Rattle.celtree.specs.View.{view}
use Rattle.celtree.specs.declared.tree.Tree.{Int, the_lemmas}
use Rattle.celtokens.proofs.Literals.{negative_literal}
use Rattle.celtokens.proofs.literal.literal_at.Goals as goal

view-Int : (v : ℤ) → view (Int v) ≡ expr.Int v
view-Int v = search (rules, the_lemmas)

pub returns-in-Some-2-clause-value : goal.returns-in-Some-2-clause-value
returns-in-Some-2-clause-value c = rw c.in-Some.ensures.value (one_token (sym (rw c.in-Some-2.is at c.in_ok-tree-in-Some.ensures)))

pub returns-in_ok-tree-in-Some-negative_literal-clause-value : goal.returns-in_ok-tree-in-Some-negative_literal-clause-value
returns-in_ok-tree-in-Some-negative_literal-clause-value c =
    let v = c.in-Some-negative_literal.value in
    let fits : SFits w64 v = search rules in
    rw (c.in_ok-tree-in-Some-negative_literal.ensures.ok, to_z-of_z w64 v fits, view-Int v) (negative_literal (terminals c.args.tokens.now) v (terminals c.in-Some-negative_literal.beyond.now) c.in-Some-negative_literal.ensures.value)
