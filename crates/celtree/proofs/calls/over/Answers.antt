use Rattle.std.proofs.Common.{arith}
use Rattle.celtree.specs.View.{view}
use Rattle.celtree.proofs.CallTrees.{macro_over_other}
use Rattle.celtree.proofs.calls.over.Goals as goal

pub returns-else-count-eq3 : goal.returns-else-count-eq3
returns-else-count-eq3 c =
    macro_over_other c.args.kind (view c.args.of.value) c.args.arguments.items
    (λ e. absurd (c.if-count-eq2.false (omega (arith, c.args.arguments.ok.0))))
    (λ e. absurd (c.if-count-eq3.false (omega (arith, c.args.arguments.ok.0))))
