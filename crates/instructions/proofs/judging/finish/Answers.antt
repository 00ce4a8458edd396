use Rattle.std.proofs.Common.{true, false, sym, ◌∙◌}
use Rattle.instructions.specs.Bodies.{table_of, tables_of}
use Rattle.instructions.proofs.Walking.{finished}
use Rattle.instructions.proofs.judging.finish.Goals as goal

pub returns-then-ends_with_one : goal.returns-then-ends_with_one
returns-then-ends_with_one c = λ count bodies o.
    finished c.args.at count (table_of c.in_ok-body.body) (tables_of c.leave.new.outer.items) bodies true (c.in_ok-body.ensures.follows count bodies o) (sym c.ends_with_one.ensures ∙ c.if-ends_with_one.true)

pub returns : goal.returns
returns c = λ count bodies o.
    finished c.args.at count (table_of c.in_ok-body.body) (tables_of c.leave.new.outer.items) bodies false (c.in_ok-body.ensures.follows count bodies o) (sym c.ends_with_one.ensures ∙ c.if-ends_with_one.false)
