use Rattle.std.proofs.Common.{◌≤◌, sym, ap, ◌∙◌, arith}
use Rattle.instructions.specs.Seen.{op_of}
use Rattle.instructions.specs.Judging.{takes}
use Rattle.instructions.specs.Bodies.{table_of, tables_of, opening, Table}
use Rattle.instructions.proofs.OverTables.{height_low, not_reached, lacks_operands, runs_on}
use Rattle.instructions.proofs.judging.run.Goals as goal

pub expect_next-requires-clause-low : goal.expect_next-requires-clause-low
expect_next-requires-clause-low c =
    height_low c.args.at c.requires.low.0 c.in-Some.height (table_of c.args.body) (tables_of c.args.outer.now.items) c.requires.low.1 c.in-Some.ensures

pub returns-in-None : goal.returns-in-None
returns-in-None c = λ count bodies o.
    not_reached (op_of c.args.instruction.now) c.args.at count (table_of c.args.body) (tables_of c.args.outer.now.items) bodies o c.in-None.ensures

pub returns-then-height-taken : goal.returns-then-height-taken
returns-then-height-taken c = λ count bodies o.
    lacks_operands (op_of c.args.instruction.now) c.args.at count c.in-Some.height (table_of c.args.body) (tables_of c.args.outer.now.items) bodies o c.in-Some.ensures (omega arith)

pub returns-in_ok-open-in-Some : goal.returns-in_ok-open-in-Some
returns-in_ok-open-in-Some c = λ count bodies o.
    let op = op_of c.args.instruction.now in
    let around = tables_of c.args.outer.now.items in
    let fits : takes op ≤ c.in-Some.height = omega arith in
    runs_on op c.args.at count c.in-Some.height (table_of c.args.body) (table_of c.in_ok-open-in-Some.field-0) around (tables_of c.open.new.outer.items) bodies o c.in-Some.ensures fits c.requires.inside c.requires.within
    (ap (λ (t : Table). opening op c.args.at t around) (sym c.expect_next.ensures) ∙ c.in_ok-open-in-Some.ensures)
