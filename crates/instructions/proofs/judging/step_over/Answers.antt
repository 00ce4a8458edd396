use Rattle.std.proofs.Common.{◌≡◌, ℕ, ◌≤◌, ◌-◌, ◌+◌, List, length, drop, Result, true, false, rules, sym, ap, subst, ◌∙◌, arith}
use Rattle.instructions.specs.declared.fault.CodeFault.{CodeFault}
use Rattle.instructions.specs.Faults.{◌>>=◌}
use Rattle.instructions.specs.Seen.{op_of}
use Rattle.instructions.specs.Judging.{OpenBody, is_named, judged}
use Rattle.instructions.specs.Bodies.{table_of, tables_of, Follows}
use Rattle.instructions.proofs.Standing.{ends_inside}
use Rattle.instructions.proofs.OverTables.{bad_jump, is_judged, left_known, steps}
use Rattle.instructions.proofs.judging.step_over.Goals as goal

pub all_fair-requires : goal.all_fair-requires
all_fair-requires c =
    let count = length c.args.starts.now - 1 in
    let k = c.requires.known in
    let left = c.in_ok-body.ensures.follows count k.bodies k.standing in
    let le : c.in_ok-body.body.end ≤ count = ends_inside c.args.at count (table_of c.in_ok-body.body) (tables_of c.leave.new.outer.items) left.bodies.0 left.bodies.1 left.standing.nested in
    omega arith

pub run-requires-clause-low : goal.run-requires-clause-low
run-requires-clause-low c =
    let count = length c.args.starts.now - 1 in
    let k = c.requires.known in (
      count,
      left_known c.args.at count (table_of c.args.body) (table_of c.in_ok-body.body) (tables_of c.args.outer.now.items) (tables_of c.leave.new.outer.items) k (c.in_ok-body.ensures.follows count k.bodies k.standing),
    )

pub returns-then-not-all_fair : goal.returns-then-not-all_fair
returns-then-not-all_fair c = λ ops bodies tells o.
    let op = op_of c.args.instruction.now in
    let left = c.in_ok-body.ensures.follows (length ops) bodies o in
    ap (λ (x : Result (OpenBody × List OpenBody) CodeFault). x >>= λ y. judged c.args.vars c.args.at op (drop (c.args.at + 1) ops) y.0 y.1) left.are
    ∙ bad_jump c.args.vars c.args.at op ops c.args.starts.now (table_of c.in_ok-body.body) (tables_of c.leave.new.outer.items) left.bodies tells left.standing (sym c.all_fair.ensures ∙ c.if-not-all_fair.true)

pub returns-then-not-named : goal.returns-then-not-named
returns-then-not-named c = λ ops bodies tells o.
    let op = op_of c.args.instruction.now in
    let left = c.in_ok-body.ensures.follows (length ops) bodies o in
    let many : length c.leave.new.outer.items ≡ c.len.result = search rules in
    ap (λ (x : Result (OpenBody × List OpenBody) CodeFault). x >>= λ y. judged c.args.vars c.args.at op (drop (c.args.at + 1) ops) y.0 y.1) left.are
    ∙ is_judged c.args.vars c.args.at op ops c.args.starts.now (table_of c.in_ok-body.body) c.leave.new.outer.items left.bodies false tells left.standing (sym c.all_fair.ensures ∙ c.if-not-all_fair.false)
    (ap (λ (n : ℕ). is_named c.args.vars n op) many ∙ sym c.named.ensures ∙ c.if-not-named.true)

pub returns : goal.returns
returns c = λ ops bodies tells o.
    let op = op_of c.args.instruction.now in
    let left = c.in_ok-body.ensures.follows (length ops) bodies o in
    let many : length c.leave.new.outer.items ≡ c.len.result = search rules in
    let named : is_named c.args.vars (length c.leave.new.outer.items) op ≡ true = ap (λ (n : ℕ). is_named c.args.vars n op) many ∙ sym c.named.ensures ∙ c.if-not-named.false in
    steps c.args.vars c.args.at (length ops) op (drop (c.args.at + 1) ops) bodies (table_of c.in_ok-body.body) (tables_of c.leave.new.outer.items) c.run.result c.run.new.outer.items left
    (subst (λ (r : Result (OpenBody × List OpenBody) CodeFault). Follows (c.args.at + 1) (length ops) c.run.result c.run.new.outer.items r)
    (sym (is_judged c.args.vars c.args.at op ops c.args.starts.now (table_of c.in_ok-body.body) c.leave.new.outer.items left.bodies true tells left.standing (sym c.all_fair.ensures ∙ c.if-not-all_fair.false) named))
    (c.run.ensures (length ops) left.bodies left.standing))
