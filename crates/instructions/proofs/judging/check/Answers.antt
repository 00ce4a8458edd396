use Rattle.std.proofs.Common.{◌≡◌, ◌<◌, ℕ, ◌+◌, ◌-◌, List, [], length, Result, sym, ap, subst, ◌∙◌, arith}
use Rattle.std.proofs.lemmas.List.{length-map}
use Rattle.std.proofs.lemmas.Result.{err_from_is_err_and}
use Rattle.instructions.specs.declared.fault.CodeFault.{CodeFault}
use Rattle.instructions.specs.Seen.{op_of, ops_of}
use Rattle.instructions.specs.Faults.{Gives}
use Rattle.instructions.specs.Judging.{judge}
use Rattle.instructions.specs.declared.bodies.OpenBody.{OpenBody as Held}
use Rattle.instructions.specs.Macros.{Tells}
use Rattle.instructions.specs.Bodies.{Table, table_of, tables_of, begun, AreOpen, AreKnown}
use Rattle.instructions.proofs.Walking.{Reached, begins, op_here, goes_on, ends, at_end}
use Rattle.instructions.proofs.judging.check.Goals as goal

pub loop-at-init : goal.loop-at-init
loop-at-init c =
    let ops = ops_of c.args.code.now in
    let first : Reached c.args.vars 0 ops (begun 0 (length c.args.code.now)) [] = subst (λ (n : ℕ). Reached c.args.vars 0 ops (begun 0 n) []) (length-map c.args.code.now op_of) (begins c.args.vars ops) in
    subst (λ (bs : List Held). Reached c.args.vars 0 ops (table_of c.in_ok-body.body) (tables_of bs)) (sym c.new-outer.ensures.items)
    (subst (λ (t : Table). Reached c.args.vars 0 ops t []) (sym c.in_ok-body.ensures) first)

pub step_over-requires-clause-known : goal.step_over-requires-clause-known
step_over-requires-clause-known c =
    let tells : Tells (ops_of c.args.code.now) c.deref.result.now = subst (Tells (ops_of c.args.code.now)) (sym c.deref.ensures.value) c.in_ok-starts.ensures in
    let count : length (ops_of c.args.code.now) ≡ length c.deref.result.now - 1 = (let k : length c.deref.result.now ≡ length (ops_of c.args.code.now) + 1 = tells.room in omega arith) in
    subst (λ (n : ℕ). AreKnown c.loop-at.at n (table_of c.loop-at.body) (tables_of c.loop-at.outer.items)) count c.loop-at.invariant.known

pub returns-in_err-body-2 : goal.returns-in_err-body-2
returns-in_err-body-2 c =
    let ops = ops_of c.args.code.now in
    let i = c.index-code-at.result in
    let many : length ops ≡ length c.args.code.now = length-map c.args.code.now op_of in
    let lt : c.loop-at.at < length ops = omega arith in
    let tells : Tells ops c.deref.result.now = subst (Tells ops) (sym c.deref.ensures.value) c.in_ok-starts.ensures in
    let p = err_from_is_err_and c.from_residual-in_err-body-2.result c.from_residual-in_err-body-2.ensures.1 in
    rw (p.1, p.2) (ends c.in_err-body-2.field-0.0 c.args.vars c.loop-at.at ops (op_of i) (table_of c.loop-at.body) (tables_of c.loop-at.outer.items) lt
    (op_here c.args.code.now c.loop-at.at i c.loop-at-test.true c.index-code-at.is) c.loop-at.invariant (c.in_err-body-2.ensures ops c.loop-at.invariant.known.bodies tells c.loop-at.invariant.known.standing))

pub loop-at-preserved : goal.loop-at-preserved
loop-at-preserved c =
    let code = c.args.code.now in
    let ops = ops_of code in
    let i = c.index-code-at.result in
    let many : length ops ≡ length code = length-map code op_of in
    let lt : c.loop-at.at < length ops = omega arith in
    let tells : Tells ops c.deref.result.now = subst (Tells ops) (sym c.deref.ensures.value) c.in_ok-starts.ensures in
    goes_on c.args.vars c.loop-at.at ops (op_of i) (table_of c.loop-at.body) (table_of c.in_ok-body-2.body) (tables_of c.loop-at.outer.items) (tables_of c.step_over.new.outer.items) lt
    (op_here code c.loop-at.at i c.loop-at-test.true c.index-code-at.is) c.loop-at.invariant (c.in_ok-body-2.ensures ops c.loop-at.invariant.known.bodies tells c.loop-at.invariant.known.standing)

pub returns : goal.returns
returns c =
    let ops = ops_of c.args.code.now in
    let known = c.loop-at.invariant.known in
    let many : length ops ≡ length c.args.code.now = length-map c.args.code.now op_of in
    let here : c.loop-at.at ≡ length ops = omega arith in
    let standing : AreOpen (length c.args.code.now) (length ops) (table_of c.loop-at.body) (tables_of c.loop-at.outer.items) known.bodies = subst (λ (n : ℕ). AreOpen n (length ops) (table_of c.loop-at.body) (tables_of c.loop-at.outer.items) known.bodies) (here ∙ many) known.standing in
    subst (λ (r : Result (Unit {0}) CodeFault). Gives (λ x. tt) c.finish.result r)
    (ap (λ (n : ℕ). judge 0 n [] known.bodies.0 known.bodies.1) (sym many) ∙ at_end c.args.vars c.loop-at.at ops (table_of c.loop-at.body) (tables_of c.loop-at.outer.items) here c.loop-at.invariant)
    (c.finish.ensures (length ops) known.bodies standing)
