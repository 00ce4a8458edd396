use Rattle.std.proofs.Common.{sym, ◌∙◌}
use Rattle.policy.proofs.Gathering.{row_passed, row_found}
use Rattle.policy.proofs.Steps.{on}
use Rattle.policy.proofs.form.choice.Goals as goal

pub loop-row-preserved : goal.loop-row-preserved
loop-row-preserved g c =
    row_passed c.args.rows.now c.loop-row.row-index c.row-item.result c.in-Some.text.now _ c.loop-row-test.true c.row-item.is (sym c.eq.ensures ∙ c.if-eq.false)
    c.loop-row.invariant

pub returns-then-eq-clause-read : goal.returns-then-eq-clause-read
returns-then-eq-clause-read g c =
    on _ _ _ _ (sym c.in-Some.ensures)
    (row_found c.args.rows.now c.loop-row.row-index c.row-item.result c.in-Some.text.now _ c.loop-row-test.true c.row-item.is (sym c.eq.ensures ∙ c.if-eq.true)
    c.loop-row.invariant)
