use Rattle.roots.proofs.Counting.{none_unspelled, none_closed, none_closed_unspelled, none_open_unspelled, greater_counts}
use Rattle.roots.proofs.slots.counted.Goals as goal

pub returns-in-Unspelled-clause-none : goal.returns-in-Unspelled-clause-none
returns-in-Unspelled-clause-none c = none_unspelled c.args.front.now c.in-Unspelled.ensures

pub returns-in-Unspelled-in_b-clause-none : goal.returns-in-Unspelled-in_b-clause-none
returns-in-Unspelled-in_b-clause-none c = none_closed_unspelled c.args.front.now c.in-Closed.ensures c.in-Unspelled-in_b.ensures

pub returns-in-Unspelled-in_b-2-clause-none : goal.returns-in-Unspelled-in_b-2-clause-none
returns-in-Unspelled-in_b-2-clause-none c = none_open_unspelled c.args.front.now c.in-Unspelled-in_b-2.ensures

pub returns-in-Open-in_b-2-clause-some : goal.returns-in-Open-in_b-2-clause-some
returns-in-Open-in_b-2-clause-some c =
    greater_counts c.args.front.now c.in-Open.a c.in-Open-in_b-2.b c.greater.result c.in-Open.ensures c.in-Open-in_b-2.ensures c.greater.ensures.some

pub returns-in-Closed-in_b-clause-none : goal.returns-in-Closed-in_b-clause-none
returns-in-Closed-in_b-clause-none c = none_closed c.args.front.now c.in-Closed.ensures c.in-Closed-in_b.ensures
