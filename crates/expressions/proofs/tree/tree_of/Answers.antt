use Rattle.celread.specs.Reading.{IsNotRead}
use Rattle.expressions.proofs.Faults.{unless_memory}
use Rattle.expressions.proofs.tree.tree_of.Goals as goal

pub returns-in_ok-spells_none-in-Err : goal.returns-in_ok-spells_none-in-Err
returns-in_ok-spells_none-in-Err c = unless_memory c.in-Err.fault (IsNotRead c.args.text.now) c.in_ok-spells_none-in-Err.ensures.ok c.in-Err.ensures.none
