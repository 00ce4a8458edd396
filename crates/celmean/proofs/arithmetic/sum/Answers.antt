use Rattle.celmean.specs.Seen.{values_seen}
use Rattle.celmean.proofs.Lists.{items-sequence}
use Rattle.celmean.proofs.Inside.{value_of-List}
use Rattle.celmean.proofs.arithmetic.sum.Goals as goal

pub returns-in-List-List : goal.returns-in-List-List
returns-in-List-List c =
    let xs = c.in-List-List.first in
    let ys = c.in-List-List.second in
    rw (c.in-List-List.is-0, c.in-List-List.is-1, value_of-List xs, value_of-List ys, items-sequence (values_seen xs.value.items), items-sequence (values_seen ys.value.items), ← c.deref.ensures, ← c.deref-in-List-List.ensures) c.joined_lists.ensures
