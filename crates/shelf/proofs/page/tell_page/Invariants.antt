use Rattle.std.proofs.Common.{take}
use Rattle.shelf.specs.Prefix.{beginning}
use Rattle.shelf.proofs.page.tell_page.Given as goal

abbrev pub invariant-loop-i : goal.invariant-loop-i
invariant-loop-i g l = g.R.Reader.told l.fn.reader l.reader (beginning l.prefix (take l.i l.page))
