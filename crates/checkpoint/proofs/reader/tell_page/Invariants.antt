use Rattle.std.proofs.Common.{take}
use Rattle.checkpoint.proofs.reader.tell_page.Given as goal

abbrev pub invariant-loop-i : goal.invariant-loop-i
invariant-loop-i g l = g.R.Reader.told l.fn.reader l.reader (take l.i l.page)
