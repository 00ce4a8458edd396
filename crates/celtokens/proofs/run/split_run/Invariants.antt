use Rattle.std.proofs.Common.{◌≡◌, ℕ, ◌<◌, true, get_or}
use Rattle.celtokens.specs.Run.{is_in}
use Rattle.celtokens.proofs.run.split_run.Given as goal

abbrev pub invariant-loop-i : goal.invariant-loop-i
invariant-loop-i l = (k : ℕ) → k < l.i → is_in l.kind (get_or l.chars k 0) ≡ true
