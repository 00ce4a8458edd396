use Rattle.std.proofs.Common.{List, ℕ, ◌++◌, take}
use Rattle.httpmsg.specs.Place.{Follows}
use Rattle.httpmsg.proofs.place.HeadPlace.after.Given as goal

abbrev pub invariant-loop-byte : goal.invariant-loop-byte
invariant-loop-byte l = (text : List ℕ) → Follows l.place text → Follows l.fn.self (take l.byte-index l.bytes ++ text)
