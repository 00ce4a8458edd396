use Rattle.std.proofs.Common.{◌≡◌, ◌++◌, take}
use Rattle.clients.specs.Journal.{shown}
use Rattle.clients.proofs.journal.put_shown.Given as goal

abbrev pub invariant-loop-byte : goal.invariant-loop-byte
invariant-loop-byte l = l.line.items ≡ l.fn.line.items ++ shown (take l.byte-index l.text)
