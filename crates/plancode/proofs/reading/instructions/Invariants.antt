use Rattle.std.proofs.Common.{◌≡◌, ◌-◌}
use Rattle.instructions.specs.Seen.{ops_of}
use Rattle.plancode.specs.Reading.{ops_at}
use Rattle.plancode.proofs.Counting.{with_front}
use Rattle.plancode.proofs.reading.instructions.Given as goal

abbrev pub invariant-loop : goal.invariant-loop
invariant-loop l = with_front (ops_of l.read.items) (ops_at l.greatest (l.count - l.counter) l.rest) ≡ ops_at l.greatest l.count l.bytes
