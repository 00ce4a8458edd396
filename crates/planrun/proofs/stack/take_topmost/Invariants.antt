use Rattle.std.proofs.Common.{◌≡◌, ◌++◌, ◌+◌, ◌-◌, ◌≤◌, take, drop, length}
use Rattle.celmean.specs.Seen.{outcomes_seen}
use Rattle.planrun.specs.StackSeen.{stack_seen}
use Rattle.planrun.proofs.stack.take_topmost.Given as goal

abbrev pub invariant-loop : goal.invariant-loop
invariant-loop l = record {
  taken : outcomes_seen l.outcomes.items ++ take (l.count - l.counter) (stack_seen l.stack.items) ≡ take l.count (stack_seen l.initial.stack.items);
  left : drop (l.count - l.counter) (stack_seen l.stack.items) ≡ drop l.count (stack_seen l.initial.stack.items);
  within : l.counter ≤ l.count;
  enough : l.count ≤ length l.stack.items + l.counter;
}
