use Rattle.std.proofs.Common.{◌≡◌, ◌+◌, ◌*◌, ◌<◌, ◌≤◌, [], ◌∷◌, ◌++◌, map, take, length}
use Rattle.celmean.specs.Seen.{values_seen, outcomes_seen}
use Rattle.instructions.specs.Machine.{top}
use Rattle.planrun.specs.StackSeen.{stack_seen}
use Rattle.planrun.specs.Running.{items_of, next_of, IsAt}
use Rattle.planrun.proofs.machine.+execute.Given as goal

abbrev pub decreases-execute : goal.decreases-execute
decreases-execute l = 9 * l.steps

abbrev pub decreases-step_at : goal.decreases-step_at
decreases-step_at l = 9 * l.steps + 8

abbrev pub decreases-run_instruction : goal.decreases-run_instruction
decreases-run_instruction l = 9 * l.steps + 7

abbrev pub decreases-run_macro : goal.decreases-run_macro
decreases-run_macro l = 9 * l.steps + 6

abbrev pub decreases-over_range : goal.decreases-over_range
decreases-over_range l = 9 * l.steps + 5

abbrev pub decreases-over_items : goal.decreases-over_items
decreases-over_items l = 9 * l.steps + 4

abbrev pub decreases-run_bodies : goal.decreases-run_bodies
decreases-run_bodies l = 9 * l.steps + 3

abbrev pub decreases-run_body : goal.decreases-run_body
decreases-run_body l = 9 * l.steps + 2

abbrev pub invariant-run_bodies-loop-item : goal.invariant-run_bodies-loop-item
invariant-run_bodies-loop-item l = record {
  gathered : outcomes_seen l.outcomes.items ≡ map (λ v. top (next_of l.machine l.steps l.first l.end (items_of l.machine ++ v ∷ []) [])) (values_seen (take l.item-index l.items.items));
  empty : l.stack.items ≡ [];
}

abbrev pub invariant-execute-steps : goal.invariant-execute-steps
invariant-execute-steps l = record {
  fewer : l.left ≤ l.steps;
  enough : l.stop < l.at + l.left;
  inside : l.at ≤ l.stop;
  there : IsAt l.machine l.at l.stop (length l.stack.items);
  same : next_of l.machine l.left l.at l.stop (items_of l.machine) (stack_seen l.stack.items) ≡ next_of l.machine l.steps l.initial.at l.stop (items_of l.machine) (stack_seen l.initial.stack.items);
}

abbrev pub decreases-execute-steps : goal.decreases-execute-steps
decreases-execute-steps l = l.left
