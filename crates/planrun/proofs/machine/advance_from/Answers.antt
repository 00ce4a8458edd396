use Rattle.std.proofs.Common.{length}
use Rattle.instructions.specs.Seen.{op_of}
use Rattle.planrun.specs.StackSeen.{stack_seen}
use Rattle.planrun.specs.Running.{items_of, world}
use Rattle.planrun.proofs.Lengths.{stack_length, leads_on}
use Rattle.planrun.proofs.Ways.{named, operands}
use Rattle.planrun.proofs.machine.advance_from.Goals as goal

pub advance-requires-clause-named : goal.advance-requires-clause-named
advance-requires-clause-named c = named _ _ _ _ _ _ _ c.requires.here

pub returns-clause-leads : goal.returns-clause-leads
returns-clause-leads c =
    let old = c.args.stack.now.items in
    let new = c.advance.new.stack.items in
    leads_on (world c.args.machine.now) (items_of c.args.machine.now) (op_of c.args.instruction.now) c.args.at (length old) (length new) (stack_seen old) (stack_seen new)
    c.requires.plain (operands _ _ _ _ _ _ _ c.requires.here) (stack_length old) (stack_length new) c.in_ok-advance.ensures
