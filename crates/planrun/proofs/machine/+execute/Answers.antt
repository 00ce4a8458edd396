use Rattle.std.proofs.Common.{rules, ◌≡◌, inl, suc, ◌+◌, ◌-◌, ◌<◌, ◌≤◌, [], ◌∷◌, ◌++◌, length, refl, sym, arith}
use Rattle.std.proofs.lemmas.Result.{IfOk-weaker}
use Rattle.celmean.specs.Value as seen
use Rattle.celmean.specs.Seen.{values_seen}
use Rattle.instructions.specs.Machine.{top}
use Rattle.planrun.specs.StackSeen.{stack_seen}
use Rattle.planrun.specs.Running.{items_of, world, next_of}
use Rattle.planrun.proofs.Early.{early, gathered, all_gathered}
use Rattle.planrun.proofs.Runs.{onward, ended}
use Rattle.planrun.proofs.Ways.{operands, ahead, forward, moves, enters, inside_code, stands}
use Rattle.planrun.proofs.machine.+execute.Goals as goal

pub execute-steps-preserved : goal.execute-steps-preserved
execute-steps-preserved t c =
    let more : c.steps.left ≡ suc (c.steps.left - 1) = omega arith in
    let less : c.steps.at < c.args.stop = omega arith in
    record {
      fewer = omega arith;
      enough = omega (arith, c.in_ok-at.ensures.ahead);
      inside = c.in_ok-at.ensures.inside;
      there = c.in_ok-at.ensures.at;
      same = onward c.args.machine.now c.steps.left (c.steps.left - 1) c.steps.at c.args.stop c.in_ok-at.at _ _ _ more less c.steps.invariant.same c.in_ok-at.ensures.step;
    }

pub execute-returns-clause-same : goal.execute-returns-clause-same
execute-returns-clause-same t c =
    ended c.args.machine.now c.steps.left c.steps.at c.args.stop (stack_seen c.steps.stack.items) _ c.steps.invariant.enough c.steps.invariant.inside (omega arith) c.steps.invariant.same

pub run_bodies-returns-then-decided : goal.run_bodies-returns-then-decided
run_bodies-returns-then-decided t c =
    let m = c.args.machine.now in
    let f = λ (v : seen.Value). top (next_of m c.args.steps c.args.first c.args.end (items_of m ++ v ∷ []) []) in
    rw c.in_ok-push.ensures.items
    (early c.args.kind f (values_seen c.args.items.now.items) c.args.items.now.items c.loop-item.item-index c.item-item.result c.loop-item.outcomes.items c.in_ok-outcome.outcome
    (rw c.deref-item-items.ensures.value at c.loop-item-test.true) (rw c.deref-item-items.ensures.value at c.item-item.is) c.loop-item.invariant.gathered c.in_ok-outcome.ensures.outcome (sym c.if-decided.ensures))

pub run_bodies-loop-item-preserved : goal.run_bodies-loop-item-preserved
run_bodies-loop-item-preserved t c =
    let m = c.args.machine.now in
    let f = λ (v : seen.Value). top (next_of m c.args.steps c.args.first c.args.end (items_of m ++ v ∷ []) []) in
    record {
      gathered = rw c.in_ok-push.ensures.items
          (gathered f c.args.items.now.items c.loop-item.item-index (c.loop-item.item-index + 1) c.item-item.result c.loop-item.outcomes.items c.in_ok-outcome.outcome
          (rw c.deref-item-items.ensures.value at c.loop-item-test.true) (rw c.deref-item-items.ensures.value at c.item-item.is) (omega arith) c.loop-item.invariant.gathered c.in_ok-outcome.ensures.outcome);
      empty = c.in_ok-outcome.ensures.empty;
    }

pub run_bodies-returns : goal.run_bodies-returns
run_bodies-returns t c =
    let m = c.args.machine.now in
    let f = λ (v : seen.Value). top (next_of m c.args.steps c.args.first c.args.end (items_of m ++ v ∷ []) []) in
    all_gathered c.args.kind f (values_seen c.args.items.now.items) c.args.items.now.items c.loop-item.item-index c.loop-item.outcomes.items (omega (arith, c.deref-item-items.ensures.len, c.loop-item-test.false)) c.loop-item.invariant.gathered

pub run_instruction-topmost-requires : goal.run_instruction-topmost-requires
run_instruction-topmost-requires t c = rw c.in-IfFalse.is at (operands _ _ _ _ _ _ _ c.requires.here)

pub run_instruction-topmost-requires-in-IfTrue : goal.run_instruction-topmost-requires-in-IfTrue
run_instruction-topmost-requires-in-IfTrue t c = rw c.in-IfTrue.is at (operands _ _ _ _ _ _ _ c.requires.here)

pub run_instruction-branch-at-requires-clause-operands : goal.run_instruction-branch-at-requires-clause-operands
run_instruction-branch-at-requires-clause-operands t c = rw c.in-Branch.is at (operands _ _ _ _ _ _ _ c.requires.here)

pub run_instruction-returns-in-Branch-clause-step : goal.run_instruction-returns-in-Branch-clause-step
run_instruction-returns-in-Branch-clause-step t c =
    let m = c.args.machine.now in
    rw c.in-Branch.is (IfOk-weaker c.branch-at.result _ _ (λ to g. g (world m) (next_of m c.args.steps) (items_of m)) c.branch-at.ensures.step)

pub run_instruction-returns-in-Macro-clause-step : goal.run_instruction-returns-in-Macro-clause-step
run_instruction-returns-in-Macro-clause-step t c = rw c.in-Macro.is c.run_macro.ensures.step

pub run_instruction-returns-in_default-clause-step : goal.run_instruction-returns-in_default-clause-step
run_instruction-returns-in_default-clause-step t c =
    IfOk-weaker c.advance_from.result _ _ (λ to g. g (next_of c.args.machine.now c.args.steps)) c.advance_from.ensures.step

pub run_instruction-advance_from-requires-clause-here : goal.run_instruction-advance_from-requires-clause-here
run_instruction-advance_from-requires-clause-here t c = c.requires.here

pub run_instruction-returns-in_default-clause-leads : goal.run_instruction-returns-in_default-clause-leads
run_instruction-returns-in_default-clause-leads t c = c.advance_from.ensures.leads

pub run_instruction-returns-in-Branch-clause-leads : goal.run_instruction-returns-in-Branch-clause-leads
run_instruction-returns-in-Branch-clause-leads t c = rw c.in-Branch.is c.branch-at.ensures.leads

pub run_instruction-returns-in-Macro-clause-leads : goal.run_instruction-returns-in-Macro-clause-leads
run_instruction-returns-in-Macro-clause-leads t c = rw c.in-Macro.is c.run_macro.ensures.leads

pub run_macro-pop-requires : goal.run_macro-pop-requires
run_macro-pop-requires t c = operands _ _ _ _ _ _ _ c.requires.here

pub run_macro-over_range-made-requires : goal.run_macro-over_range-made-requires
run_macro-over_range-made-requires t c =
    let body = ahead _ _ _ _ _ _ _ c.args.end c.requires.here (inl refl) in
    let inside : c.args.end ≤ c.args.stop = body.1 in
    (omega arith, (enters _ _ _ _ _ _ _ _ c.requires.here, omega arith))

pub step_at-offset_bounds-machine-at : goal.step_at-offset_bounds-machine-at
step_at-offset_bounds-machine-at t c =
    let less : c.args.at < length c.args.machine.now.code.now = inside_code _ c.args.machine.now.code.now _ _ _ _ c.requires.ready c.requires.at c.requires.inside in
    search (rules, less)

pub step_at-bounds-machine-at : goal.step_at-bounds-machine-at
step_at-bounds-machine-at t c = inside_code _ c.args.machine.now.code.now _ _ _ _ c.requires.ready c.requires.at c.requires.inside

pub step_at-run_instruction-requires : goal.step_at-run_instruction-requires
step_at-run_instruction-requires t c =
    (omega arith, (stands _ c.args.machine.now.code.now c.args.at c.args.stop _ _ c.index-machine-at.result c.requires.ready c.requires.at c.requires.inside, c.requires.enough))

pub step_at-returns-clause-step : goal.step_at-returns-clause-step
step_at-returns-clause-step t c =
    let s = stands _ c.args.machine.now.code.now c.args.at c.args.stop _ _ c.index-machine-at.result c.requires.ready c.requires.at c.requires.inside in
    rw s.here c.run_instruction.ensures.step

pub step_at-returns-clause-at : goal.step_at-returns-clause-at
step_at-returns-clause-at t c =
    let s = stands _ c.args.machine.now.code.now c.args.at c.args.stop _ _ c.index-machine-at.result c.requires.ready c.requires.at c.requires.inside in
    IfOk-weaker c.run_instruction.result _ _ (λ to g. moves _ _ _ _ _ _ _ to _ s g) c.run_instruction.ensures.leads

pub step_at-returns-clause-ahead : goal.step_at-returns-clause-ahead
step_at-returns-clause-ahead t c =
    let s = stands _ c.args.machine.now.code.now c.args.at c.args.stop _ _ c.index-machine-at.result c.requires.ready c.requires.at c.requires.inside in
    IfOk-weaker c.run_instruction.result _ _ (λ to g. (forward _ _ _ _ _ _ _ to _ s g).0) c.run_instruction.ensures.leads

pub step_at-returns-clause-inside : goal.step_at-returns-clause-inside
step_at-returns-clause-inside t c =
    let s = stands _ c.args.machine.now.code.now c.args.at c.args.stop _ _ c.index-machine-at.result c.requires.ready c.requires.at c.requires.inside in
    IfOk-weaker c.run_instruction.result _ _ (λ to g. (forward _ _ _ _ _ _ _ to _ s g).1) c.run_instruction.ensures.leads

pub run_instruction-run_macro-requires : goal.run_instruction-run_macro-requires
run_instruction-run_macro-requires t c = (omega arith, (rw c.in-Macro.is at c.requires.here, c.requires.enough))

pub over_range-over_items-requires : goal.over_range-over_items-requires
over_range-over_items-requires t c = (omega arith, (c.requires.body, c.requires.enough))

pub over_items-run_bodies-requires : goal.over_items-run_bodies-requires
over_items-run_bodies-requires t c = (omega arith, (c.requires.body, c.requires.enough))

pub run_bodies-run_body-requires : goal.run_bodies-run_body-requires
run_bodies-run_body-requires t c = (omega arith, (c.requires.body, (c.requires.enough, c.loop-item.invariant.empty)))

pub execute-step_at-requires : goal.execute-step_at-requires
execute-step_at-requires t c = (omega arith, (c.requires.ready, (c.steps.invariant.there, (omega arith, omega arith))))
