use Rattle.std.proofs.Common.{◌≡◌, ap, sym, ◌∙◌}
use Rattle.std.proofs.lemmas.Result.{IfOk-weaker}
use Rattle.celmean.specs.Meaning.{mean}
use Rattle.celmean.specs.Seen.{outcome_of}
use Rattle.instructions.specs.Machine.{top, outcome}
use Rattle.planrun.specs.StackSeen.{stack_seen}
use Rattle.planrun.specs.Worlds.{world_of}
use Rattle.planrun.proofs.Runs.{at_first, whole_run, meant}
use Rattle.planrun.proofs.machine.run.Goals as goal

pub execute-requires-clause-at : goal.execute-requires-clause-at
execute-requires-clause-at c = rw c.new-stack.ensures.items (at_first c.instructions-code.result.now)

pub returns-clause-machine : goal.returns-clause-machine
returns-clause-machine c =
    let w = world_of c.args.bindings.now in
    let ran = rw c.new-stack.ensures.items at c.in_ok-execute.ensures.same in
    let whole = whole_run w c.instructions-code.result.now ∙ ap (λ ops. outcome w ops) c.instructions-code.ensures.same in
    IfOk-weaker c.take_top.result (λ o. outcome_of o ≡ top (stack_seen c.execute.new.stack.items)) (λ o. outcome_of o ≡ outcome w c.args.plan.now.ops)
    (λ o g. g ∙ (ap top (sym ran) ∙ whole)) c.take_top.ensures.taken

pub returns-clause-meaning : goal.returns-clause-meaning
returns-clause-meaning c = λ e env r.
    let w = world_of c.args.bindings.now in
    IfOk-weaker c.take_top.result (λ o. outcome_of o ≡ outcome w c.args.plan.now.ops) (λ o. outcome_of o ≡ mean e env)
    (λ o g. g ∙ meant c.args.plan.now.ops w e env r) (returns-clause-machine c)
