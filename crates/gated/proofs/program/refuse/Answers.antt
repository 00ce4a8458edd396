use Rattle.std.proofs.Common.{[], refl}
use Rattle.gated.specs.Problem.{SaysNoMore}
use Rattle.gated.specs.declared.problem.Problem.TheVariants.{OutOfMemory}
use Rattle.gated.proofs.Tellings.{problem_told}
use Rattle.gated.proofs.program.refuse.Goals as goal

pub returns-then-eq-clause-told : goal.returns-then-eq-clause-told
returns-then-eq-clause-told g c =
    problem_told SaysNoMore g.E.Output.took g.E.Output.failures c.args.errors.now c.tell.new.errors OutOfMemory c.tell.result [] c.tell.ensures.status refl c.tell.ensures.lines

pub returns-in-Err-clause-told : goal.returns-in-Err-clause-told
returns-in-Err-clause-told g c =
    problem_told SaysNoMore g.E.Output.took g.E.Output.failures c.args.errors.now c.tell-in-Err.new.errors OutOfMemory c.tell-in-Err.result [] c.tell-in-Err.ensures.status
    refl c.tell-in-Err.ensures.lines
