use Rattle.std.proofs.Common.{inr, sym, ◌∙◌}
use Rattle.gated.specs.Problem.{SaysWhy}
use Rattle.gated.proofs.Tellings.{problem_told, no_problem_is_success}
use Rattle.gated.proofs.program.program.Goals as goal

pub returns-in-Err-done-clause-done : goal.returns-in-Err-done-clause-done
returns-in-Err-done-clause-done g c =
    let verb = c.in-Ok.verb in
    let told = problem_told (SaysWhy g.S.Storage.caused c.args.storage.now verb) g.E.Output.took g.E.Output.failures c.done.new.errors c.tell.new.errors
    c.in-Err-done.problem c.tell.result _ c.tell.ensures.status c.reason_of.ensures c.tell.ensures.lines in
    inr (
      (λ well. no_problem_is_success c.in-Err-done.problem (sym c.tell.ensures.status ∙ well)),
      inr (verb, c.in-Ok.ensures.asked, (c.done.new.errors, c.in-Err-done.ensures.told_err, told), c.in-Err-done.ensures.left),
    )
