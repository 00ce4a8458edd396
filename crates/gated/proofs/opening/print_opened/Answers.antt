use Rattle.std.proofs.Common.{◌∙◌, List, ℕ, subst}
use Rattle.gated.specs.Problem.{TellsAll}
use Rattle.api.proofs.Folds.{took_some_of, took_whole}
use Rattle.gated.proofs.opening.print_opened.Goals as goal

pub returns-in-Ok-clause-line : goal.returns-in-Ok-clause-line
returns-in-Ok-clause-line g c =
    let took = g.E.Output.took in
    let Told : List ℕ → Type 0 = λ text. TellsAll took g.E.Output.failures c.args.errors.now c.write_all.new.output text in
    subst Told (c.as_bytes.ensures.value ∙ c.in-Ok.ensures) (record {
      some = took_some_of took c.args.errors.now c.write_all.new.output c.as_bytes.result.now c.write_all.result c.write_all.ensures.writes;
      whole = took_whole took c.args.errors.now c.write_all.new.output c.as_bytes.result.now c.write_all.result _ _ c.write_all.ensures.writes c.write_all.ensures.cause;
    })
