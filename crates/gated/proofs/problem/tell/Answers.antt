use Rattle.std.proofs.Common.{◌++◌, List, ℕ, subst, codes}
use Rattle.gated.specs.Problem.{TellsAll, reason_line}
use Rattle.api.proofs.Folds.{took_some_of, took_whole}
use Rattle.gated.proofs.problem.tell.Goals as goal

pub returns-clause-lines : goal.returns-clause-lines
returns-clause-lines g c =
    let took = g.E.Output.took in
    let more : List ℕ = reason_line c.args.reason in
    let bytes : List ℕ = codes "gated: " ++ c.text.result.now ++ codes "\n" ++ more in
    let Told : List ℕ → Type 0 = λ text. TellsAll took g.E.Output.failures c.args.errors.now c.write_lines.new.errors (codes "gated: " ++ text ++ codes "\n" ++ more) in
    subst Told c.text.ensures (record {
      some = took_some_of took c.args.errors.now c.write_lines.new.errors bytes c.write_lines.result c.write_lines.ensures.writes;
      whole = took_whole took c.args.errors.now c.write_lines.new.errors bytes c.write_lines.result _ _ c.write_lines.ensures.writes c.write_lines.ensures.cause;
    })
