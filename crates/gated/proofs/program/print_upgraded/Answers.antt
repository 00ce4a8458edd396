use Rattle.std.proofs.Common.{◌≡◌, ◌∙◌, ◌++◌, ℕ, List, codes, ap, subst}
use Rattle.std.specs.Prelude.{decimal}
use Rattle.std.proofs.lemmas.Result.{on_ok_weaker}
use Rattle.gated.specs.Telling.{upgraded_text}
use Rattle.gated.proofs.Tellings.{nine_joined}
use Rattle.gated.proofs.program.print_upgraded.Goals as goal

pub returns-in-Ok-clause-line : goal.returns-in-Ok-clause-line
returns-in-Ok-clause-line g c =
    let Told : List ℕ → Type 0 = λ text. g.O.Output.took c.args.output.now c.print.new.output (text ++ codes "\n") in
    let text : c.as_str.result.now ≡ upgraded_text c.args.upgraded.now = c.as_str.ensures.value ∙ c.in-Ok.ensures.ok
    ∙ nine_joined (codes "format ") (decimal c.number-number.result) (codes ", generation ") (decimal c.args.upgraded.now.generation) (codes ", revision ")
    (decimal c.args.upgraded.now.revision) (codes ", ") (decimal c.args.upgraded.now.namespaces) (codes " namespaces")
    ∙ ap (λ (n : ℕ). codes "format " ++ decimal n ++ codes ", generation " ++ decimal c.args.upgraded.now.generation ++ codes ", revision " ++ decimal c.args.upgraded.now.revision
    ++ codes ", " ++ decimal c.args.upgraded.now.namespaces ++ codes " namespaces") c.number-number.ensures
    in
    on_ok_weaker c.print.result (subst Told text) c.print.ensures.line
