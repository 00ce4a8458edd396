use Rattle.std.proofs.Common.{◌≡◌, ◌∙◌, ◌++◌, ℕ, List, codes, subst}
use Rattle.std.specs.Prelude.{decimal}
use Rattle.std.proofs.lemmas.Result.{on_ok_weaker}
use Rattle.gated.specs.Telling.{compacted_text}
use Rattle.gated.proofs.Tellings.{six_joined}
use Rattle.gated.proofs.program.print_compacted.Goals as goal

pub returns-in-Ok-clause-line : goal.returns-in-Ok-clause-line
returns-in-Ok-clause-line g c =
    let Told : List ℕ → Type 0 = λ text. g.O.Output.took c.args.output.now c.print.new.output (text ++ codes "\n") in
    let text : c.as_str.result.now ≡ compacted_text c.args.compacted.now = c.as_str.ensures.value ∙ c.in-Ok.ensures.ok
    ∙ six_joined (codes "generation ") (decimal c.args.compacted.now.generation) (codes ", ") (decimal c.args.compacted.now.pages)
    (codes " pages at sector ") (decimal c.args.compacted.now.first_sector)
    in
    on_ok_weaker c.print.result (subst Told text) c.print.ensures.line
