use Rattle.std.proofs.Common.{◌≡◌, ◌∙◌, ◌++◌, ℕ, List, codes, ap, subst}
use Rattle.std.specs.Prelude.{decimal}
use Rattle.std.proofs.lemmas.Result.{on_ok_weaker}
use Rattle.gated.specs.Telling.{checked_text}
use Rattle.gated.proofs.Tellings.{eight_joined}
use Rattle.gated.proofs.checking.print_checked.Goals as goal

pub returns-in-Ok-clause-line : goal.returns-in-Ok-clause-line
returns-in-Ok-clause-line g c =
    let Told : List ℕ → Type 0 = λ text. g.O.Output.took c.args.output.now c.print.new.output (text ++ codes "\n") in
    let text : c.as_str.result.now ≡ checked_text c.args.checked.now = c.as_str.ensures.value ∙ c.in-Ok.ensures.ok
    ∙ eight_joined (codes "ok: format ") (decimal c.number-number.result) (codes ", revision ") (decimal c.args.checked.now.revision) (codes ", objects ")
    (decimal c.args.checked.now.objects) (codes ", generation ") (decimal c.args.checked.now.generation)
    ∙ ap (λ (n : ℕ). codes "ok: format " ++ decimal n ++ codes ", revision " ++ decimal c.args.checked.now.revision ++ codes ", objects " ++ decimal c.args.checked.now.objects
    ++ codes ", generation " ++ decimal c.args.checked.now.generation) c.number-number.ensures
    in
    on_ok_weaker c.print.result (subst Told text) c.print.ensures.line
