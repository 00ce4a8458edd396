use Rattle.std.proofs.Common.{◌≡◌, ◌∙◌, ap, ◌++◌, codes, ℕ}
use Rattle.std.specs.Prelude.{decimal}
use Rattle.std.proofs.lemmas.Result.{IfOk-weaker}
use Rattle.gated.proofs.opening.found_text.Goals as goal

pub returns : goal.returns
returns c =
    let found = c.args.found.now in
    let numbered = ap (λ (n : ℕ). codes "format " ++ (decimal n ++ (codes ", revision " ++ (decimal found.revision
    ++ (codes ", objects " ++ (decimal found.objects ++ (codes ", records " ++ decimal found.records))))))) c.number-format.ensures in
    IfOk-weaker c.format.result _ _ (λ text is. is ∙ numbered) c.format.ensures.ok
