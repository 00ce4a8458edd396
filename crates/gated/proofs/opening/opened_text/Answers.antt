use Rattle.std.proofs.Common.{◌∙◌, ap, ◌++◌, codes, ℕ, List}
use Rattle.std.proofs.lemmas.Result.{IfOk-weaker}
use Rattle.std.specs.Prelude.{string_bytes}
use Rattle.gated.specs.Opening.{found_shown}
use Rattle.gated.proofs.opening.opened_text.Goals as goal

pub returns : goal.returns
returns c =
    let file : List ℕ = c.args.file.now in
    let found : List ℕ = found_shown c.args.found.now in
    let finds = ap (λ (f : List ℕ). codes "gated: 0.30.0, " ++ (file ++ (codes ": " ++ (f ++ (codes ", read in " ++ (string_bytes c.in_ok-seconds.seconds ++ codes " s\n"))))))
    c.in_ok-found.ensures in
    let timed = ap (λ (s : List ℕ). codes "gated: 0.30.0, " ++ (file ++ (codes ": " ++ (found ++ (codes ", read in " ++ (s ++ codes " s\n")))))) c.in_ok-seconds.ensures in
    IfOk-weaker c.format.result _ _ (λ text is. is ∙ finds ∙ timed) c.format.ensures.ok
