use Rattle.std.proofs.Common.{◌≡◌, ap, ◌∙◌}
use Rattle.std.proofs.lemmas.Bool.{cond-true}
use Rattle.routes.specs.Asked.{asked}
use Rattle.dialect.specs.Restated.{restated}
use Rattle.dialect.proofs.Refusing.{others}
use Rattle.dialect.proofs.laws.others_refused.Goals as goal

pub returns : goal.returns
returns c f m some =
    let stays : restated f m ≡ m = cond-true _ _ _ some in
    let refusal = others f m some in
    (refusal.0, ap (asked f) stays ∙ refusal.1)
