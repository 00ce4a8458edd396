use Rattle.std.proofs.Common.{◌≡◌, ◌++◌, ℕ, List, codes, string_bytes, subst}
use Rattle.std.specs.Prelude.{IfOk}
use Rattle.verdict.proofs.Parts.{named_parts}
use Rattle.verdict.proofs.texts.warning_text.Goals as goal

pub returns : goal.returns
returns c =
    subst (λ (t : List ℕ). IfOk c.format.result (λ s. string_bytes s ≡ codes "Validation failed for " ++ t))
    (named_parts (codes "ValidatingAdmissionPolicy '") c.args.policy.now (codes "' with binding '") c.args.binding.now (codes "'") (codes ": " ++ c.args.message.now))
    c.format.ensures.ok
