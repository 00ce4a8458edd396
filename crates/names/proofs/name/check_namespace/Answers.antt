use Rattle.std.proofs.Common.{◌≤◌, length, ap, ◌∙◌, arith}
use Rattle.names.specs.Name.{is_label}
use Rattle.names.proofs.NameGrammar.{label_decided}
use Rattle.names.proofs.name.check_namespace.Goals as goal

pub returns-then-text-le-NAMESPACE_LIMIT-clause-grammar : goal.returns-then-text-le-NAMESPACE_LIMIT-clause-grammar
returns-then-text-le-NAMESPACE_LIMIT-clause-grammar c =
    let decided = label_decided c.args.text.now c.check_label.result (c.check_label.ensures ∙ ap is_label c.as_bytes.ensures.value) in
    let short : length c.args.text.now ≤ 63 = omega arith in
    (λ h. (decided.0 h, short), λ h. decided.1 h.0)
