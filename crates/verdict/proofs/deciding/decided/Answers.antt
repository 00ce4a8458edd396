use Rattle.std.proofs.Common.{◌≡◌, List, ◌∷◌, [], ◌++◌, map, string_bytes, sym, ap, ◌∙◌, rules}
use Rattle.std.proofs.lemmas.List.{map_push}
use Rattle.policy.specs.Forms.{Text}
use Rattle.policy.specs.Spec.{binding_seen}
use Rattle.verdict.specs.DenialSeen.{denial_seen, decision_seen}
use Rattle.verdict.specs.Verdict.{warned, decision}
use Rattle.verdict.specs.Deciding.{after_warnings}
use Rattle.verdict.specs.Texts.{warning}
use Rattle.verdict.proofs.Warnings.{warning_is}
use Rattle.verdict.proofs.deciding.decided.Goals as goal

pub returns-in_ok-push-in-Warned : goal.returns-in_ok-push-in-Warned
returns-in_ok-push-in-Warned c = λ rest.
    let b = binding_seen c.args.binding.now in
    let name = c.args.name.now in
    let warnings = map string_bytes c.args.warnings.now.items in
    let denial = denial_seen c.args.denial in
    let given = denial_seen c.in-Warned.denial in
    let policy : c.as_str-policy.result.now ≡ b.policy = search rules in
    let message : c.as_str.result.now ≡ given.message = search rules in
    let is : warned given ≡ decision b.action b.policy name denial =
    ap decision_seen (sym c.in-Warned.is) ∙ c.in_ok-verdict.ensures ∙ ap (λ (p : Text). decision b.action p name denial) policy in
    let said : string_bytes c.in_ok-text-in-Warned.field-0 ≡ warning b.policy name given.message =
    c.in_ok-text-in-Warned.ensures ∙ (λ i. warning (policy i) name (message i)) in
    let more : map string_bytes c.push.new.self.items ≡ warnings ++ warning b.policy name given.message ∷ [] =
    ap (λ ss. map string_bytes ss) c.in_ok-push-in-Warned.ensures.items ∙ map_push string_bytes c.args.warnings.now.items c.in_ok-text-in-Warned.field-0 ∙ ap (λ t. warnings ++ t ∷ []) said in
    warning_is warnings b.action b.policy name denial given rest is ∙ ap (λ (ts : List Text). after_warnings ts rest) (sym more)
