use Rattle.std.proofs.Common.{◌∙◌, ap, sym, subst, ◌≤◌, ◌+◌, ◌*◌, List, length, []}
use Rattle.jsondoc.specs.Json.{text}
use Rattle.std.specs.List.{AllByRecursion}
use Rattle.plancode.specs.Plans.{Judged, IsVerified}
use Rattle.plancode.specs.PlanList.{list_bytes}
use Rattle.policy.specs.Spec.{Policy, policy_seen}
use Rattle.expressions.specs.Expressions.{sources}
use Rattle.expressions.specs.Plans.{plans_of}
use Rattle.expressions.specs.Seen.{IsFaultOf}
use Rattle.expressions.specs.Specification.{IsCompiled, bad_expression}
use Rattle.expressions.specs.Typed.{AreTyped, HasBadExpression}
use Rattle.names.specs.declared.resource.Resource.TheVariants.{ValidatingAdmissionPolicy}
use Rattle.serde_json.specs.Data.{Data}
use Rattle.std.proofs.Common.{rules, arith, Some, string_bytes}
use Rattle.expressions.proofs.Bytes.{short_list}
use Rattle.expressions.proofs.Holding.{may_hold}
use Rattle.expressions.proofs.Counting.{variables_counted_too}
use Rattle.expressions.proofs.Standing.{same_policy, spelled_policy, counted_policy, sound_policy, bad_expression_of, few_sources}
use Rattle.expressions.proofs.specification.of_form.Goals as goal

pub returns-in_ok-plans-in-Ok-clause-compiled : goal.returns-in_ok-plans-in-Ok-clause-compiled
returns-in_ok-plans-in-Ok-clause-compiled c =
    let is = spelled_policy c.args.document.now c.in-Ok.policy.policy (search rules) in
    let counted = counted_policy c.args.format c.args.document.now (policy_seen c.args.form.now) c.requires.form in
    let same = same_policy c.args.document.now c.in-Ok.policy.policy (policy_seen c.args.form.now) is counted in
    sound_policy c.args.format c.args.document.now c.in-Ok.policy.policy c.in-Ok.policy.trees c.in_ok-plans-in-Ok.plans.items (c.requires.form ∙ ap (λ (p : Policy). Some p) (sym same))
    c.in-Ok.ensures.ok.typed c.in-Ok.ensures.alone c.in_ok-plans-in-Ok.ensures

pub returns-in_ok-plans-in-Ok-clause-short : goal.returns-in_ok-plans-in-Ok-clause-short
returns-in_ok-plans-in-Ok-clause-short c =
    let is = spelled_policy c.args.document.now c.in-Ok.policy.policy (search rules) in
    let counted = counted_policy c.args.format c.args.document.now (policy_seen c.args.form.now) c.requires.form in
    let same = same_policy c.args.document.now c.in-Ok.policy.policy (policy_seen c.args.form.now) is counted in
    let P : Policy → Type 0 = λ p. AreTyped c.args.format p [] (sources p) c.in-Ok.policy.trees in
    let short = short_list c.args.format c.args.document.now c.args.form.now c.in-Ok.policy.trees (spelled_policy c.args.document.now (policy_seen c.args.form.now) counted) (subst P same c.in-Ok.ensures.ok.typed) in
    let plans = c.in_ok-plans-in-Ok.ensures ∙ ap (λ (p : Policy). plans_of p c.in-Ok.policy.trees) same in
    let Q : List Judged → Type 0 = λ js. length (list_bytes js) ≤ 2 + 22 * length (text c.args.document.now) in
    subst Q (sym plans) short

pub returns-in_ok-plans-in-Ok-clause-held : goal.returns-in_ok-plans-in-Ok-clause-held
returns-in_ok-plans-in-Ok-clause-held c small =
    let is = spelled_policy c.args.document.now c.in-Ok.policy.policy (search rules) in
    let counted = counted_policy c.args.format c.args.document.now (policy_seen c.args.form.now) c.requires.form in
    let same = same_policy c.args.document.now c.in-Ok.policy.policy (policy_seen c.args.form.now) is counted in
    let P : List Judged → Type 0 = λ js. AllByRecursion (λ j. IsVerified j.vars j.ops) js in
    may_hold c.args.format c.args.document.now c.in-Ok.policy.policy c.in-Ok.policy.trees c.in_ok-plans-in-Ok.plans.items (counted ∙ ap (λ (p : Policy). Some p) (sym same))
    c.in-Ok.ensures.ok.typed c.in_ok-plans-in-Ok.ensures (subst P c.deref.ensures.value c.all_verified.ensures) (returns-in_ok-plans-in-Ok-clause-short c) small

pub plans-requires : goal.plans-requires
plans-requires c =
    let few = few_sources c.args.document.now c.in-Ok.policy.policy (search rules) in
    let among = variables_counted_too c.in-Ok.policy.policy in
    record { few = omega (arith, few, among) }

pub returns-in-Err-BadExpression-clause-compiled : goal.returns-in-Err-BadExpression-clause-compiled
returns-in-Err-BadExpression-clause-compiled c =
    let At : Data → Type 0 = λ d. IsFaultOf c.args.format d c.in-Err-BadExpression.field-0 in
    let fault : IsFaultOf c.args.format c.args.document.now c.in-Err-BadExpression.field-0 = subst At c.value.ensures.value c.in-Err-BadExpression.ensures.fault in
    let bad : HasBadExpression c.args.format c.args.document.now (string_bytes c.in-Err-BadExpression.text) = rw c.in-Err-BadExpression.field-0-is at fault in
    let made : IsCompiled c.args.format ValidatingAdmissionPolicy c.args.document.now (bad_expression (string_bytes c.in-Err-BadExpression.text)) =
    bad_expression_of c.args.format c.args.document.now (policy_seen c.args.form.now) bad.policy (string_bytes c.in-Err-BadExpression.text) c.requires.form bad.form bad.bad bad.none
    in
    rw c.in-Err-BadExpression.field-0-is made
