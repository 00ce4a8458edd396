use Rattle.std.proofs.Common.{◌≡◌, false, Some, Err, sym, ap, ◌∙◌, true≢false, string_bytes, IsTrue, rules}
use Rattle.serde_json.specs.View.{view}
use Rattle.names.specs.Name.{is_name}
use Rattle.policy.specs.Bindings.{binding_of}
use Rattle.policy.specs.Spec.{binding_seen}
use Rattle.expressions.proofs.Bindings.{is_named}
use Rattle.expressions.proofs.bound.Bound.of.Goals as goal

pub unreachable-requires : goal.unreachable-requires
unreachable-requires c =
    let binding = c.in-Some.binding in
    let document = view c.args.document.now in
    let is : Some (binding_seen binding) ≡ binding_of document = search rules in
    let named : IsTrue (is_name (string_bytes binding.policy)) = is_named document (binding_seen binding) is in
    let bad : is_name c.as_str-name.result.now ≡ false = c.new.ensures.no_key.0 (c.in-Err-NoKey.is ∙ ap Err c.in-Err-NoKey.field-0-is) in
    true≢false (sym named ∙ ap is_name (sym c.as_str-name.ensures.value) ∙ bad)
