use Rattle.std.proofs.Common.{refl}
use Rattle.serde_json.specs.View.{view}
use Rattle.celmean.proofs.Lists.{is_some-option_map}
use Rattle.planrun.proofs.Members.{has_member-json_value}
use Rattle.planrun.proofs.parts.has_member.Goals as goal

pub returns-then-is_object : goal.returns-then-is_object
returns-then-is_object c =
    rw (
      has_member-json_value c.args.name.now (view c.args.of.now),
      ← c.is_object.ensures,
      c.if-is_object.true,
      c.is_some.ensures,
      ← c.get-found.ensures,
      is_some-option_map (λ v. view v.now) c.get-found.result,
    ) refl

pub returns-else-is_object : goal.returns-else-is_object
returns-else-is_object c = rw (has_member-json_value c.args.name.now (view c.args.of.now), ← c.is_object.ensures, c.if-is_object.false) refl
