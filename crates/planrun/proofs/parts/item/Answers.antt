use Rattle.std.proofs.Common.{rules, refl}
use Rattle.serde_json.specs.View.{view}
use Rattle.planrun.proofs.Members.{indexed-json_value}
use Rattle.planrun.proofs.parts.item.Goals as goal

pub returns-in-Some : goal.returns-in-Some
returns-in-Some c =
    rw (indexed-json_value (λ v. v.now.items) c.as_array.result (view c.args.document.now) c.args.index c.as_array.ensures, c.in-Some.is) (search rules)

pub returns-in-None : goal.returns-in-None
returns-in-None c =
    rw (indexed-json_value (λ v. v.now.items) c.as_array.result (view c.args.document.now) c.args.index c.as_array.ensures, c.in-None.is) refl
