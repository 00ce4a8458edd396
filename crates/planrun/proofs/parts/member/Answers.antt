use Rattle.std.proofs.Common.{ap}
use Rattle.serde_json.specs.View.{view}
use Rattle.serde_json.specs.Find.{get}
use Rattle.celmean.specs.Value.{or_error}
use Rattle.planrun.proofs.Members.{member-json_value, seen_of}
use Rattle.planrun.proofs.parts.member.Goals as goal

pub returns : goal.returns
returns c =
    rw (member-json_value c.args.name.now (view c.args.document.now))
    (ap or_error (seen_of (λ v. view v.now) c.get.result (get c.args.name.now (view c.args.document.now)) c.get.ensures))
