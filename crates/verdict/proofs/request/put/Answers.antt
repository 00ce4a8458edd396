use Rattle.serde_json.proofs.Views.{members_view-insert_entry}
use Rattle.verdict.proofs.request.put.Goals as goal

pub returns : goal.returns
returns c =
    rw (c.in_ok-insert.ensures.entries, ← c.in_ok-name.ensures.ok)
    (members_view-insert_entry c.args.members.now.entries c.in_ok-name.name c.args.member)
