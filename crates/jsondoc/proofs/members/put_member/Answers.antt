use Rattle.std.proofs.Common.{ap}
use Rattle.serde_json.specs.Data.{object}
use Rattle.serde_json.proofs.Views.{view-Object, members_view-insert_entry}
use Rattle.jsondoc.proofs.MemberViews.{as_object-object, on_err}
use Rattle.jsondoc.proofs.members.put_member.Goals as goal

pub returns-in_err-insert-clause-err : goal.returns-in_err-insert-clause-err
returns-in_err-insert-clause-err c =
    on_err c.from_residual-in_err-insert.result
    (rw (as_object-object _ _ c.in-Some.ensures.value, view-Object c.insert.new.self, c.in_err-insert.ensures.err))

pub returns-in_ok-insert-clause-ok : goal.returns-in_ok-insert-clause-ok
returns-in_ok-insert-clause-ok c =
    rw (as_object-object _ _ c.in-Some.ensures.value, view-Object c.insert.new.self, c.in_ok-insert.ensures.entries, ← c.in_ok-name.ensures.ok)
    (ap object (members_view-insert_entry c.in-Some.members.now.entries c.in_ok-name.name c.args.member))
