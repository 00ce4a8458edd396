use Rattle.std.proofs.Common.{option_map, ap, sym, ◌∙◌}
use Rattle.serde_json.specs.Data.{object}
use Rattle.serde_json.specs.View.{view}
use Rattle.serde_json.proofs.Views.{view-Object, view-lookup}
use Rattle.jsondoc.proofs.MemberViews.{members_view-remove_entry, as_object-object}
use Rattle.jsondoc.proofs.members.remove_member.Goals as goal

pub returns-in-Some-clause-removed : goal.returns-in-Some-clause-removed
returns-in-Some-clause-removed c =
    rw (as_object-object _ _ c.in-Some.ensures.value, c.remove.ensures.value) (view-lookup c.args.name.now c.in-Some.members.now.entries)

pub returns-in-Some-clause-gone : goal.returns-in-Some-clause-gone
returns-in-Some-clause-gone c =
    rw (view-Object c.remove.new.self) (sym (view-lookup c.args.name.now c.remove.new.self.entries) ∙ ap (option_map view) c.remove.ensures.updates.1)

pub returns-in-Some-clause-rest : goal.returns-in-Some-clause-rest
returns-in-Some-clause-rest c =
    let left = sym (view-lookup c.args.name.now c.remove.new.self.entries) ∙ ap (option_map view) c.remove.ensures.updates.1 in
    rw (as_object-object _ _ c.in-Some.ensures.value, view-Object c.remove.new.self)
    (ap object (members_view-remove_entry c.args.name.now c.in-Some.members.now.entries c.remove.new.self.entries c.remove.ensures.entries left))
