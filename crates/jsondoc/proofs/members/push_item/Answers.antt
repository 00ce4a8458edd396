use Rattle.std.proofs.Common.{ap}
use Rattle.serde_json.specs.Data.{array}
use Rattle.serde_json.proofs.Views.{view-Array}
use Rattle.jsondoc.proofs.MemberViews.{as_array-array, items_view-push}
use Rattle.jsondoc.proofs.members.push_item.Goals as goal

pub returns-in_ok-push-clause-ok : goal.returns-in_ok-push-clause-ok
returns-in_ok-push-clause-ok c =
    rw (as_array-array _ _ c.in-Some.ensures.value, view-Array c.push.new.self, c.in_ok-push.ensures.items)
    (ap array (items_view-push c.in-Some.items.now.items c.args.item))
