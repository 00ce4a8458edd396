use Rattle.std.proofs.Common.{◌≡◌, map, drop}
use Rattle.serde_json.specs.View.{items_view}
use Rattle.policy.specs.Forms.{each}
use Rattle.policy.specs.Forms.{after}
use Rattle.policy.proofs.form.each.Given as goal

-- what was read, and then what is left
abbrev pub invariant-loop-item : goal.invariant-loop-item
invariant-loop-item g l =
    each g.F.Form.form_of (items_view l.items.items) ≡ after (map g.F.Form.seen l.read.items) (each g.F.Form.form_of (items_view (drop l.item-index l.items.items)))
