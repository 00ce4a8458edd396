-- What is told of a store as a whole, by what it is settled at.
use Rattle.std.proofs.Common.{◌≡◌, ◌∙◌}
use Rattle.std.proofs.lemmas.List.{length-map}
use Rattle.device.specs.declared.device.Device.{Ghosts}
use Rattle.names.specs.declared.format.Rules.{Rules}
use Rattle.histories.specs.View as seen
use Rattle.histories.specs.View.{view}
use Rattle.decoded.specs.Decoded.{Decoded}
use Rattle.decoded.specs.Standing.{History, with_plans}
use Rattle.durable.specs.declared.compacted.Checked.{Checked}
use Rattle.durable.specs.declared.store.Store.{Store}
use Rattle.durable.specs.Compacted.{IsCheckOf}
use Rattle.durable.specs.Settled.{root_of, Holds, IsSettledAt}
use Rattle.durable.proofs.Answering.{holds_shown}

-- what is told of what it holds is told of its history's view
pub checked_settled : {D : Type 0} {g : Ghosts D} (store : Store D g) (rules : Rules) (h : History) (settled : IsSettledAt rules store h) (c : Checked)
    → ((held : seen.View Decoded) → Holds store held → IsCheckOf (root_of store) held c) → c.generation ≡ settled.read.root.generation → c.format ≡ settled.read.root.label.format
    → IsCheckOf settled.read.root (view rules h) c
checked_settled store rules h settled c told counted format =
    let all = told (with_plans (view rules h)) (holds_shown store (view rules h) settled.shows) in
    record {
      revision = all.revision;
      objects = all.objects ∙ length-map (view rules h).objects _;
      generation = counted;
      format = format;
    }
