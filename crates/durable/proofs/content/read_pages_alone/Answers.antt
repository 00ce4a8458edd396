use Rattle.std.proofs.Common.{◌∙◌, sym, subst}
use Rattle.decoded.specs.Standing.{with_plans}
use Rattle.histories.specs.View.{view}
use Rattle.durable.specs.Opened.{IsDamageBehind}
use Rattle.durable.proofs.Bases.{base_held, base_entries}
use Rattle.durable.proofs.FoundFaults.{damage_same, behind_pages}
use Rattle.durable.proofs.content.read_pages_alone.Goals.{in-Ok, in-Err}
use Rattle.durable.proofs.content.read_pages_alone.Goals as goal

pub returns-clause-behind : goal.returns-clause-behind
returns-clause-behind g c keeps behind damage told =
    let content = g.D.Device.disk.content c.args.device.now in
    let root = c.args.root.now in
    elim c.match-read.branch [
      | in-Ok w ↦ subst (IsDamageBehind content root) (damage_same (sym w.result-is ∙ told)) behind
      | in-Err w ↦ behind_pages content root c.read.result w.in-Err.fault w.in-Err.is
          (λ is rules base history holds.
          c.read.ensures.damaged keeps is (with_plans (view rules base)) (base_held rules content root base history holds c.rules.result c.rules.ensures)
          (base_entries rules content root base history holds) holds.revision)
          damage (sym w.from.ensures ∙ sym w.result-is ∙ told)
    ]
