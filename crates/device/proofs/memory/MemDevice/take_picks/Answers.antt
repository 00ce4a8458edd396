use Rattle.std.proofs.Common.{◌∙◌, ◌+◌, sym, subst, ℕ}
use Rattle.device.specs.declared.memory.MemDevice.{MemDevice}
use Rattle.device.specs.Memory.{memory}
use Rattle.device.proofs.Picking.{IsPicked, IsPicked-changed, IsPicked-stays}
use Rattle.device.proofs.memory.MemDevice.take_picks.Goals as goal
use Rattle.device.proofs.memory.MemDevice.take_picks.Goals.{then-may_change, else-may_change}

pub loop-sector-preserved : goal.loop-sector-preserved
loop-sector-preserved c =
    let m = memory c.args.self.now in
    let now = memory c.loop-sector.self in
    let picks = c.args.picks.now in
    let sector = c.loop-sector.sector in
    let used = c.loop-sector.used in
    let PS : MemDevice → Type 0 = λ d. IsPicked m (memory d) picks c.if-may_change.used (sector + 1) in
    let PU : MemDevice → ℕ → Type 0 = λ d n. IsPicked m (memory d) picks n (sector + 1) in
    elim c.if-may_change.branch [
      | then-may_change w ↦
          let next = memory w.take_pick.new.self in
          let stepped : PU w.take_pick.new.self (used + 1) = IsPicked-changed m now next picks used sector w.pick_at.result c.loop-sector.invariant
          (sym c.may_change.ensures ∙ w.if-may_change.true) w.pick_at.ensures w.take_pick.ensures.inside w.take_pick.ensures.outside w.take_pick.ensures.others in
          subst PS (sym w.self-is) (subst (PU w.take_pick.new.self) (sym w.used-is) stepped)
      | else-may_change w ↦
          let stepped : PU c.loop-sector.self used = IsPicked-stays m now picks used sector c.loop-sector.invariant (sym c.may_change.ensures ∙ w.if-may_change.false) in
          subst PS (sym w.self-is) (subst (PU c.loop-sector.self) (sym w.used-is) stepped)
    ]
