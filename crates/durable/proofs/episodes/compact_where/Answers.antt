use Rattle.std.proofs.Common.{sym, ap, subst}
use Rattle.device.specs.declared.memory.MemDevice.{MemDevice}
use Rattle.device.specs.Memory.{memory_disk}
use Rattle.durable.specs.Ready.{HoldsHistory}
use Rattle.durable.specs.Settled.{device_of}
use Rattle.durable.proofs.Answering.{held}
use Rattle.durable.proofs.Driving.{compacted_holds}
use Rattle.durable.proofs.episodes.compact_where.Goals as goal
use Rattle.durable.proofs.episodes.compact_where.Goals.{else-is_asked-via-then-is_asked+else-is_memory, else-is_asked-via-else-is_asked}

pub returns-then-is_memory-clause-held : goal.returns-then-is_memory-clause-held
returns-then-is_memory-clause-held c rules h settled =
    let ends = c.compact.ensures in
    compacted_holds rules c.args.store.now c.compact.new.self h c.compact.result settled (ends.settled rules h settled) (ends.device rules h settled)
    (λ is. (ends.memory rules h settled is).0) (λ damage is. ends.damaged damage is rules h settled) ends.failed_only

pub returns-clause-held : goal.returns-clause-held
returns-clause-held c rules h settled =
    let Holds : MemDevice → Type 0 = λ device. HoldsHistory rules memory_disk device h in
    elim c.else-is_asked.branch [
      | else-is_asked-via-then-is_asked+else-is_memory w ↦
          let ends = w.compact.ensures in
          subst Holds (sym (ap device_of w.store-is))
          (compacted_holds rules c.args.store.now w.compact.new.self h w.compact.result settled (ends.settled rules h settled) (ends.device rules h settled)
          (λ is. (ends.memory rules h settled is).0) (λ damage is. ends.damaged damage is rules h settled) ends.failed_only)
      | else-is_asked-via-else-is_asked w ↦ subst Holds (sym (ap device_of w.store-is)) (held rules c.args.store.now h settled)
    ]
