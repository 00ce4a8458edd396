use Rattle.roots.specs.declared.root.Root.{Root}
use Rattle.chunks.specs.Chunks.{cut}
use Rattle.snapshots.specs.Keeping.{held_entries}
use Rattle.paged.proofs.Lying.{wholes_of, lying}
use Rattle.paged.proofs.state.Paged.start_over.Goals as goal

pub returns-clause-below : goal.returns-clause-below
returns-clause-below g c rules held is index keeps holds =
    let disk = g.D.Device.disk in
    let device = c.args.device.now in
    let cache = c.start_over.new.self in
    let root : Root = c.args.root in
    let shelves = c.start_over.ensures.shelves (cut root.label.format (held_entries held)) index keeps holds.pages in
    lying disk device cache rules held is c.start_over.ensures.found
    (wholes_of disk device cache.shelf root (held_entries held) c.start_over.ensures.root holds.can shelves)
