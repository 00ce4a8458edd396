use Rattle.std.proofs.Common.{refl}
use Rattle.roots.specs.declared.root.Root.{Root}
use Rattle.roots.specs.declared.root.Slot.TheVariants.{A}
use Rattle.roots.specs.NewStore.{new_content, first_label}
use Rattle.roots.proofs.NewStore.{new_content-root, new_content-log}
use Rattle.durable.proofs.Beginning.{stands_new}
use Rattle.durable.proofs.laws.new_store_is_empty.Goals as goal

pub returns : goal.returns
returns c format =
    let root : Root = record { slot = A; generation = 1; first_sector = 8; pages = 0; label = first_label format } in
    stands_new (new_content format) root (new_content-root format root refl refl refl refl refl) refl refl refl (new_content-log format)
