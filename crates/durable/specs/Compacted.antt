-- What is told of a store as a whole, and what its next generation keeps.
use Rattle.std.specs.Prelude.{◌≡◌, length}
use Rattle.names.specs.declared.format.Rules.{Rules}
use Rattle.roots.specs.declared.root.Label.{Label}
use Rattle.roots.specs.declared.root.Root.{Root}
use Rattle.checkpoint.specs.EntryList.{entries_of as in_list}
use Rattle.chunks.specs.Chunks.{cut}
use Rattle.histories.specs.View.{View, view}
use Rattle.snapshots.specs.Keeping.{entries_of}
use Rattle.holdings.specs.Holdings.{State}
use Rattle.decoded.specs.Decoded.{Decoded}
use Rattle.decoded.specs.Standing.{History, IsHistory}
use Rattle.paged.specs.declared.compacting.NextCheckpoint.{NextCheckpoint}
use Rattle.durable.specs.Rules.{rules_by}
use Rattle.durable.specs.declared.compacted.Compacted.{Compacted}
use Rattle.durable.specs.declared.compacted.Checked.{Checked}

-- This is told of the generation of a root.
pub record IsToldOf (root : Root) (c : Compacted) : Type 0 where
  pub generation : c.generation ≡ root.generation
  pub pages : c.pages ≡ root.pages
  pub first_sector : c.first_sector ≡ root.first_sector

-- This is told of a store that holds a view, with or without what stands beside its objects, in the generation of a root.
pub record IsCheckOf {B : Type 0} (root : Root) (held : View B) (c : Checked) : Type 0 where
  pub revision : c.revision ≡ held.revision
  pub objects : c.objects ≡ length held.objects
  pub generation : c.generation ≡ root.generation
  pub format : c.format ≡ root.label.format

-- the label of the root over whose pages this is held
abbrev pub label_of : State Decoded → Label
label_of core = record { format = core.rules.format; revision = core.revision; floor = core.rules.floor }

-- The next generation keeps this history, by the rules of the format and of the floor that its root is to tell. Its entries are as that format has them.
pub record Keeps (next : NextCheckpoint) (rules : Rules) (h : History) : Type 0 where
  pub numbers : rules ≡ rules_by (label_of next.core)
  pub history : IsHistory rules h
  pub revision : next.core.revision ≡ (view rules h).revision
  pub entries : in_list next.entries ≡ cut rules.format (entries_of (view rules h))
