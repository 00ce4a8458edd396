-- A device whose store is kept: its history stays, at every moment, and what is told of it is so.
use Rattle.std.specs.Prelude.{◌≡◌, ◌+◌, ℕ, true, List, length}
use Rattle.device.specs.Disk.{Disk, LeavesOnly}
use Rattle.names.specs.declared.format.Rules.{Rules}
use Rattle.histories.specs.View.{view}
use Rattle.roots.specs.declared.root.Root.{Root}
use Rattle.roots.specs.Root.{HoldsRoot}
use Rattle.decoded.specs.Standing.{History}
use Rattle.decoded.specs.Upgraded.{is_newest, rules_behind, upgraded_history}
use Rattle.durable.specs.declared.compacted.Checked.{Checked}
use Rattle.durable.specs.declared.compacted.Compacted.{Compacted}
use Rattle.durable.specs.declared.upgraded.Upgraded.{Upgraded}
use Rattle.durable.specs.Compacted.{IsToldOf}
use Rattle.durable.specs.Ready.{HoldsHistory}
use Rattle.durable.specs.Stands.{StandsFor}
use Rattle.durable.specs.Upgraded.{StandsForEither, IsToldOfUpgrade}

-- A reader of the device finds the history, after a crash and without one, and so did a reader after a crash at each moment since old.
pub record KeepsHistory {D : Type 0} (rules : Rules) (disk : Disk D) (old new : D) (h : History) : Type 0 where
  pub holds : HoldsHistory rules disk new h
  pub any_moment : LeavesOnly disk old new (λ c. StandsFor rules c h)

-- The root that counts is of the generation after that of another one, and of its format, and this is told of it.
pub record IsWrittenAnew (content : List ℕ) (before : Root) (c : Compacted) : Type 0 where
  pub root : Root
  pub counts : HoldsRoot content root
  pub next : root.generation ≡ before.generation + 1
  pub format : root.label.format ≡ before.label.format
  pub told : IsToldOf root c

-- A reader of the device finds the history as an upgrade leaves it, after a crash and without one. A reader after a crash at each moment since old found it so, or as
-- it was.
pub record IsUpgraded {D : Type 0} (rules : Rules) (disk : Disk D) (old new : D) (h : History) : Type 0 where
  pub holds : HoldsHistory (rules_behind rules h) disk new (upgraded_history rules h)
  pub any_moment : LeavesOnly disk old new (StandsForEither rules h)

-- A reader of the device finds the history as it was, or as an upgrade leaves it, after a crash and without one, and so did a reader after a crash at each moment
-- since old.
pub record IsEither {D : Type 0} (rules : Rules) (disk : Disk D) (old new : D) (h : History) : Type 0 where
  pub keeps : disk.keeps new
  pub read : StandsForEither rules h (disk.content new)
  pub left : (c : List ℕ) → disk.left new c → StandsForEither rules h c
  pub any_moment : LeavesOnly disk old new (StandsForEither rules h)

-- The root that counts is of the generation after that of another one, and of the newest format, and this is told of it and of an upgrade of the history.
pub record IsToldUpgraded (rules : Rules) (h : History) (content : List ℕ) (before : Root) (u : Upgraded) : Type 0 where
  pub root : Root
  pub counts : HoldsRoot content root
  pub next : root.generation ≡ before.generation + 1
  pub newest : is_newest root.label.format ≡ true
  pub told : IsToldOfUpgrade rules (view rules h) root u

-- This is told of a store that shows the view of the history, in the generation of a root.
pub record IsToldOfHistory (rules : Rules) (h : History) (root : Root) (c : Checked) : Type 0 where
  pub revision : c.revision ≡ (view rules h).revision
  pub objects : c.objects ≡ length (view rules h).objects
  pub generation : c.generation ≡ root.generation
  pub format : c.format ≡ root.label.format
