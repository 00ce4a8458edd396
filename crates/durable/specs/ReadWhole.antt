-- What is read of pages and a log that are whole, and what a check that answers has found there.
use Rattle.std.specs.Prelude.{ℕ, List}
use Rattle.std.specs.List.{AllByRecursion}
use Rattle.device.specs.Disk.{Disk}
use Rattle.pages.specs.Page.{Entry}
use Rattle.roots.specs.declared.root.Root.{Root}
use Rattle.gatelog.specs.Log.{HoldsLog}
use Rattle.roots.specs.Root.{HoldsRoot, log_sector}
use Rattle.checkpoint.specs.Pages.{joined, pages_of_root, HoldsPages}
use Rattle.snapshots.specs.ObjectCache.{AreObjects}
use Rattle.recovery.specs.Known.{IsOfGroup}
use Rattle.paged.specs.declared.state.Paged.{Paged}
use Rattle.paged.specs.Chosen.{HasHeldEntries}
use Rattle.paged.specs.Paged.{HasEntries, root_of}
use Rattle.durable.specs.Rules.{rules_at}

-- the entries in the pages of a root
abbrev pub entries_under : Root → (content : List ℕ) → List Entry
entries_under root content = joined (pages_of_root root content)

-- The log at a sector has records, each of one group of well-formed writes.
pub record HoldsGroups (at : ℕ) (content : List ℕ) : Type 0 where
  pub payloads : List (List ℕ)
  pub last : ℕ
  pub log : HoldsLog at payloads last content
  pub groups : AllByRecursion IsOfGroup payloads

-- What is read is that of the root that counts: its pages are whole, and hold the entries that are read on the device, whatever the objects among them are;
-- the policies, the bindings, the plans and the events among them are those of a view that may be held; the log behind them has groups of writes.
pub record IsReadWhole {D : Type 0} (content : List ℕ) (disk : Disk D) (device : D) (p : Paged) : Type 0 where
  pub counts : HoldsRoot content (root_of p)
  pub pages : HoldsPages content (root_of p)
  pub entries : HasEntries disk device p (entries_under (root_of p) content)
  pub kept : HasHeldEntries (rules_at (root_of p)) (root_of p).label (entries_under (root_of p) content)
  pub log : HoldsGroups (log_sector (root_of p)) content

-- The pages of the root that counts are whole, and hold entries as its format has them. Each of these that has an object's key is that of an object, and each
-- other one that of plans or of an event. Each record of the log behind them is that of a group of well-formed writes.
pub record HoldsWellFormed (content : List ℕ) : Type 0 where
  pub root : Root
  pub counts : HoldsRoot content root
  pub pages : HoldsPages content root
  pub objects : AreObjects root.label.format (entries_under root content)
  pub kept : HasHeldEntries (rules_at root) root.label (entries_under root content)
  pub log : HoldsGroups (log_sector root) content
