-- What the objects of a store show, over those that lie in pages.
use Rattle.std.specs.Prelude.{List}
use Rattle.device.specs.Disk.{Disk}
use Rattle.pages.specs.Page.{Entry}
use Rattle.roots.specs.declared.root.Root.{Root}
use Rattle.names.specs.Key.{Key}
use Rattle.histories.specs.declared.stored.Stored.{Stored}
use Rattle.histories.specs.View as seen
use Rattle.holdings.specs.Holdings as holdings
use Rattle.snapshots.specs.ObjectCache as cache
use Rattle.decoded.specs.Decoded.{Decoded}
use Rattle.decoded.specs.Shown.{ShowsOver}
use Rattle.decoded.specs.Standing.{View}
use Rattle.paged.specs.declared.state.Paged.{Paged}
use Rattle.paged.specs.Lying.{LiesBelow}

-- the root whose pages it has
abbrev pub root_of : Paged → Root
root_of p = cache.root_of p.cache

-- these objects lie in its pages
abbrev pub Below : {D : Type 0} → (disk : Disk D) → D → Paged → List (Key × Stored Decoded) → Type 0
Below disk device p base = LiesBelow disk device p.cache base

-- its pages hold these entries, whatever they are of
abbrev pub HasEntries : {D : Type 0} → (disk : Disk D) → D → Paged → List Entry → Type 0
HasEntries disk device p entries = cache.HasEntries disk device p.cache entries

-- It holds this, over what lies in its pages.
pub record Holds {D : Type 0} (disk : Disk D) (device : D) (p : Paged) (held : seen.View Decoded) : Type 0 where
  pub base : List (Key × Stored Decoded)
  pub below : Below disk device p base
  pub shows : holdings.Shows p.core base held

-- It shows this view.
pub record IsShown {D : Type 0} (disk : Disk D) (device : D) (p : Paged) (v : View) : Type 0 where
  pub base : List (Key × Stored Decoded)
  pub below : Below disk device p base
  pub shows : ShowsOver p.core base v
