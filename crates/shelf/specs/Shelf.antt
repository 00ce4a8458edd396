-- What the pages of a shelf hold on a device, and what of them lies in memory.
use Rattle.std.specs.Prelude.{◌≡◌, ◌<◌, ℕ, List, [], get_or, nat_eq, Contains, Option, None, IsSome, IfSome}
use Rattle.std.specs.FinMap.{find}
use Rattle.std.specs.Map.{lookup}
use Rattle.std.specs.Option.{option_map_or}
use Rattle.device.specs.Disk.{Disk}
use Rattle.pages.specs.Page.{Entry, bytes_cmp}
use Rattle.roots.specs.declared.root.Root.{Root}
use Rattle.checkpoint.specs.Pages.{pages_of_root, joined, AreSound, IsIndex}
use Rattle.checkpoint.specs.Index.{keys_of}
use Rattle.shelf.specs.declared.shelf.Shelf.{Shelf}

-- the root whose pages it has
abbrev pub root_of : Shelf → Root
root_of shelf = shelf.root

-- the first keys of its pages
abbrev pub firsts_of : Shelf → List (List ℕ)
firsts_of shelf = keys_of shelf.first_keys.items

-- The page with this number lies in memory.
abbrev pub Has : Shelf → ℕ → Type 0
Has shelf page = IsSome (lookup (nat_eq page) shelf.cache.entries)

-- its pages, as they stand on a device
abbrev pub pages_of : {D : Type 0} → Disk D → D → Shelf → List (List Entry)
pages_of disk device shelf = pages_of_root (root_of shelf) (disk.content device)

-- The device keeps the disk model, the pages on it are sound, and those in memory are as they stand there.
pub record IsHeld {D : Type 0} (disk : Disk D) (device : D) (shelf : Shelf) : Type 0 where
  pub keeps : disk.keeps device
  pub sound : AreSound (root_of shelf).first_sector (root_of shelf).pages (disk.content device)
  pub cached : (number : ℕ) (page : List Entry) → Contains shelf.cache.entries (number, page) → page ≡ get_or (pages_of disk device shelf) number []

-- The pages of the shelf hold these entries on the device. Where it has no pages, nothing is asked of the device.
pub record Shelves {D : Type 0} (disk : Disk D) (device : D) (shelf : Shelf) (entries : List Entry) : Type 0 where
  pub index : IsIndex (firsts_of shelf) (pages_of disk device shelf)
  pub held : 0 < (root_of shelf).pages → IsHeld disk device shelf
  pub are : joined (pages_of disk device shelf) ≡ entries

-- A page lies in memory that has under the key what all pages have which begin with the shelf's first keys; or none, where none of these has it.
pub record IsBrought (shelf : Shelf) (key : List ℕ) (place : Option ℕ) : Type 0 where
  pub there : IfSome place (λ page. (page < (root_of shelf).pages) × Has shelf page)
  pub found : (pages : List (List Entry)) → IsIndex (firsts_of shelf) pages
      → find bytes_cmp key (joined pages) ≡ option_map_or (λ page. find bytes_cmp key (get_or pages page [])) place None
