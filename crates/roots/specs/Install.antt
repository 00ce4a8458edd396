-- How one generation of a store gives way to the next.
use Rattle.std.specs.Prelude.{◌≡◌, ◌<◌, ◌≤◌, ◌+◌, ◌*◌, ◌⊎◌, ◌++◌, ℕ, List, length, take, replicate, slice_index}
use Rattle.device.specs.Disk.{Disk}
use Rattle.device.specs.Run.{Stands}
use Rattle.gatelog.specs.Log.{IsOpen}
use Rattle.gatelog.specs.Record.{Agree}
use Rattle.roots.specs.declared.root.Slot.{Slot}
use Rattle.roots.specs.declared.root.Root.{Root}
use Rattle.roots.specs.Root.{root_sector, gate_sector, other, log_sector, HoldsRoot}

-- These bytes stand at an offset.
pub record HasAt (at : ℕ) (bytes content : List ℕ) : Type 0 where
  pub inside : at + length bytes ≤ length content
  pub each : (k : ℕ) → k < length bytes → slice_index content (at + k) ≡ slice_index bytes k

-- Where a generation of this many pages begins, while another is in use that begins at `start` and whose log ends with the gate `last`:
-- at sector 8 where the pages and one gate fit before that one, and else behind its log.
pub record IsPlace (start last pages place : ℕ) : Type 0 where
  pub front : 8 + 64 * pages + 1 ≤ start → place ≡ 8
  pub behind : start < 8 + 64 * pages + 1 → place ≡ last + 1

-- The next root: in the other slot, and of the next generation, whose pages and first gate lie off those sectors that are in use.
pub record IsNext (current : Root) (last : ℕ) (next : Root) : Type 0 where
  pub slot : next.slot ≡ other current.slot
  pub generation : next.generation ≡ current.generation + 1
  pub in_data : 8 ≤ next.first_sector
  pub off : (log_sector next + 1 ≤ current.first_sector) ⊎ (last + 1 ≤ next.first_sector)

-- The generation of this root is in use on a device, up to the gate `last`: the root counts, and that gate lies behind its pages, and
-- inside. Each content that a crash may leave is what reads give, up to the end of that gate.
pub record IsInUse {D : Type 0} (disk : Disk D) (device : D) (root : Root) (last : ℕ) : Type 0 where
  pub holds : HoldsRoot (disk.content device) root
  pub behind : log_sector root ≤ last
  pub inside : 512 * last + 512 ≤ length (disk.content device)
  pub durable : (c : List ℕ) → disk.left device c → take (512 * last + 512) c ≡ take (512 * last + 512) (disk.content device)

-- The old root counts, and its generation is as it was, from its first page to the end of the gate `last`.
pub record IsBefore (current : Root) (last : ℕ) (old c : List ℕ) : Type 0 where
  pub holds : HoldsRoot c current
  pub in_use : Agree (512 * current.first_sector) (512 * last + 512) old c
  pub reaches : 512 * last + 512 ≤ length c

-- That, and the gate of the other slot is closed.
pub record IsClear (current : Root) (last : ℕ) (old c : List ℕ) : Type 0 where
  pub before : IsBefore current last old c
  pub closed : IsOpen (gate_sector (other current.slot)) c → ⊥

-- The new root counts, and this is its generation.
pub record IsAfter (next : Root) (body c : List ℕ) : Type 0 where
  pub holds : HoldsRoot c next
  pub pages : HasAt (512 * next.first_sector) body c

-- The old generation counts, or the new one.
abbrev pub IsBeforeOrAfter : Root → ℕ → Root → List ℕ → List ℕ → List ℕ → Type 0
IsBeforeOrAfter current last next body old c = IsBefore current last old c ⊎ IsAfter next body c

-- The bytes of a generation whose log is empty: its pages, and a closed gate.
abbrev pub generation : List ℕ → List ℕ
generation pages = pages ++ replicate 512 0

-- The pages of a next root are written: since `start` a crash left the old generation at every moment, and left it with the other slot's
-- gate closed now; what reads give has the pages in their place.
pub record IsStaged {D : Type 0} (disk : Disk D) (start device : D) (current : Root) (last : ℕ) (old : List ℕ) (next : Root) (pages : List ℕ) : Type 0 where
  pub follows : IsNext current last next
  pub stands : Stands disk start device (IsBefore current last old) (IsClear current last old)
  pub size : length pages ≡ 32768 * next.pages
  pub there : HasAt (512 * next.first_sector) pages (disk.content device)

-- What the writing of a root and of its generation leaves: all but the root's sector, and this many bytes from an offset on.
pub record Spares (slot : Slot) (first size : ℕ) (old new : List ℕ) : Type 0 where
  pub apart : (k : ℕ) → (k < 512 * root_sector slot) ⊎ (512 * root_sector slot + 512 ≤ k) → (k < first) ⊎ (first + size ≤ k)
      → slice_index new k ≡ slice_index old k
  pub no_shorter : length old ≤ length new
