-- A disk as the code above it sees it: what reads give, what a crash may leave, and when.
use Rattle.std.specs.Prelude.{◌≡◌, ◌<◌, ◌≤◌, ◌-◌, ◌^◌, ◌⊎◌, ℕ, List, Result, IsOk, IsErr}

-- What is known of a disk whose state is a D. Contents are lists of bytes.
pub record Disk (D : Type 0) : Type 1 where
  -- what reads give
  pub content : D → List ℕ
  -- what a crash at this moment may leave
  pub left : D → List ℕ → Type 0
  -- this moment, as a number that does not fall
  pub moment : D → ℕ
  -- what a crash at some moment since that one, also inside a call, may have left
  pub since : D → ℕ → List ℕ → Type 0
  -- how often the disk has failed
  pub failures : D → ℕ
  -- the disk keeps the disk model: each fact about contents stands under this one
  pub keeps : D → Type 0

-- A crash at any moment since old leaves a content that has P.
pub record LeavesOnly {D : Type 0} (disk : Disk D) (old new : D) (P : List ℕ → Type 0) : Type 0 where
  pub later : disk.moment old ≤ disk.moment new
  pub each : (c : List ℕ) → disk.since new (disk.moment old) c → P c
  -- for a run that began earlier
  pub before : (t : ℕ) (c : List ℕ) → t ≤ disk.moment old → disk.since new t c → disk.since old t c ⊎ P c

-- A crash leaves this content and no other.
abbrev pub Only : List ℕ → (List ℕ → Type 0) → Type 0
Only content outcomes = (c : List ℕ) → outcomes c → c ≡ content

-- The disk failed between old and new, or has failed as often as it can count.
abbrev pub HasFailed : {D : Type 0} → Disk D → D → D → Type 0
HasFailed disk old new = (disk.failures old < disk.failures new) ⊎ (disk.failures new ≡ 2 ^ 64 - 1)

-- An error is answered only where the disk failed, and where none is, it did not.
pub record HasCause {D T E : Type 0} (disk : Disk D) (old new : D) (result : Result T E) : Type 0 where
  pub later : disk.failures old ≤ disk.failures new
  pub failed : IsErr result → HasFailed disk old new
  pub well : IsOk result → disk.failures new ≡ disk.failures old
