-- A run of calls.
use Rattle.std.specs.Prelude.{◌≤◌, ℕ, List}
use Rattle.device.specs.Disk.{Disk, LeavesOnly}
use Rattle.device.specs.Step.{Follows, After}

-- All that a run of calls may do to a disk is this one step: to what reads give, to what a crash leaves, and at every moment of the run.
pub record Ran {D : Type 0} (disk : Disk D) (old new : D) (step : List ℕ → List ℕ → Type 0) : Type 0 where
  pub kept : disk.keeps old → disk.keeps new
  pub had_kept : disk.keeps new → disk.keeps old
  pub count : disk.failures old ≤ disk.failures new
  pub seen : disk.keeps old → step (disk.content old) (disk.content new)
  pub crash : disk.keeps old → Follows step (disk.left old) (disk.left new)
  pub any_moment : disk.keeps old → LeavesOnly disk old new (After step (disk.left old))

-- At every moment since old a crash leaves what has M; what reads give at new, and what a crash leaves there, has S.
pub record Stands {D : Type 0} (disk : Disk D) (old new : D) (M S : List ℕ → Type 0) : Type 0 where
  pub kept : disk.keeps new
  pub moments : LeavesOnly disk old new M
  pub seen : S (disk.content new)
  pub crash : (c : List ℕ) → disk.left new c → S c
