-- What a crash may leave of a file in memory.
use Rattle.std.specs.Prelude.{◌≡◌, ℕ, ◌⊎◌, List, [], ◌∷◌}
use Rattle.device.specs.Disk.{Disk}
use Rattle.device.specs.Step.{Torn, Cut, After}
use Rattle.diskmodels.specs.declared.memory_file.Change.{Change}
use Rattle.diskmodels.specs.declared.memory_file.Change.TheVariants.{Written, Shortened}
use Rattle.diskmodels.specs.declared.memory_file.MemoryFile.{MemoryFile}

-- what a change does to what a crash may leave, perhaps in part
abbrev pub step_of : Change → List ℕ → List ℕ → Type 0
step_of (Written offset count) = Torn offset count
step_of (Shortened size) = Cut size

-- One of these contents after these changes, in order, of each of which some part is done.
abbrev pub LeftOf : (List ℕ → Type 0) → List Change → List ℕ → Type 0
LeftOf P [] = P
LeftOf P (change ∷ changes) = LeftOf (After (step_of change) P) changes

-- The disk that a file in memory is: a crash leaves what reads give, or what the last sync left with some part of each change since then.
-- All its moments are one: what a crash may leave after a call bounds what it might have left within it.
abbrev pub memory_file_disk : Disk MemoryFile
memory_file_disk = record {
  content = λ f. f.current.items;
  left = λ f c. (c ≡ f.current.items) ⊎ LeftOf (λ s. s ≡ f.synced.items) f.unsynced.items c;
  moment = λ f. 0;
  since = λ f t c. (c ≡ f.current.items) ⊎ LeftOf (λ s. s ≡ f.synced.items) f.unsynced.items c;
  failures = λ f. f.failures;
  keeps = λ f. Unit {0};
}
