-- The device that a file of bytes is.
use Rattle.std.specs.Prelude.{◌≡◌, ◌*◌, ◌/◌, ℕ, List, length, take}
use Rattle.device.specs.declared.sector_file.SectorFile.{SectorFile}
use Rattle.device.specs.Disk.{Disk}

-- The whole sectors of a file; a rest behind the last of them is no part of the device.
abbrev pub whole : List ℕ → List ℕ
whole bytes = take (512 * (length bytes / 512)) bytes

-- One of these contents of a file, seen as sectors.
abbrev pub Whole : (List ℕ → Type 0) → List ℕ → Type 0
Whole outcomes c = (bytes : List ℕ) × outcomes bytes × (c ≡ whole bytes)

-- A file's disk, seen as sectors.
abbrev pub sector_disk : {F : Type 0} → Disk F → Disk (SectorFile F)
sector_disk disk = record {
  content = λ d. whole (disk.content d.file);
  left = λ d. Whole (disk.left d.file);
  moment = λ d. disk.moment d.file;
  since = λ d t. Whole (disk.since d.file t);
  failures = λ d. disk.failures d.file;
  keeps = λ d. disk.keeps d.file;
}
