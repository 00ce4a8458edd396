-- A device whose progress is shown, and what is shown.
use Rattle.std.specs.Prelude.{◌≡◌, ◌/◌, ℕ, List, ◌++◌, Option, None, Some, codes, decimal}
use Rattle.device.specs.Disk.{Disk}
use Rattle.httpmsg.specs.Flow.{TookSome}
use Rattle.gated.specs.declared.progress.Watched.{Watched}

-- the device inside
abbrev pub watched_disk : {D P : Type 0} → Disk D → Disk (Watched D P)
watched_disk disk = record {
  content = λ w. disk.content w.device;
  left = λ w. disk.left w.device;
  moment = λ w. disk.moment w.device;
  since = λ w. disk.since w.device;
  failures = λ w. disk.failures w.device;
  keeps = λ w. disk.keeps w.device;
}

-- the line, from its begin on, of this many bytes; a megabyte has 1,000,000
abbrev pub progress_text : ℕ → ℕ → List ℕ
progress_text read written = codes "\rgated: " ++ decimal (read / 1000000) ++ codes " MB read, " ++ decimal (written / 1000000) ++ codes " MB written"

-- Some of the text was shown, perhaps all or nothing; nothing where there is no output.
abbrev pub Shows : {P : Type 0} (took : P → P → List ℕ → Type 0) → Option P → Option P → List ℕ → Type 0
Shows took None new text = new ≡ None
Shows took (Some old) new text = (p : _) × (new ≡ Some p) × TookSome took old p text
