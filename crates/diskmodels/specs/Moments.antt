-- A device that remembers each moment.
use Rattle.std.specs.Prelude.{◌≡◌, ℕ, zero, suc, ◌⊎◌, List, [], ◌∷◌, map, length}
use Rattle.device.specs.Disk.{Disk}
use Rattle.diskmodels.specs.declared.recorded.Past.{Past}
use Rattle.diskmodels.specs.declared.recorded.Recorded.{Recorded}

-- what reads give, and what the last sync left
pub record Moment : Type 0 where
  pub now : List ℕ
  pub synced : List ℕ

abbrev pub moment_of : Past → Moment
moment_of p = record { now = p.current.items; synced = p.synced.items }

abbrev pub present : Recorded → Moment
present d = record { now = d.current.items; synced = d.synced.items }

abbrev pub past : Recorded → List Moment
past d = map moment_of d.past.items

-- A crash at a moment takes all that was written since the last sync, or nothing of it.
abbrev pub IsLeft : Moment → List ℕ → Type 0
IsLeft m c = (c ≡ m.now) ⊎ (c ≡ m.synced)

-- A crash at one of these moments, from this one on, may have left it.
abbrev pub WasLeft : List Moment → ℕ → List ℕ → Type 0
WasLeft [] t c = ⊥
WasLeft (m ∷ ms) zero c = IsLeft m c ⊎ WasLeft ms zero c
WasLeft (m ∷ ms) (suc t) c = WasLeft ms t c

abbrev pub recorded_disk : Disk Recorded
recorded_disk = record {
  content = λ d. (present d).now;
  left = λ d. IsLeft (present d);
  moment = λ d. length (past d);
  since = λ d t c. IsLeft (present d) c ⊎ WasLeft (past d) t c;
  failures = λ d. d.failures;
  keeps = λ d. Unit {0};
}
