-- What a server tells on standard error of the store that it opened.
use Rattle.std.specs.Prelude.{◌≡◌, ◌⊎◌, ℕ, ◌/◌, ◌%◌, List, ◌++◌, codes, decimal, length}
use Rattle.names.specs.Format.{number_of}
use Rattle.device.specs.declared.device.Device.{Ghosts}
use Rattle.histories.specs.View as seen
use Rattle.decoded.specs.Decoded.{Decoded}
use Rattle.durable.specs.declared.store.Store.{Store}
use Rattle.durable.specs.Settled.{kept_rules, log_of, revision_of, Holds}
use Rattle.gated.specs.declared.command.Verb.{Verb}
use Rattle.gated.specs.declared.opening.Found.{Found}
use Rattle.gated.specs.declared.command.Verb.TheVariants as verb
use Rattle.gated.specs.Problem.{TellsAll}

-- nanoseconds, told in seconds with two places behind the point
abbrev pub seconds_shown : ℕ → List ℕ
seconds_shown nanoseconds =
    decimal (nanoseconds / 1_000_000_000) ++ (codes "." ++ (decimal (nanoseconds / 100_000_000 % 10) ++ decimal (nanoseconds / 10_000_000 % 10)))

-- what was found in the file, as it is told
abbrev pub found_shown : Found → List ℕ
found_shown found =
    codes "format " ++ (decimal (number_of found.format) ++ (codes ", revision " ++ (decimal found.revision
    ++ (codes ", objects " ++ (decimal found.objects ++ (codes ", records " ++ decimal found.records))))))

-- That was found in a store: its format, its revision, how many objects it holds, and how many records its log has.
pub record IsFoundIn {D : Type 0} {g : Ghosts D} (store : Store D g) (found : Found) : Type 0 where
  pub format : found.format ≡ (kept_rules store).format
  pub revision : found.revision ≡ revision_of store
  pub objects : (held : seen.View Decoded) → Holds store held → found.objects ≡ length held.objects
  pub records : found.records ≡ (log_of store).record_count

-- The line of a store that was read in this time: the version, the file, what was found there, and the seconds.
abbrev pub opened_line : (file : List ℕ) → Found → (nanoseconds : ℕ) → List ℕ
opened_line file found nanoseconds =
    codes "gated: 0.30.0, " ++ (file ++ (codes ": " ++ (found_shown found ++ (codes ", read in " ++ (seconds_shown nanoseconds ++ codes " s\n")))))

module _ {E : Type 0} (took : E → E → List ℕ → Type 0) (failures : E → ℕ) (old new : E) where
  -- It was told of a store in this file.
  pub record TellsOpened (file : List ℕ) : Type 0 where
    pub found : Found
    pub nanoseconds : ℕ
    pub line : TellsAll took failures old new (opened_line file found nanoseconds)

  -- What a verb that was done tells: a server that line, and no other verb anything.
  abbrev pub TellsDone : Verb → Type 0
  TellsDone (verb.Create file format) = new ≡ old
  TellsDone (verb.Replay file) = new ≡ old
  TellsDone (verb.Serve file address serving idle_seconds is_logged) = TellsOpened file.now
  TellsDone (verb.Compact file) = new ≡ old
  TellsDone (verb.Upgrade file) = new ≡ old
  TellsDone (verb.Check file) = new ≡ old

  -- What a verb that was not done tells before its problem: a server perhaps that line.
  abbrev pub MayTell : Verb → Type 0
  MayTell v = (new ≡ old) ⊎ TellsDone v

-- A verb that was not done tells this, and then what is said of the rest.
abbrev pub TellsFailed : {E : Type 0} (took : E → E → List ℕ → Type 0) (failures : E → ℕ) (old new : E) → Verb → (E → Type 0) → Type 0
TellsFailed {E = E} took failures old new v Then = (mid : E) × MayTell took failures old mid v × Then mid
