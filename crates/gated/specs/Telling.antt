-- What the program tells on its output of a compaction, of an upgrade, and of a check.
use Rattle.std.specs.Prelude.{◌≡◌, ℕ, List, ◌++◌, ◌⊎◌, Option, Some, None, true, codes, decimal}
use Rattle.device.specs.Disk.{Disk}
use Rattle.names.specs.Format.{number_of}
use Rattle.damage.specs.declared.place.Place.{Place}
use Rattle.damage.specs.Place.{place_text}
use Rattle.durable.specs.declared.compacted.Checked.{Checked}
use Rattle.durable.specs.declared.compacted.Compacted.{Compacted}
use Rattle.durable.specs.declared.fault.Damage.{Damage}
use Rattle.durable.specs.declared.upgraded.Upgraded.{Upgraded}
use Rattle.gated.specs.declared.command.Verb.{Verb}
use Rattle.gated.specs.declared.command.Verb.TheVariants as verb
use Rattle.gated.specs.declared.problem.Problem.TheVariants as problem
use Rattle.gated.specs.declared.status.Status.{Status}
use Rattle.gated.specs.declared.status.Status.TheVariants as status
use Rattle.gated.specs.CommandLine.{is_check, file_of}
use Rattle.gated.specs.Doing.{MadeStore, AnsweredAll, ServedAll, WroteAnew, UpgradedStore, FoundWhole, FoundDamaged}
use Rattle.gated.specs.Problem.{text_of}

-- of a generation that was written
abbrev pub compacted_text : Compacted → List ℕ
compacted_text c = codes "generation " ++ decimal c.generation ++ codes ", " ++ decimal c.pages ++ codes " pages at sector " ++ decimal c.first_sector

-- of a store that was upgraded
abbrev pub upgraded_text : Upgraded → List ℕ
upgraded_text u =
    codes "format " ++ decimal (number_of u.format) ++ codes ", generation " ++ decimal u.generation ++ codes ", revision " ++ decimal u.revision ++ codes ", " ++ decimal u.namespaces
    ++ codes " namespaces"

-- of a store that is whole
abbrev pub checked_text : Checked → List ℕ
checked_text c =
    codes "ok: format " ++ decimal (number_of c.format) ++ codes ", revision " ++ decimal c.revision ++ codes ", objects " ++ decimal c.objects ++ codes ", generation " ++ decimal c.generation

-- of a store that is damaged, and where
abbrev pub damaged_text : Damage → Option Place → List ℕ
damaged_text damage None = text_of (problem.Damaged damage)
damaged_text damage (Some place) = text_of (problem.Damaged damage) ++ (codes "\n" ++ place_text place)

-- A line was written.
abbrev pub HasLine : {O : Type 0} (took : O → O → List ℕ → Type 0) (old new : O) → List ℕ → Type 0
HasLine took old new text = took old new (text ++ codes "\n")

module _ {S D O : Type 0} (disk : Disk D) (made opened closed : S → List ℕ → D → Type 0) (took : O → O → List ℕ → Type 0) (storage : S) (output_old output_new : O) (file : List ℕ)
    (result : Status) where
  -- Damage was found and told of, with its place in a second line where that was found, and the program ends so.
  pub record FindsDamage : Type 0 where
    pub damage : Damage
    pub told : Option Place
    pub found : FoundDamaged disk made opened closed storage file damage told
    pub lines : HasLine took output_old output_new (damaged_text damage told)
    pub status : result ≡ status.NoStore

  -- So a check ends.
  abbrev pub EndsCheck : Type 0
  EndsCheck = ((result ≡ status.Success) × (c : Checked) × FoundWhole disk made opened closed storage file c × HasLine took output_old output_new (checked_text c)) ⊎ FindsDamage

module _ {S D I O : Type 0} (disk : Disk D) (made opened closed : S → List ℕ → D → Type 0) (gave : I → I → List ℕ → Type 0) (took : O → O → List ℕ → Type 0) (ended : I → Type 0)
    (storage : S) (input_old input_new : I) (output_old output_new : O) where
  -- A verb was done: this became of the store behind its file, and this is told of it.
  abbrev pub HasDone : Verb → Type 0
  HasDone (verb.Create file format) = MadeStore disk made opened closed storage file.now format × (output_new ≡ output_old)
  HasDone (verb.Replay file) = AnsweredAll disk made opened closed storage file.now gave took (ended input_new) input_old input_new output_old output_new
  HasDone (verb.Serve file address serving idle_seconds is_logged) = ServedAll disk made opened closed storage file.now
  HasDone (verb.Compact file) = (c : Compacted) × WroteAnew disk made opened closed storage file.now c × HasLine took output_old output_new (compacted_text c)
  HasDone (verb.Upgrade file) = (u : Upgraded) × UpgradedStore disk made opened closed storage file.now u × HasLine took output_old output_new (upgraded_text u)
  HasDone (verb.Check file) = (c : Checked) × FoundWhole disk made opened closed storage file.now c × HasLine took output_old output_new (checked_text c)

  -- A verb was done, or it was that of a check that finds damage.
  abbrev pub IsDone : Verb → Status → Type 0
  IsDone v result =
      ((result ≡ status.Success) × HasDone v) ⊎ ((is_check v ≡ true) × FindsDamage disk made opened closed took storage output_old output_new (file_of v) result)
