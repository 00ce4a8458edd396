-- What stands in a slot.
use Rattle.std.specs.Prelude.{◌≡◌, ◌*◌, ℕ, List}
use Rattle.gatelog.specs.Record.{part}
use Rattle.gatelog.specs.Log.{IsOpen}
use Rattle.roots.specs.declared.root.Slot.{Slot}
use Rattle.roots.specs.declared.root.Root.{Root}
use Rattle.roots.specs.declared.slots.Standing.{Standing}
use Rattle.roots.specs.declared.slots.Standing.TheVariants.{Closed, Unspelled, Open}
use Rattle.roots.specs.Root.{root_sector, gate_sector, IsRoot, IsOpenRoot}

-- a slot's gate is closed, or open with a root or with none
abbrev pub StandsIn : Slot → List ℕ → Standing → Type 0
StandsIn slot content Closed = IsOpen (gate_sector slot) content → ⊥
StandsIn slot content Unspelled = IsOpen (gate_sector slot) content × ((root : Root) → IsRoot root (part (512 * root_sector slot) 512 content) → ⊥)
StandsIn slot content (Open root) = (root.slot ≡ slot) × IsOpenRoot content root
