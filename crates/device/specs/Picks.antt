-- What a crash leaves of a row of sectors held in memory.
use Rattle.std.specs.Prelude.{◌≡◌, ◌<◌, ◌≤◌, ◌+◌, ◌*◌, ◌/◌, ◌%◌, ◌||◌, ℕ, zero, suc, List, Bool, false, length, slice_index, slice_index_or, nat_le, Option, Some, None, if◌then◌else◌}
use Rattle.device.specs.declared.memory.Pick.{Pick}
use Rattle.device.specs.declared.memory.Pick.TheVariants.{Old, New, Fill}

-- A sector may change in a crash if it was written since the last sync, or lies at or past the least length since then.
abbrev pub may_change : List Bool → ℕ → ℕ → Bool
may_change unsynced least sector = slice_index_or unsynced sector false || nat_le least sector

-- The number of sectors below this one that may change.
abbrev pub changing_below : List Bool → ℕ → ℕ → ℕ
changing_below unsynced least zero = 0
changing_below unsynced least (suc sector) = changing_below unsynced least sector + (if may_change unsynced least sector then 1 else 0)

-- The byte that a pick gives, of what the last sync left and what a write gave last; without a pick zero.
abbrev pub picked : Option Pick → ℕ → ℕ → ℕ
picked (Some Old) synced latest = synced
picked (Some New) synced latest = latest
picked (Some (Fill byte)) synced latest = byte
picked None synced latest = 0

-- A content that a crash may leave, by the disk model: a length from the least to the greatest since the last sync, in sectors, and any bytes in the sectors that may change.
pub record MayBeLeft (content : List ℕ) (unsynced : List Bool) (least greatest : ℕ) (c : List ℕ) : Type 0 where
  pub whole : length c % 512 ≡ 0
  pub no_shorter : 512 * least ≤ length c
  pub no_longer : length c ≤ 512 * greatest
  pub same : (k : ℕ) → k < 512 * least → slice_index_or unsynced (k / 512) false ≡ false → slice_index c k ≡ slice_index content k
