-- The bytes of a page to which cells are added.
use Rattle.std.specs.Prelude.{◌≡◌, ◌<◌, ◌≤◌, ◌+◌, ◌*◌, ℕ, List}
use Rattle.pages.specs.Page.{number_at, count, cell_end, IsSlot, HasMark, HasCells, HasFreeZeros}

-- All that makes a page sound, but for the order of its keys, and there may be no cell.
pub record IsBuilt (bytes : List ℕ) : Type 0 where
  pub mark : HasMark bytes
  pub zeros : number_at 6 bytes ≡ 0
  pub each : (i : ℕ) → i < count bytes → IsSlot bytes i
  pub room : 8 + 4 * count bytes ≤ cell_end (count bytes) bytes
  pub cells : HasCells bytes
  pub free : HasFreeZeros bytes
