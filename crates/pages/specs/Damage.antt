-- What is wrong with bytes that are no page.
use Rattle.std.specs.Prelude.{ℕ, List, codes}
use Rattle.pages.specs.Page.{HasMark, HasSlots, HasCells, HasOrder, HasFreeZeros}
use Rattle.pages.specs.declared.damage.PageDamage.{PageDamage}
use Rattle.pages.specs.declared.damage.PageDamage.TheVariants.{Mark, Slots, Cells, Order, FreeBytes}

-- The damage is the first of the five: what is asked before it holds, and this does not.
abbrev pub IsFirstDamage : List ℕ → PageDamage → Type 0
IsFirstDamage bytes Mark = HasMark bytes → ⊥
IsFirstDamage bytes Slots = HasMark bytes × (HasSlots bytes → ⊥)
IsFirstDamage bytes Cells = HasMark bytes × HasSlots bytes × (HasCells bytes → ⊥)
IsFirstDamage bytes Order = HasMark bytes × HasSlots bytes × HasCells bytes × (HasOrder bytes → ⊥)
IsFirstDamage bytes FreeBytes = HasMark bytes × HasSlots bytes × HasCells bytes × HasOrder bytes × (HasFreeZeros bytes → ⊥)

abbrev pub damage_text : PageDamage → List ℕ
damage_text Mark = codes "no page"
damage_text Slots = codes "damaged slots"
damage_text Cells = codes "damaged cells"
damage_text Order = codes "keys out of order"
damage_text FreeBytes = codes "free bytes in use"
