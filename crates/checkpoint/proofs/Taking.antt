-- What one page adds to those before it.
use Rattle.std.proofs.Common.{arith, ◌≡◌, ap, ◌∙◌, ◌*◌, ◌≤◌, ℕ, List, length, take, drop}
use Rattle.gatelog.specs.Record.{part}
use Rattle.pages.specs.Damage.{IsFirstDamage}
use Rattle.pages.specs.Page.{Entry, IsSound, SoundPage}
use Rattle.pages.specs.declared.damage.PageDamage.{PageDamage}
use Rattle.pages.specs.declared.damage.PageDamage.TheVariants.{Mark, Slots, Cells, Order, FreeBytes}
use Rattle.pages.proofs.Entries.{length-entries_in}

-- a page has an entry
pub some_there : (bytes : List ℕ) (page : List Entry) → SoundPage bytes page → 1 ≤ length page
some_there bytes page is = omega (arith, length-entries_in bytes, ap length is.are, is.sound.slots.some)

-- bytes with a damage are no sound page
pub unsound : (bytes : List ℕ) (damage : PageDamage) → IsFirstDamage bytes damage → IsSound bytes → ⊥
unsound bytes Mark is sound = is sound.mark
unsound bytes Slots is sound = is.1 sound.slots
unsound bytes Cells is sound = is.2 sound.cells
unsound bytes Order is sound = is.3 sound.order
unsound bytes FreeBytes is sound = is.4 sound.free

-- what a read of one page gives
pub page_read : (at : ℕ) (buffer read now content : List ℕ) → length buffer ≡ 32768 → read ≡ take (length buffer) (drop (512 * at) now)
    → now ≡ content → read ≡ part (512 * at) 32768 content
page_read at buffer read now content size is same =
    is ∙ ap (λ n. take n (drop (512 * at) now)) size ∙ ap (part (512 * at) 32768) same
