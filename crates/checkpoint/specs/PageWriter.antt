-- Pages on their way to a device.
use Rattle.std.specs.Prelude.{◌≡◌, ◌≤◌, ◌+◌, ◌*◌, ◌++◌, ℕ, List, [], length, take}
use Rattle.pages.specs.Page.{Entry}
use Rattle.roots.specs.declared.root.Root.{Root}
use Rattle.checkpoint.specs.declared.page_writer.PageWriter.{PageWriter}
use Rattle.checkpoint.specs.Pages.{pages_at, AreSound}
use Rattle.checkpoint.specs.Filling.{AllFit, pages_from, pages_of}
use Rattle.roots.specs.Install.{HasAt}

-- The writer is to fill the pages of this root, and has filled none.
pub record IsFor (writer : PageWriter) (root : Root) : Type 0 where
  pub at : writer.at ≡ root.first_sector
  pub left : writer.left ≡ root.pages
  pub filled : writer.filled ≡ 0
  pub page : writer.page ≡ []

-- The bytes are these pages, one behind the other.
pub record ArePages (bytes : List ℕ) (pages : List (List Entry)) : Type 0 where
  pub size : length bytes ≡ 32768 * length pages
  pub sound : AreSound 0 (length pages) bytes
  pub are : pages_at 0 (length pages) bytes ≡ pages

-- These pages are filled: from the sector `first` on they stand in a content, and the last of them in the writer's buffer.
pub record IsFilled (writer : PageWriter) (first : ℕ) (pages : List (List Entry)) (content : List ℕ) : Type 0 where
  pub written : List ℕ
  pub there : HasAt (512 * first) written content
  pub place : 512 * writer.at ≡ 512 * first + length written
  pub are : ArePages (written ++ take (32768 * writer.filled) writer.buffer.items) pages

-- Of all entries those before the rest are laid on pages, the last of them on the page that is being filled; and the writer is still to
-- fill as many pages as are still to come.
pub record IsLaid (writer : PageWriter) (first : ℕ) (rest all : List Entry) (content : List ℕ) : Type 0 where
  pub pages : List (List Entry)
  pub filled : IsFilled writer first pages content
  pub are : pages ++ pages_from writer.page rest ≡ pages_of all
  pub fit : AllFit rest
  pub count : length pages + writer.left ≡ length (pages_of all)

-- The pages of these entries stand in a content from a sector on.
pub record HasPages (first : ℕ) (entries : List Entry) (content : List ℕ) : Type 0 where
  pub bytes : List ℕ
  pub there : HasAt (512 * first) bytes content
  pub are : ArePages bytes (pages_of entries)

-- The sector behind the last page that a writer is to fill.
abbrev pub end_of : PageWriter → ℕ
end_of writer = writer.at + 64 * (writer.filled + writer.left)

-- Between these states a writer wrote nothing but pages that it was still to write.
pub record Advances (old new : PageWriter) : Type 0 where
  pub at : old.at ≤ new.at
  pub end : end_of new ≡ end_of old
