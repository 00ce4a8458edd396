-- The pages of a generation, as they are read.
use Rattle.std.specs.Prelude.{◌≡◌, ◌+◌, ◌*◌, ℕ, zero, suc, List, [], ◌∷◌, ◌++◌, map, IsTrue}
use Rattle.std.specs.FinMap.{is_sorted}
use Rattle.gatelog.specs.Record.{part}
use Rattle.pages.specs.Page.{Entry, bytes_cmp, entries_in, IsSound}
use Rattle.roots.specs.declared.root.Root.{Root}

-- The pages that stand from a sector on, this many of them: for each, the entries that its bytes stand for. A page has 64 sectors.
abbrev pub pages_at : ℕ → ℕ → List ℕ → List (List Entry)
pages_at first zero content = []
pages_at first (suc count) content = entries_in (part (512 * first) 32768 content) ∷ pages_at (first + 64) count content

-- Each of them is a sound page.
abbrev pub AreSound : ℕ → ℕ → List ℕ → Type 0
AreSound first zero content = Unit {0}
AreSound first (suc count) content = IsSound (part (512 * first) 32768 content) × AreSound (first + 64) count content

-- The entries of pages, in order.
abbrev pub joined : List (List Entry) → List Entry
joined [] = []
joined (page ∷ pages) = page ++ joined pages

-- The pages of a root.
abbrev pub pages_of_root : Root → List ℕ → List (List Entry)
pages_of_root root content = pages_at root.first_sector root.pages content

-- The pages of a root are sound, and their keys ascend from the first page to the last.
pub record HoldsPages (content : List ℕ) (root : Root) : Type 0 where
  pub sound : AreSound root.first_sector root.pages content
  pub ascending : IsTrue (is_sorted bytes_cmp (joined (pages_of_root root content)))

-- The pages of a root are sound, and hold these entries.
pub record HoldsEntries (content : List ℕ) (root : Root) (entries : List Entry) : Type 0 where
  pub sound : AreSound root.first_sector root.pages content
  pub are : joined (pages_of_root root content) ≡ entries

-- The first key of a page.
abbrev pub first_key : List Entry → List ℕ
first_key [] = []
first_key (entry ∷ entries) = entry.0

abbrev pub NoneEmpty : List (List Entry) → Type 0
NoneEmpty [] = Unit {0}
NoneEmpty (page ∷ pages) = (page ≡ [] → ⊥) × NoneEmpty pages

-- Pages by their first keys: none of them is empty, and their keys ascend from the first page to the last.
pub record IsIndex (first_keys : List (List ℕ)) (pages : List (List Entry)) : Type 0 where
  pub are : first_keys ≡ map first_key pages
  pub some : NoneEmpty pages
  pub ascending : IsTrue (is_sorted bytes_cmp (joined pages))
