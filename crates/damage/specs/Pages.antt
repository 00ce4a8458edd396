-- Which page of a root is the first that is damaged.
use Rattle.std.specs.Prelude.{◌<◌, ℕ, suc, List}
use Rattle.roots.specs.declared.root.Root.{Root}
use Rattle.checkpoint.specs.Pages.{HoldsPages}

-- The root, if it had only this many of its pages, the first ones.
abbrev pub with_pages : (count : ℕ) → Root → Root
with_pages count root = record { slot = root.slot; generation = root.generation; first_sector = root.first_sector; pages = count; label = root.label }

-- The pages before this one are sound, and their keys ascend. With this page, that is no longer so.
pub record IsFirstDamaged (content : List ℕ) (root : Root) (page : ℕ) : Type 0 where
  pub there : page < root.pages
  pub before : HoldsPages content (with_pages page root)
  pub damaged : HoldsPages content (with_pages (suc page) root) → ⊥
