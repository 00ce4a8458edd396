-- Pages hold entries in one way at most.
use Rattle.std.proofs.Common.{◌+◌, ℕ, zero, suc, List, [], ◌∷◌}
use Rattle.std.proofs.Props.{props}
use Rattle.pages.specs.Page.{Entry, IsSound}
use Rattle.roots.specs.declared.root.Root.{Root}
use Rattle.checkpoint.specs.Pages.{AreSound, HoldsEntries, IsIndex, NoneEmpty, pages_of_root}

page_prop : (bytes : List ℕ) → IsProp (IsSound bytes)
page_prop bytes = Prim.hlevel props

sound_prop : (first count : ℕ) (content : List ℕ) → IsProp (AreSound first count content)
sound_prop first zero content = Prim.hlevel props
sound_prop first (suc count) content = Prim.hlevel (props, page_prop, sound_prop (first + 64) count content)

some_prop : (pages : List (List Entry)) → IsProp (NoneEmpty pages)
some_prop [] = Prim.hlevel props
some_prop (page ∷ pages) = Prim.hlevel (props, some_prop pages)

entries_prop : (content : List ℕ) (root : Root) (all : List Entry) → IsProp (HoldsEntries content root all)
entries_prop content root all = Prim.hlevel (props, sound_prop)

index_prop : (keys : List (List ℕ)) (pages : List (List Entry)) → IsProp (IsIndex keys pages)
index_prop keys pages = Prim.hlevel (props, some_prop)

-- pages that hold these entries, by these first keys
abbrev pub AreHeld : List (List ℕ) → List ℕ → Root → List Entry → Type 0
AreHeld keys content root all = IsIndex keys (pages_of_root root content) × HoldsEntries content root all

pub held_once : (keys : List (List ℕ)) (content : List ℕ) (root : Root) (all : List Entry) → IsProp (AreHeld keys content root all)
held_once keys content root all = Prim.hlevel (index_prop, entries_prop)
