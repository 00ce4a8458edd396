-- Which record of the log of a root is the first that is one of no writes.
use Rattle.std.specs.Prelude.{◌≡◌, ◌+◌, ℕ, List, ◌∷◌, ◌++◌}
use Rattle.std.specs.List.{AllByRecursion}
use Rattle.gatelog.specs.Log.{HoldsLog}
use Rattle.roots.specs.declared.root.Root.{Root}
use Rattle.roots.specs.Root.{log_sector}
use Rattle.histories.specs.History.{Write}
use Rattle.records.specs.Payload.{payload, IsGroup}

-- The bytes are the payload of writes which a record can hold.
abbrev pub IsOfWrites : List ℕ → Type 0
IsOfWrites bytes = (writes : List (Write (List ℕ))) × IsGroup writes × (payload writes ≡ bytes)

-- Behind the pages of the root stands a log. The payload of the record whose body begins in this sector, behind its gate, is that of no writes; those of the records before it are of
-- writes.
pub record IsFirstDamagedRecord (content : List ℕ) (root : Root) (sector : ℕ) : Type 0 where
  pub before : List (List ℕ)
  pub damaged_payload : List ℕ
  pub after : List (List ℕ)
  pub last : ℕ
  pub gate : ℕ
  pub log : HoldsLog (log_sector root) (before ++ damaged_payload ∷ after) last content
  pub behind : HoldsLog gate (damaged_payload ∷ after) last content
  pub begins : sector ≡ gate + 1
  pub sound : AllByRecursion IsOfWrites before
  pub damaged : IsOfWrites damaged_payload → ⊥
