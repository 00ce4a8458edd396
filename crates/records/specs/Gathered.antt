-- The writes that a group has gathered.
use Rattle.std.specs.Prelude.{◌≡◌, ℕ, List, ◌∷◌, length, flat_map}
use Rattle.gatelog.specs.Payload.{payload_of}
use Rattle.histories.specs.History.{Write}
use Rattle.records.specs.Payload.{write_bytes}
use Rattle.records.specs.declared.group.Group.{Group}

-- how many they are
abbrev pub count_of : Group → ℕ
count_of group = group.count

-- These writes are gathered; their number is not set yet.
pub record Gathers (group : Group) (ws : List (Write (List ℕ))) : Type 0 where
  pub count : count_of group ≡ length ws
  pub bytes : payload_of group.body ≡ 0 ∷ 0 ∷ flat_map write_bytes ws
