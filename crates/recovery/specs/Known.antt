-- What memory knows of the keys that a log writes.
use Rattle.std.specs.Prelude.{◌≡◌, ℕ, List, [], ◌∷◌, ◌++◌, map, Contains}
use Rattle.std.specs.List.{AllByRecursion}
use Rattle.names.specs.Key.{Key}
use Rattle.histories.specs.declared.stored.Stored.{Stored}
use Rattle.histories.specs.History as plain
use Rattle.histories.specs.History.{put, delete}
use Rattle.holdings.specs.Holdings.{State}
use Rattle.holdings.specs.Known.{IsKnown}
use Rattle.records.specs.Payload as bytes
use Rattle.records.specs.Frames.{IsFramed}
use Rattle.decoded.specs.Decoded.{Decoded}

-- the key that a write writes
abbrev pub written_key : plain.Write (List ℕ) → Key
written_key (put k d plans) = k
written_key (delete k) = k

-- The payload is that of writes which a record can hold, one of which writes the key.
pub record Writes (payload : List ℕ) (key : Key) : Type 0 where
  pub writes : List (plain.Write (List ℕ))
  pub group : bytes.IsGroup writes
  pub payload_is : bytes.payload writes ≡ payload
  pub has : Contains (map written_key writes) key

-- The bytes are the payload of writes which a record can hold.
abbrev pub IsOfGroup : List ℕ → Type 0
IsOfGroup found = (ws : List (plain.Write (List ℕ))) × bytes.IsGroup ws × (bytes.payload ws ≡ found)

-- Each payload is one as far as its writes and their fields go, and these are the keys of all of them, in order.
abbrev pub AreKeysOf : (payloads : List (List ℕ)) → List Key → Type 0
AreKeysOf [] keys = keys ≡ []
AreKeysOf (payload ∷ payloads) keys = (own : List Key) × (others : List Key) × IsFramed payload own × AreKeysOf payloads others × (keys ≡ own ++ others)

-- Memory knows each key that these payloads write, over the objects that lie below.
abbrev pub AllKnown : State Decoded → List (Key × Stored Decoded) → (payloads : List (List ℕ)) → Type 0
AllKnown core base payloads = (payload : List ℕ) (key : Key) → Contains payloads payload → Writes payload key → IsKnown core base key

-- and each key that these writes write
abbrev pub KnowsEach : State Decoded → List (Key × Stored Decoded) → List (plain.Write (List ℕ)) → Type 0
KnowsEach core base writes = AllByRecursion (λ w. IsKnown core base (written_key w)) writes
