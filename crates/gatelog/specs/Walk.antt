-- A walk over a log's records.
use Rattle.std.specs.Prelude.{◌≡◌, ◌<◌, ◌*◌, ◌+◌, ◌++◌, ℕ, List, [], ◌∷◌, length, Option, None, Some}
use Rattle.std.specs.declared.alloc.Global.{Global}
use Rattle.std.specs.declared.vec.Vec.{Vec}
use Rattle.gatelog.specs.Record.{part, sectors, IsRecord}
use Rattle.gatelog.specs.Log.{HoldsLog}

-- The body of a payload stands in this sector and those behind it.
abbrev pub HoldsRecord : ℕ → List ℕ → List ℕ → Type 0
HoldsRecord at payload content = IsRecord payload (part (512 * at) (512 * sectors payload) content)

-- A log stands at the one gate exactly where one stands at the other; they end at the same gate, and the first has this many records more.
pub record Leads (from to count : ℕ) (content : List ℕ) : Type 0 where
  pub forth : (payloads : List (List ℕ)) (last : ℕ) → HoldsLog to payloads last content
      → (all : List (List ℕ)) × (count + length payloads ≡ length all) × HoldsLog from all last content
  pub back : (payloads : List (List ℕ)) (last : ℕ) → HoldsLog from payloads last content → (rest : List (List ℕ)) × HoldsLog to rest last content

-- Each log at the one gate that ends at this one has these payloads, and then those of a log at the other.
abbrev pub Passes : ℕ → List (List ℕ) → ℕ → ℕ → List ℕ → Type 0
Passes from passed to last content = (payloads : List (List ℕ)) → HoldsLog from payloads last content
    → (rest : List (List ℕ)) × (payloads ≡ passed ++ rest) × HoldsLog to rest last content

-- What is told of the list of payloads that stands at a gate: its first payload, and the gate at which the others stand; nothing where there is none.
abbrev pub IsFirstOf : Option (Vec ℕ Global × ℕ) → (payloads : List (List ℕ)) → (last : ℕ) → (content : List ℕ) → Type 0
IsFirstOf None payloads last content = payloads ≡ []
IsFirstOf (Some told) payloads last content = (others : List (List ℕ)) × (payloads ≡ told.0.items ∷ others) × HoldsLog told.1 others last content

-- A payload is told only before the last gate, with a gate behind this one.
abbrev pub IsAhead : Option (Vec ℕ Global × ℕ) → (gate last : ℕ) → Type 0
IsAhead None gate last = Unit {0}
IsAhead (Some told) gate last = (gate < last) × (gate < told.1)
