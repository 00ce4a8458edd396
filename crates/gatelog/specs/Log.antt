-- What a log is, as it is read.
use Rattle.std.specs.Prelude.{◌≡◌, ◌≤◌, ◌+◌, ◌*◌, ◌⊎◌, ◌++◌, ℕ, List, [], ◌∷◌, length, take, slice_index}
use Rattle.gatelog.specs.Record.{part, sectors, IsRecord}

-- The gate in this sector is open: its first byte is 0xA5.
abbrev pub IsOpen : ℕ → List ℕ → Type 0
IsOpen gate content = slice_index content (512 * gate) ≡ 165

-- There is such a sector, and the gate in it is closed.
abbrev pub IsClosed : ℕ → List ℕ → Type 0
IsClosed gate content = (512 * gate + 512 ≤ length content) × (slice_index content (512 * gate) ≡ 165 → ⊥)

-- A list of payloads stands at a gate: each is a record behind an open gate, and the next gate follows its body; the last gate is the first that is closed.
abbrev pub HoldsLog : ℕ → List (List ℕ) → ℕ → List ℕ → Type 0
HoldsLog gate [] last content = (gate ≡ last) × IsClosed last content
HoldsLog gate (payload ∷ payloads) last content =
    IsOpen gate content
    × IsRecord payload (part (512 * gate + 512) (512 * sectors payload) content)
    × HoldsLog (gate + 1 + sectors payload) payloads last content

-- At most one list of payloads stands at a gate.
abbrev pub AtMostOneLog : Type 0
AtMostOneLog = (gate : ℕ) (content : List ℕ) (payloads others : List (List ℕ)) (last other_last : ℕ)
    → HoldsLog gate payloads last content → HoldsLog gate others other_last content → (payloads ≡ others) × (last ≡ other_last)

-- While a payload is appended: what lies before the log stays, and the log has the payloads that it had, or this one more.
pub record IsBeforeOrAfter (start : ℕ) (payloads : List (List ℕ)) (last : ℕ) (payload old new : List ℕ) : Type 0 where
  pub front : take (512 * start) new ≡ take (512 * start) old
  pub log : HoldsLog start payloads last new ⊎ HoldsLog start (payloads ++ payload ∷ []) (last + 1 + sectors payload) new
