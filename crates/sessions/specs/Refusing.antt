-- Sessions that are told that the storage failed.
use Rattle.std.specs.Prelude.{◌≡◌, ℕ, ◌<◌, ◌==◌, ◌||◌, Bool, true, false, List, [], ◌∷◌, length, slice_index_or}
use Rattle.requests.specs.declared.refusal.Refusal.TheVariants.{StorageFailed}
use Rattle.routes.specs.ReplyBytes.{closing_bytes}
use Rattle.sessions.specs.State.{State, is_open, Closes}

-- an open session is closed by the refusal; another one is as it was, so none is refused twice
pub record Refuses (old new : State) : Type 0 where
  pub refused : is_open old.phase ≡ true → Closes old new (closing_bytes false StorageFailed)
  pub progress : new.progress ≡ old.progress
  pub over : is_open old.phase ≡ false → new ≡ old

-- a place is one of these
abbrev pub is_among : ℕ → List ℕ → Bool
is_among i [] = false
is_among i (p ∷ ps) = (p == i) || is_among i ps

-- a session is refused, or is as it was
abbrev pub RefusedIf : Bool → (old new : State) → Type 0
RefusedIf true old new = Refuses old new
RefusedIf false old new = new ≡ old

-- the sessions at these places are refused, and the others are as they were
abbrev pub AllRefuse : (places : List ℕ) → (before after : List State) → Type 0
AllRefuse places before after = (i : ℕ) (d : State) → i < length before
    → RefusedIf (is_among i places) (slice_index_or before i d) (slice_index_or after i d)
