-- What a run of calls on an input or an output did, and why a call fails.
use Rattle.std.specs.Prelude.{◌≡◌, ℕ, ◌^◌, ◌-◌, ◌<◌, ◌≤◌, ◌⊎◌, List, ◌++◌, IsOk, IsErr, Result, MatchResult}

-- a call fails only where the failures of what it calls grew, or can grow no more; where it does not fail, they are as many as before
pub record HasCause {T E : Type 0} (before now : ℕ) (result : Result T E) : Type 0 where
  pub later : before ≤ now
  pub failed : IsErr result → (before < now) ⊎ (now ≡ 2 ^ 64 - 1)
  pub well : IsOk result → now ≡ before

-- a beginning of the bytes was taken
pub record TookSome {S : Type 0} (took : S → S → List ℕ → Type 0) (old new : S) (bytes : List ℕ) : Type 0 where
  pub front : List ℕ
  pub rest : List ℕ
  pub split : bytes ≡ front ++ rest
  pub taken : took old new front

-- the bytes were taken, or after an error a beginning of them
abbrev pub Writes : {S T E : Type 0} → (S → S → List ℕ → Type 0) → S → S → List ℕ → Result T E → Type 0
Writes took old new bytes result = MatchResult result (λ _. took old new bytes) (λ _. TookSome took old new bytes)
