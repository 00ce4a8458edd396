-- What a call of a client's stream tells of its failures.
use Rattle.std.specs.Prelude.{◌≡◌, ◌≢◌, ℕ, ◌≤◌, Result, MatchResult}
use Rattle.std.specs.declared.io.ErrorKind.{ErrorKind}
use Rattle.std.specs.declared.io.ErrorKind.TheVariants as kinds
use Rattle.objects.specs.Failing.{HasGrown}
use Rattle.clients.specs.declared.stream.Stop.{Stop}
use Rattle.clients.specs.declared.stream.Stop.TheVariants as stop

-- Failures count where a call failed, and only there.
abbrev pub CountsFailure : (before now : ℕ) → Stop → Type 0
CountsFailure before now stop.Again = now ≡ before
CountsFailure before now stop.Waits = now ≡ before
CountsFailure before now stop.Failed = HasGrown before now

pub record HasStopped {T : Type 0} (before now : ℕ) (result : Result T Stop) : Type 0 where
  pub later : before ≤ now
  pub counts : MatchResult result (λ _. now ≡ before) (CountsFailure before now)

-- Why a call stopped, as its error tells: it would have waited, a signal came first, or it failed.
pub record IsCauseOf (kind : ErrorKind) (cause : Stop) : Type 0 where
  pub waits : kind ≡ kinds.WouldBlock → cause ≡ stop.Waits
  pub again : kind ≡ kinds.Interrupted → cause ≡ stop.Again
  pub failed : kind ≢ kinds.WouldBlock → kind ≢ kinds.Interrupted → cause ≡ stop.Failed
