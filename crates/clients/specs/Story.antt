-- What the calls of a client's stream make of what it was served.
use Rattle.std.specs.Prelude.{◌≡◌, ℕ, true, List, [], ◌++◌}
use Rattle.names.specs.declared.format.Rules.{Rules}
use Rattle.decoded.specs.Standing.{View}
use Rattle.api.specs.Answers.{Answered}
use Rattle.sessions.specs.State.{State, is_open}
use Rattle.sessions.specs.Served.{IsServed}

module _ {S : Type 0} (moved : S → S → List ℕ → List ℕ → Type 0) (has_ended : S → Type 0) (before after : S) where
  -- Some bytes were read of the client and some sent to it, and what it was served goes on with them.
  pub record IsServedOn (rules : Rules) (v : View) (place : ℕ) (places : List ℕ) (answered : List Answered) (read sent : List ℕ) (s : State) : Type 0 where
    pub more_read : List ℕ
    pub more_sent : List ℕ
    pub exchanged : moved before after more_read more_sent
    pub served : IsServed rules v place places answered (has_ended after) (read ++ more_read) (sent ++ more_sent) s

  -- Whatever a client was served before, that goes on.
  abbrev pub GoesOn : (old new : State) → Type 0
  GoesOn old new = (rules : Rules) (v : View) (place : ℕ) (places : List ℕ) (answered : List Answered) (read sent : List ℕ)
      → IsServed rules v place places answered (has_ended before) read sent old → IsServedOn rules v place places answered read sent new

module _ {S : Type 0} (moved : S → S → List ℕ → List ℕ → Type 0) (before after : S) where
  -- The first of the bytes that waited were sent, and where the session takes no more of its client, what was read is forgotten.
  pub record SendsOn (old new : State) : Type 0 where
    pub forgotten : List ℕ
    pub front : List ℕ
    pub exchanged : moved before after forgotten front
    pub while_open : is_open new.phase ≡ true → forgotten ≡ []
    pub waited : old.unsent ≡ front ++ new.unsent
    pub waiting : new.waiting ≡ old.waiting
    pub progress : new.progress ≡ old.progress
    pub phase : new.phase ≡ old.phase
