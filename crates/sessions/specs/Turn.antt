-- Messages of several sessions that are answered together, one after another.
use Rattle.std.specs.Prelude.{◌≡◌, ℕ, ◌<◌, List, [], ◌∷◌, ◌++◌, length, ◌==◌, if◌then◌else◌, slice_index_or}
use Rattle.device.specs.declared.device.Device.{Ghosts}
use Rattle.requests.specs.declared.refusal.Refusal.TheVariants.{OutOfMemory}
use Rattle.requests.specs.Reply.{Reply, status}
use Rattle.histories.specs.View.{after_all}
use Rattle.names.specs.declared.format.Format.{Format}
use Rattle.names.specs.declared.format.Rules.{Rules}
use Rattle.decoded.specs.Standing.{View}
use Rattle.durable.specs.declared.store.Store.{Store}
use Rattle.httpmsg.specs.Stream.{Message}
use Rattle.routes.specs.ReplyBytes.{reply_bytes}
use Rattle.api.specs.Answers.{Answered, messages, writes_of, reply_of, HasApplied}
use Rattle.sessions.specs.State.{State, GoesOnWith}

-- the bytes for the session at one place, of these replies to messages, in order, and after them that memory was refused
abbrev pub answers_to : Format → ℕ → (places : List ℕ) → List Message → List Reply → List ℕ
answers_to format i [] ms rs = []
answers_to format i (p ∷ ps) [] rs = []
answers_to format i (p ∷ ps) (m ∷ ms) [] = (if p == i then reply_bytes format m (status OutOfMemory) else []) ++ answers_to format i ps ms []
answers_to format i (p ∷ ps) (m ∷ ms) (r ∷ rs) = (if p == i then reply_bytes format m r else []) ++ answers_to format i ps ms rs

-- the bytes of the answers to the messages of the session at one place, where v is shown before the first of all
abbrev pub bytes_of : Rules → View → ℕ → (places : List ℕ) → List Answered → List ℕ
bytes_of rules v i [] answered = []
bytes_of rules v i (p ∷ ps) [] = []
bytes_of rules v i (p ∷ ps) (a ∷ more) =
    (if p == i then reply_bytes rules.format a.message (reply_of rules v a) else []) ++ bytes_of rules (after_all rules v (writes_of rules v a)) i ps more

-- each session gains the bytes for its place
abbrev pub AllGain : (before after : List State) → (ℕ → List ℕ) → Type 0
AllGain before after bytes = (i : ℕ) (d : State) → i < length before → GoesOnWith (slice_index_or before i d) (slice_index_or after i d) (bytes i)

-- The messages, each of the session at its place, are answered by the store in this order, and each session gains the answers to its own.
pub record Turned {D : Type 0} {g : Ghosts D} (rules : Rules) (old new : Store D g) (v : View) (places : List ℕ) (ms : List Message) (before after : List State) : Type 0 where
  pub answered : List Answered
  pub answers : messages answered ≡ ms
  pub given : AllGain before after (λ i. bytes_of rules v i places answered)
  pub store : HasApplied rules old new v answered
