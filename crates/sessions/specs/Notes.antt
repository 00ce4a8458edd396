-- What is told of messages that were answered.
use Rattle.std.specs.Prelude.{◌≡◌, ℕ, ◌+◌, ◌-◌, ◌^◌, ◌≤◌, Bool, true, false, List, [], ◌∷◌, ◌++◌, length, min}
use Rattle.device.specs.declared.device.Device.{Ghosts}
use Rattle.requests.specs.declared.refusal.Refusal.{Refusal}
use Rattle.requests.specs.declared.refusal.Refusal.TheVariants.{OutOfMemory}
use Rattle.requests.specs.Reply.{Reply, status}
use Rattle.histories.specs.View.{after_all}
use Rattle.names.specs.declared.format.Format.{Format}
use Rattle.names.specs.declared.format.Rules.{Rules}
use Rattle.records.specs.Payload.{group_limit}
use Rattle.decoded.specs.Standing.{View}
use Rattle.durable.specs.declared.store.Store.{Store}
use Rattle.httpmsg.specs.Stream.{Message}
use Rattle.routes.specs.ReplyBytes.{reply_bytes, closing_bytes}
use Rattle.api.specs.Answers.{Answered, writes_of, reply_of}
use Rattle.sessions.specs.declared.note.Note.{Note}
use Rattle.sessions.specs.declared.notes.Notes.{Notes}
use Rattle.sessions.specs.State.{State}
use Rattle.sessions.specs.Turn.{Turned}

-- notes in their order
abbrev pub listed : Notes → List Note
listed notes = notes.list.items

-- what is told of a reply to a message, by a store of a format: its status code, and how many bytes it has, or 2^64 - 1 where they are more
abbrev pub note_of : Format → Message → Reply → Note
note_of format m r = record { status = r.code; bytes = min (length (reply_bytes format m r)) (2 ^ 64 - 1) }

-- what is told of a refusal after which the connection ends
abbrev pub closing_note : Refusal → Note
closing_note r = record { status = (status r).code; bytes = min (length (closing_bytes false r)) (2 ^ 64 - 1) }

-- what is told of these replies to messages, in order, and after them that memory was refused
abbrev pub notes_to : Format → List Message → List Reply → List Note
notes_to format [] rs = []
notes_to format (m ∷ ms) [] = note_of format m (status OutOfMemory) ∷ notes_to format ms []
notes_to format (m ∷ ms) (r ∷ rs) = note_of format m r ∷ notes_to format ms rs

-- what is told of the answers to messages, where v is shown before the first of them
abbrev pub notes_of : Rules → View → List Answered → List Note
notes_of rules v [] = []
notes_of rules v (a ∷ more) = note_of rules.format a.message (reply_of rules v a) ∷ notes_of rules (after_all rules v (writes_of rules v a)) more

-- The messages are answered, and where notes are kept, what is told of each stands in its order after the notes before, as long as there is room.
pub record Tells {D : Type 0} {g : Ghosts D} (rules : Rules) (old new : Store D g) (v : View) (places : List ℕ) (ms : List Message) (before after : List State)
    (is_kept : Bool) (notes_before notes_after : List Note) : Type 0 where
  pub turned : Turned rules old new v places ms before after
  pub told : is_kept ≡ true → length notes_before + length ms ≤ group_limit → notes_after ≡ notes_before ++ notes_of rules v turned.answered
