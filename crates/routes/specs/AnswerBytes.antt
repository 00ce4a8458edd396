-- The bytes of the answers to several messages, and how they are written.
use Rattle.std.specs.Prelude.{◌≡◌, ◌<◌, ℕ, List, [], ◌∷◌, ◌++◌, length, Option, None, option_map, unwrap_or, slice_index_or, Result, OnOk}
use Rattle.std.specs.Borrow.{Bor}
use Rattle.std.specs.List.{AllByRecursion}
use Rattle.http.specs.StatusCode.{IsStatusCode}
use Rattle.names.specs.declared.format.Format.{Format}
use Rattle.requests.specs.declared.refusal.Refusal.TheVariants.{OutOfMemory}
use Rattle.requests.specs.Reply.{Reply, status}
use Rattle.httpmsg.specs.Flow.{TookSome}
use Rattle.httpmsg.specs.Stream.{Message}
use Rattle.routes.specs.Allow.{allow_of}
use Rattle.routes.specs.ReplyBytes.{reply_bytes}

-- the bytes of these replies to messages, in order, and after them that memory was refused
abbrev pub answers_bytes : Format → List Message → List Reply → List ℕ
answers_bytes format [] replies = []
answers_bytes format (m ∷ more) [] = reply_bytes format m (status OutOfMemory) ++ answers_bytes format more []
answers_bytes format (m ∷ more) (r ∷ replies) = reply_bytes format m r ++ answers_bytes format more replies

-- the bytes of the answer to one message: of its reply, or where there is none that memory was refused
abbrev pub answer_bytes : Format → Message → Option Reply → List ℕ
answer_bytes format m reply = reply_bytes format m (unwrap_or reply (status OutOfMemory))

-- The reply to a message has a status code, and beside it stand the methods that the message's path allows.
abbrev pub CanAnswer : Format → Message → Reply → Option (Bor (List ℕ)) → Type 0
CanAnswer format m r allow = IsStatusCode r.code × (option_map (λ methods. methods.now) allow ≡ allow_of format m)

-- so it is with the replies to messages, in order
pub record CanAnswerAll (format : Format) (ms : List Message) (replies : List Reply) (allows : List (Option (Bor (List ℕ)))) : Type 0 where
  pub codes : AllByRecursion (λ (r : Reply). IsStatusCode r.code) replies
  pub allowed : (i : ℕ) (m : Message) → i < length ms → i < length replies
      → option_map (λ methods. methods.now) (slice_index_or allows i None) ≡ allow_of format (slice_index_or ms i m)

-- Bytes were put after those that were held: a beginning of all was taken, and but for an error the rest of them is held now.
pub record PutsAfter {S T E : Type 0} (took : S → S → List ℕ → Type 0) (old new : S) (held kept bytes : List ℕ) (result : Result T E) : Type 0 where
  pub some : TookSome took old new (held ++ bytes)
  pub kept_is : OnOk result (some.rest ≡ kept)
