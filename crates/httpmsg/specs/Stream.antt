-- The messages of a stream of bytes, and how it ends (RFC 9112).
use Rattle.std.specs.Prelude.{◌≡◌, ◌≢◌, ℕ, ◌<◌, ◌≤◌, ◌⊎◌, Bool, true, false, List, [], ◌∷◌, ◌++◌, length, Option, Some, None, MatchOption}
use Rattle.std.specs.Bool.{MatchBool}
use Rattle.httparse.specs.Grammar.{RequestHead, ReadsRequest, MayBecomeRequest, print_request}
use Rattle.httpmsg.specs.declared.head.Method.{Method}
use Rattle.httpmsg.specs.declared.head.Method.TheVariants.{Get, Head, Post, Put, Delete, Other}
use Rattle.httpmsg.specs.declared.head.MessageFault.TheVariants as Fault
use Rattle.httpmsg.specs.declared.head.BrokenMessage.{BrokenMessage}
use Rattle.httpmsg.specs.declared.head.End.{End}
use Rattle.httpmsg.specs.declared.head.End.TheVariants.{Clean, Closed, Broken}
use Rattle.httpmsg.specs.Head.{head_of, method_of, says_close, content_length, fault_of}

-- what a message asks
pub record Message : Type 0 where
  pub method : Method
  pub target : List ℕ
  pub closes : Bool
  pub body : List ℕ

abbrev pub message_of : RequestHead → List ℕ → Message
message_of h body =
    record { method = method_of h.method; target = h.target; closes = says_close (head_of h); body = body }

-- the bytes are this head, which is no longer than a head may be, and then the rest
pub record BeginsWith (bytes : List ℕ) (h : RequestHead) (rest : List ℕ) : Type 0 where
  pub reads : ReadsRequest bytes h rest
  pub fits : length (print_request h) ≤ 8192

-- the bytes are this message, which has no fault, and then the rest
pub record Takes (bytes : List ℕ) (m : Message) (rest : List ℕ) : Type 0 where
  pub head : RequestHead
  pub begins : BeginsWith bytes head (m.body ++ rest)
  pub sound : fault_of (head_of head) ≡ None
  pub body : length m.body ≡ content_length (head_of head)
  pub is : m ≡ message_of head m.body

-- no message is whole, and no head has a fault
abbrev pub IsUnfinished : List ℕ → Type 0
IsUnfinished bytes =
    (h : RequestHead) (rest : List ℕ) → BeginsWith bytes h rest
    → (fault_of (head_of h) ≡ None) × (length rest < content_length (head_of h))

-- a head without a fault begins the bytes, and its body is not there in full
pub record LacksBody (bytes : List ℕ) : Type 0 where
  pub head : RequestHead
  pub rest : List ℕ
  pub begins : BeginsWith bytes head rest
  pub sound : fault_of (head_of head) ≡ None
  pub short : length rest < content_length (head_of head)

-- More bytes may help: there are none yet, or the parse of a head has not failed in fewer bytes than a head may have, or a body is
-- not there in full.
abbrev pub Waits : List ℕ → Type 0
Waits bytes = (bytes ≡ []) ⊎ (((length bytes < 8192) × MayBecomeRequest bytes) ⊎ LacksBody bytes)

-- the bytes end inside a message, or are none
pub record EndsInside (bytes : List ℕ) (broken : BrokenMessage) : Type 0 where
  pub some : bytes ≢ []
  pub unfinished : IsUnfinished bytes
  pub is : broken ≡ record { fault = Fault.Malformed; is_head = false }

abbrev pub is_head : Method → Bool
is_head Head = true
is_head Get = false
is_head Post = false
is_head Put = false
is_head Delete = false
is_head Other = false

-- the bytes begin with a head that has this fault
pub record HasFault (bytes : List ℕ) (broken : BrokenMessage) : Type 0 where
  pub head : RequestHead
  pub rest : List ℕ
  pub begins : BeginsWith bytes head rest
  pub fault : fault_of (head_of head) ≡ Some broken.fault
  pub is_head : broken.is_head ≡ is_head (method_of head.method)

-- the bytes are no message, and the stream ends so
abbrev pub EndsAt : List ℕ → End → Type 0
EndsAt bytes Clean = bytes ≡ []
EndsAt bytes Closed = ⊥
EndsAt bytes (Broken broken) = EndsInside bytes broken ⊎ HasFault bytes broken

-- the stream is these messages, and ends so; nothing after a message that closes is looked at
abbrev pub IsStream : List ℕ → List Message → End → Type 0
IsStream bytes [] end = EndsAt bytes end
IsStream bytes (m ∷ ms) end =
    (rest : List ℕ) × Takes bytes m rest × MatchBool m.closes ((ms ≡ []) × (end ≡ Closed)) (IsStream rest ms end)

-- a stream has one list of messages and one end
abbrev pub StreamIsUnique : Type 0
StreamIsUnique =
    (bytes : List ℕ) (ms ns : List Message) (e d : End) → IsStream bytes ms e → IsStream bytes ns d → (ms ≡ ns) × (e ≡ d)

-- whatever follows, the stream ends so
abbrev pub EndsAtOnce : List ℕ → End → Type 0
EndsAtOnce bytes end = (more : List ℕ) → EndsAt (bytes ++ more) end

-- how far a stream is cut: the bytes that belong to no message yet, and its end where that is known
pub record Progress : Type 0 where
  pub pending : List ℕ
  pub end : Option End

-- the bytes so far begin no whole message
abbrev pub Stops : List ℕ → Progress → Type 0
Stops bytes p = MatchOption p.end ((p.pending ≡ bytes) × IsUnfinished bytes) (EndsAtOnce bytes)

-- the whole messages of the bytes so far are these, and the cut is so far
abbrev pub IsCut : List ℕ → List Message → Progress → Type 0
IsCut bytes [] p = Stops bytes p
IsCut bytes (m ∷ ms) p =
    (rest : List ℕ) × Takes bytes m rest × MatchBool m.closes ((ms ≡ []) × (p.end ≡ Some Closed)) (IsCut rest ms p)
