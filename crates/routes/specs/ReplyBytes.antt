-- The bytes of replies to messages.
use Rattle.std.specs.Prelude.{ℕ, Bool, true, List, [], ◌==◌, if◌then◌else◌, Option, None}
use Rattle.names.specs.declared.format.Format.{Format}
use Rattle.requests.specs.declared.refusal.Refusal.{Refusal}
use Rattle.requests.specs.declared.refusal.Refusal.TheVariants.{MalformedRequest, UnservedVersion, TooManyFields, UnservedTransferCoding, BadHost, BadContentLength, BodyTooLarge, UnservedExpectation, BadTarget}
use Rattle.requests.specs.Reply.{Reply, status}
use Rattle.httpmsg.specs.declared.head.MessageFault.{MessageFault}
use Rattle.httpmsg.specs.declared.head.MessageFault.TheVariants as Fault
use Rattle.httpmsg.specs.declared.head.End.{End}
use Rattle.httpmsg.specs.declared.head.End.TheVariants.{Clean, Closed, Broken}
use Rattle.httpmsg.specs.Response.{Response, response_bytes}
use Rattle.httpmsg.specs.Stream.{Message, is_head}
use Rattle.routes.specs.Allow.{allow_of}

-- the refusal of a message that has a fault
abbrev pub refusal_of : MessageFault → Refusal
refusal_of Fault.Malformed = MalformedRequest
refusal_of Fault.Version = UnservedVersion
refusal_of Fault.TooManyFields = TooManyFields
refusal_of Fault.TransferCoding = UnservedTransferCoding
refusal_of Fault.Host = BadHost
refusal_of Fault.ContentLength = BadContentLength
refusal_of Fault.BodyTooLarge = BodyTooLarge
refusal_of Fault.Expectation = UnservedExpectation
refusal_of Fault.Target = BadTarget

-- a reply on the wire
abbrev pub response_of : (allow : Option (List ℕ)) → (without_body closes : Bool) → Reply → Response
response_of allow without_body closes r =
    record { status = r.code; allow = allow; warnings = r.warnings; closes = closes; without_body = without_body; body = r.body }

-- the methods that a reply to a message lists: those of its path, where it says that the message's is none of them (RFC 9110
-- section 15.5.6)
abbrev pub allow_in : Format → Message → Reply → Option (List ℕ)
allow_in format m r = if r.code == 405 then allow_of format m else None

-- The bytes of the reply to a message, by a store of a format. One to HEAD has no body bytes (RFC 9110 section 9.3.2), and one to a message that
-- said `close` says so too (RFC 9112 section 9.6).
abbrev pub reply_bytes : Format → Message → Reply → List ℕ
reply_bytes format m r = response_bytes (response_of (allow_in format m r) (is_head m.method) m.closes r)

-- the bytes of a refusal after which the connection ends
abbrev pub closing_bytes : (without_body : Bool) → Refusal → List ℕ
closing_bytes without_body r = response_bytes (response_of None without_body true (status r))

-- what is written for the end of a stream: the reply of a fault
abbrev pub end_bytes : End → List ℕ
end_bytes Clean = []
end_bytes Closed = []
end_bytes (Broken broken) = closing_bytes broken.is_head (refusal_of broken.fault)
