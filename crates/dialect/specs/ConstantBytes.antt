-- The bytes of a constant that answers a message.
use Rattle.std.specs.Prelude.{ℕ, List, [], None}
use Rattle.httpmsg.specs.Response.{response_bytes}
use Rattle.httpmsg.specs.Stream.{Message, is_head}
use Rattle.routes.specs.ReplyBytes.{response_of}

-- Its text with status 200. One to HEAD has no body bytes (RFC 9110 section 9.3.2), and one to a message that said `close` says so too (RFC 9112
-- section 9.6).
abbrev pub constant_bytes : Message → (text : List ℕ) → List ℕ
constant_bytes m text = response_bytes (response_of None (is_head m.method) m.closes (record { code = 200; warnings = []; body = text }))
