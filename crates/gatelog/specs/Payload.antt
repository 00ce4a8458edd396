-- The payload that a body gathers.
use Rattle.std.specs.Prelude.{ℕ, List}
use Rattle.gatelog.specs.declared.record.Body.{Body}
use Rattle.gatelog.specs.Record.{part}

-- The bytes that were put into a body.
abbrev pub payload_of : Body → List ℕ
payload_of body = part 4 body.payload_length body.bytes.items
