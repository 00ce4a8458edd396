-- What is told of a message and its reply.
use Rattle.std.specs.Prelude.{◌≡◌, ℕ, ◌<◌, ◌+◌, ◌/◌, ◌%◌, ◌⊎◌, pos, ◌*ℤ◌, Bool, false, ◌&&◌, List, [], ◌∷◌, ◌++◌, if◌then◌else◌, Option, None, Some, nat_lt, codes, decimal}
use Rattle.std.specs.List.{AllByRecursion, flat_map}
use Rattle.jiff_core.specs.declared.civil.datetime.DateTime.{DateTime}
use Rattle.jiff_core.specs.DateTime.{civil_nanos}
use Rattle.jiff_fmt.specs.Text.{datetime_text}
use Rattle.httpmsg.specs.Stream.{Message}
use Rattle.httpmsg.specs.declared.head.Method.{Method}
use Rattle.httpmsg.specs.declared.head.Method.TheVariants.{Get, Head, Post, Put, Delete, Other}
use Rattle.sessions.specs.declared.note.Note.{Note}

-- a byte that stands in a line as it is: printable ASCII, and no space
abbrev pub is_plain : ℕ → Bool
is_plain b = nat_lt 32 b && nat_lt b 127

-- the hexadecimal digit of a number below 16
abbrev pub hex_digit : ℕ → ℕ
hex_digit n = if nat_lt n 10 then 48 + n else 55 + n

-- a byte of a text: as it is, or a percent sign and two hexadecimal digits (RFC 3986 section 2.1)
abbrev pub shown_byte : ℕ → List ℕ
shown_byte b = if is_plain b then b ∷ [] else 37 ∷ hex_digit (b / 16) ∷ hex_digit (b % 16) ∷ []

abbrev pub shown : List ℕ → List ℕ
shown text = flat_map shown_byte text

-- printable ASCII, and no space
abbrev pub IsVisible : ℕ → Type 0
IsVisible b = (32 < b) × (b < 127)

-- Whatever a text is, it is shown as one word of one line.
abbrev pub TextsAreShown : Type 0
TextsAreShown = (text : List ℕ) → AllByRecursion (λ b. b < 256) text → AllByRecursion IsVisible (shown text)

-- the word of a method; a method that the server does not know is not kept
abbrev pub method_text : Method → List ℕ
method_text Get = codes "GET"
method_text Head = codes "HEAD"
method_text Post = codes "POST"
method_text Put = codes "PUT"
method_text Delete = codes "DELETE"
method_text Other = codes "-"

-- The last second of which the calendar has a text: it has years of four digits.
abbrev pub last_second : ℕ
last_second = 253_402_207_200

-- The text of a time this number of seconds after 1970-01-01T00:00:00Z: its date and its time of day in UTC, as `2026-12-01T08:30:00Z` (RFC 3339 section 5.6). Where it is not
-- known, or behind the last second, it is a hyphen.
abbrev pub HasTime : Option ℕ → List ℕ → Type 0
HasTime None text = text ≡ codes "-"
HasTime (Some seconds) text =
    ((dt : DateTime) × (civil_nanos dt ≡ pos seconds *ℤ pos 1_000_000_000) × (text ≡ datetime_text false 84 None dt ++ codes "Z"))
    ⊎ ((last_second < seconds) × (text ≡ codes "-"))

-- A line: its time, a space, and what it tells.
abbrev pub IsLine : Option ℕ → (told line : List ℕ) → Type 0
IsLine seconds told line = (time : List ℕ) × HasTime seconds time × (line ≡ time ++ (codes " " ++ told))

-- What is told of a message that was answered: peer, method, path, status, bytes, microseconds.
abbrev pub answered_line : (peer : List ℕ) → Message → Note → (microseconds : ℕ) → List ℕ
answered_line peer m n microseconds =
    shown peer ++ (codes " " ++ (method_text m.method ++ (codes " " ++ (shown m.target
    ++ (codes " " ++ (decimal n.status ++ (codes " " ++ (decimal n.bytes ++ (codes " " ++ (decimal microseconds ++ codes "\n"))))))))))

-- What is told of a refusal of what is no message: what is not known is a hyphen.
abbrev pub refused_line : (peer : List ℕ) → Note → List ℕ
refused_line peer n = shown peer ++ (codes " - - " ++ (decimal n.status ++ (codes " " ++ (decimal n.bytes ++ codes " -\n"))))
