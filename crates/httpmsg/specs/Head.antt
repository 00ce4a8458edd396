-- What the head of a request says of its message, and what is wrong with it (RFC 9110, RFC 9112).
use Rattle.std.specs.Prelude.{ℕ, Bool, true, false, not, ◌&&◌, ◌==◌, nat_lt, List, [], ◌∷◌, length, map, filter, find, Option, Some, None, option_map, if◌then◌else◌, codes, bytes_eq}
use Rattle.std.specs.List.{list_all, list_any, starts_with}
use Rattle.std.specs.Char.{is_ascii_digit}
use Rattle.std.specs.Str.{str_eq_ignore_ascii_case}
use Rattle.std.specs.Str.Parse.{digits_value}
use Rattle.httparse.specs.Ascii.{comma}
use Rattle.httparse.specs.Grammar.{RequestHead, trim_ows}
use Rattle.httparse.specs.Spans.{name_and_value}
use Rattle.httpmsg.specs.declared.head.Method.{Method}
use Rattle.httpmsg.specs.declared.head.Method.TheVariants.{Get, Head as HeadMethod, Post, Put, Delete, Other}
use Rattle.httpmsg.specs.declared.head.MessageFault.{MessageFault}
use Rattle.httpmsg.specs.declared.head.MessageFault.TheVariants as Fault

-- the parts of a head that matter: each field is its name and its value without the blanks around it
pub record Head : Type 0 where
  pub method : List ℕ
  pub target : List ℕ
  pub minor : ℕ
  pub fields : List (List ℕ × List ℕ)

abbrev pub head_of : RequestHead → Head
head_of h = record { method = h.method; target = h.target; minor = h.minor; fields = map name_and_value h.fields }

-- the method that a name stands for; the case counts (RFC 9110 section 9.1)
abbrev pub method_of : List ℕ → Method
method_of name =
    if bytes_eq name (codes "GET") then Get
    else if bytes_eq name (codes "HEAD") then HeadMethod
    else if bytes_eq name (codes "POST") then Post
    else if bytes_eq name (codes "PUT") then Put
    else if bytes_eq name (codes "DELETE") then Delete
    else Other

-- the values of the fields of a name, whose case does not count (RFC 9110 section 5.1)
abbrev pub values : List ℕ → List (List ℕ × List ℕ) → List (List ℕ)
values name fields = map (λ f. f.1) (filter (λ f. str_eq_ignore_ascii_case f.0 name) fields)

abbrev pub onto_first : ℕ → List (List ℕ) → List (List ℕ)
onto_first b [] = (b ∷ []) ∷ []
onto_first b (piece ∷ pieces) = (b ∷ piece) ∷ pieces

-- the pieces between commas
abbrev pub comma_pieces : List ℕ → List (List ℕ)
comma_pieces [] = [] ∷ []
comma_pieces (b ∷ bytes) = if b == comma then [] ∷ comma_pieces bytes else onto_first b (comma_pieces bytes)

abbrev pub is_close : List ℕ → Bool
is_close option = str_eq_ignore_ascii_case (trim_ows option) (codes "close")

-- `close` is among the options of a `Connection` field (RFC 9112 section 9.6)
abbrev pub lists_close : List ℕ → Bool
lists_close value = list_any is_close (comma_pieces value)

-- the connection ends after the reply
abbrev pub says_close : Head → Bool
says_close h = list_any lists_close (values (codes "connection") h.fields)

-- one or more decimal digits (RFC 9110 section 8.6)
abbrev pub is_number : List ℕ → Bool
is_number value = nat_lt 0 (length value) && list_all is_ascii_digit value

-- no value, or one that is a number
abbrev pub is_length : List (List ℕ) → Bool
is_length [] = true
is_length (value ∷ []) = is_number value
is_length (value ∷ other ∷ more) = false

abbrev pub first_of : List (List ℕ) → Option (List ℕ)
first_of [] = None
first_of (value ∷ more) = Some value

-- the number of the first value, or 0
abbrev pub first_number : List (List ℕ) → ℕ
first_number [] = 0
first_number (value ∷ more) = digits_value 10 value

-- how many bytes the body has: none without a `Content-Length` (RFC 9112 section 6.3)
abbrev pub content_length : Head → ℕ
content_length h = first_number (values (codes "content-length") h.fields)

abbrev pub has_field : List ℕ → Head → Bool
has_field name h = nat_lt 0 (length (values name h.fields))

-- each fault of a head, in the order in which they count, and whether the head has it
abbrev pub fault_rows : Head → List (MessageFault × Bool)
fault_rows h =
    (Fault.Version, h.minor == 0)
    ∷ (Fault.TooManyFields, nat_lt 32 (length h.fields))
    ∷ (Fault.TransferCoding, has_field (codes "transfer-encoding") h)
    ∷ (Fault.Host, not (length (values (codes "host") h.fields) == 1))
    ∷ (Fault.ContentLength, not (is_length (values (codes "content-length") h.fields)))
    ∷ (Fault.BodyTooLarge, nat_lt 65536 (content_length h))
    ∷ (Fault.Expectation, has_field (codes "expect") h)
    ∷ (Fault.Target, not (starts_with (λ a b. a == b) h.target (codes "/")))
    ∷ []

-- the first fault that the head has
abbrev pub fault_of : Head → Option MessageFault
fault_of h = option_map (λ row. row.0) (find (λ row. row.1) (fault_rows h))
