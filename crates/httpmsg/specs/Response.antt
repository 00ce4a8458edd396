-- The bytes of a response (RFC 9112 section 4).
use Rattle.std.specs.Prelude.{ℕ, Bool, List, [], ◌++◌, length, decimal, codes, unwrap_or, if◌then◌else◌, Option, Some, None}
use Rattle.std.specs.List.{flat_map}
use Rattle.http.specs.StatusCode.{code_digits, reason_phrase}

-- a response: its status, the methods that are allowed where that is said, the texts of its warnings, whether the
-- connection ends after it, whether its body is left out, and its body
pub record Response : Type 0 where
  pub status : ℕ
  pub allow : Option (List ℕ)
  pub warnings : List (List ℕ)
  pub closes : Bool
  pub without_body : Bool
  pub body : List ℕ

-- the end of a line (RFC 9112 section 2.2)
abbrev pub crlf : List ℕ
crlf = codes "\r\n"

abbrev pub line : List ℕ → List ℕ
line text = text ++ crlf

-- RFC 9110 section 10.2.1
abbrev pub allow_line : Option (List ℕ) → List ℕ
allow_line None = []
allow_line (Some methods) = line (codes "Allow: " ++ methods)

-- RFC 9111 section 5.5, in the form that Kubernetes gives it
abbrev pub warning_line : List ℕ → List ℕ
warning_line text = line (codes "Warning: 299 - \"" ++ text ++ codes "\"")

-- RFC 9112 section 9.6
abbrev pub close_line : Bool → List ℕ
close_line closes = if closes then line (codes "Connection: close") else []

abbrev pub content : Response → List ℕ
content r = if r.without_body then [] else r.body

-- the status line, and the fields that each response has; they count the bytes of a body that is left out too (RFC 9110
-- section 9.3.2)
unfoldable pub front_lines : (status length : ℕ) → List ℕ
front_lines status length =
    line (codes "HTTP/1.1 " ++ code_digits status ++ codes " " ++ unwrap_or (reason_phrase status) [])
    ++ line (codes "Content-Type: application/json")
    ++ line (codes "Content-Length: " ++ decimal length)

abbrev pub response_bytes : Response → List ℕ
response_bytes r =
    front_lines r.status (length r.body) ++ allow_line r.allow ++ flat_map warning_line r.warnings ++ close_line r.closes ++ crlf ++ content r
