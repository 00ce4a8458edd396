-- The pieces of a response, joined.
use Rattle.std.proofs.Common.{◌≡◌, ℕ, List, [], ◌++◌, length, refl, append_assoc, codes, decimal, true, Option, Some, None, option_map, unwrap_or, Bor, Bool}
use Rattle.std.specs.List.{flat_map}
use Rattle.std.proofs.lemmas.List.{append-nil}
use Rattle.http.specs.StatusCode.{code_digits, reason_phrase}
use Rattle.httpmsg.specs.Response.{Response, crlf, front_lines, allow_line, warning_line, close_line, content, response_bytes}

front_joined : (h code sp phrase n t l digits : List ℕ)
    → h ++ (code ++ (sp ++ (phrase ++ ((n ++ (t ++ (n ++ l))) ++ (digits ++ (n ++ []))))))
    ≡ (h ++ code ++ sp ++ phrase ++ n) ++ (t ++ n) ++ (l ++ digits ++ n)
front_joined h code sp phrase n t l digits = simp (append_assoc, append-nil)

pub front_pieces : (a b c d e f g : List ℕ) (status length : ℕ) → a ≡ codes "HTTP/1.1 " → b ≡ code_digits status → c ≡ codes " "
    → d ≡ unwrap_or (reason_phrase status) [] → e ≡ codes "\r\nContent-Type: application/json\r\nContent-Length: " → f ≡ decimal length
    → g ≡ codes "\r\n" → a ++ (b ++ (c ++ (d ++ (e ++ (f ++ (g ++ [])))))) ≡ front_lines status length
unfolding front_lines
front_pieces a b c d e f g status length ea eb ec ed ee ef eg =
    rw (ea, eb, ec, ed, ee, ef, eg)
    (front_joined (codes "HTTP/1.1 ") (code_digits status) (codes " ") (unwrap_or (reason_phrase status) []) (codes "\r\n")
    (codes "Content-Type: application/json") (codes "Content-Length: ") (decimal length))

pub closing_pieces : (a content : List ℕ) (closes : Bool) → closes ≡ true → a ≡ codes "Connection: close\r\n\r\n"
    → a ++ (content ++ []) ≡ close_line closes ++ crlf ++ content
closing_pieces a content closes is ea = rw (is, ea, append-nil) refl

warning_joined : (h text q n : List ℕ) → h ++ (text ++ ((q ++ n) ++ [])) ≡ (h ++ text ++ q) ++ n
warning_joined h text q n = simp (append_assoc, append-nil)

pub warning_pieces : (a b c text : List ℕ) → a ≡ codes "Warning: 299 - \"" → b ≡ text → c ≡ codes "\"\r\n" → a ++ (b ++ (c ++ [])) ≡ warning_line text
warning_pieces a b c text ea eb ec = rw (ea, eb, ec) (warning_joined (codes "Warning: 299 - \"") text (codes "\"") (codes "\r\n"))

-- what a text that may be missing stands for
pub unwrap_now : (o : Option (Bor (List ℕ))) (d : Bor (List ℕ)) → (unwrap_or o d).now ≡ unwrap_or (option_map (λ s. s.now) o) d.now
unwrap_now None d = refl
unwrap_now (Some s) d = refl

parts_joined : (f a w c n d : List ℕ) → f ++ a ++ w ++ c ++ n ++ d ≡ f ++ (a ++ (w ++ (c ++ n ++ d)))
parts_joined f a w c n d = simp append_assoc

-- the last field, the empty line and the body
abbrev pub back_of : Response → List ℕ
back_of r = close_line r.closes ++ crlf ++ content r

-- the four parts of a response
pub parts_of : (r : Response) → response_bytes r
    ≡ front_lines r.status (length r.body) ++ (allow_line r.allow ++ (flat_map warning_line r.warnings ++ back_of r))
parts_of r =
    parts_joined (front_lines r.status (length r.body)) (allow_line r.allow) (flat_map warning_line r.warnings) (close_line r.closes) crlf (content r)
