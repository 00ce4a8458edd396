-- Replies, and the body of a refusal (Kubernetes API conventions, "Response Status Kind").
use Rattle.std.specs.Prelude.{ℕ, List, [], ◌∷◌, codes}
use Rattle.serde_json.specs.Data.{unsigned, Data, number, string}
use Rattle.jsondoc.specs.Json.{text}
use Rattle.documents.specs.Document.{Document, object_of, shown}
use Rattle.requests.specs.declared.refusal.Refusal.{Refusal}
use Rattle.requests.specs.Refusal.{Answer, answer}

-- a status code (RFC 9110 section 15), the texts of warnings (RFC 9111 section 5.5), and the body
pub record Reply : Type 0 where
  pub code : ℕ
  pub warnings : List (List ℕ)
  pub body : List ℕ

-- the `Status` of an answer
abbrev pub status_document : Answer → Data
status_document a =
    object_of (
    (codes "apiVersion", string (codes "v1"))
    ∷ (codes "code", number (unsigned a.code))
    ∷ (codes "kind", string (codes "Status"))
    ∷ (codes "message", string a.message)
    ∷ (codes "reason", string a.reason)
    ∷ (codes "status", string (codes "Failure"))
    ∷ [])

-- the reply that says so
abbrev pub saying : Answer → Reply
saying a = record { code = a.code; warnings = []; body = text (status_document a) }

-- the reply that refuses
abbrev pub status : Refusal → Reply
status r = saying (answer r)

-- the reply that shows an object, with warnings
abbrev pub showing : (code : ℕ) → (warnings : List (List ℕ)) → Document → (revision : ℕ) → Reply
showing code warnings d revision = record { code = code; warnings = warnings; body = text (shown d revision) }
