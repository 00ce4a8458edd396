-- What is said of a denial (Kubernetes, "Validating Admission Policy").
use Rattle.std.specs.Prelude.{ℕ, ◌∷◌, ◌++◌, ◌==◌, ◌&&◌, ◌||◌, List, [], map, take, nat_le, if◌then◌else◌, codes, chars}
use Rattle.std.specs.List.{flat_map}
use Rattle.policy.specs.Forms.{Text}

abbrev pub named_by : (policy binding : Text) → Text
named_by policy binding = codes "ValidatingAdmissionPolicy '" ++ (policy ++ (codes "' with binding '" ++ (binding ++ codes "'")))

-- the message of the refusal of a write that is denied
abbrev pub denial_text : (policy binding message : Text) → Text
denial_text policy binding message = named_by policy binding ++ (codes " denied request: " ++ message)

-- what is not printable ASCII becomes a question mark
abbrev pub printable : (character : ℕ) → ℕ
printable c = if nat_le 0x20 c && nat_le c 0x7E then c else 63

-- a quote and a backslash stand after a backslash
abbrev pub escaped : (character : ℕ) → List ℕ
escaped c = if c == 34 || c == 92 then 92 ∷ c ∷ [] else c ∷ []

-- the text of a warning (RFC 9111 section 5.5, "Warning", as a quoted string): 256 characters at most, before quotes and backslashes are escaped
abbrev pub warning : (policy binding message : Text) → Text
warning policy binding message =
    flat_map escaped (take 256 (map printable (chars (codes "Validation failed for " ++ (named_by policy binding ++ (codes ": " ++ message))))))
