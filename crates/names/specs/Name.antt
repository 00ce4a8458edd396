-- Well-formed names: DNS labels and subdomains (RFC 1123 section 2.1, RFC 1035 section 2.3.1), in small letters.
use Rattle.std.specs.Prelude.{◌≡◌, ℕ, ◌-◌, ◌≤◌, Bool, false, List, [], ◌∷◌, ◌++◌, ◌&&◌, ◌||◌, ◌⊎◌, ◌==◌, nat_le, length, slice_get, IsTrue}
use Rattle.std.specs.Char.{is_ascii_digit, is_ascii_lowercase}
use Rattle.std.specs.List.{All, list_all, slice_split, join_with_byte}
use Rattle.std.specs.Option.{option_map_or}

abbrev pub hyphen : ℕ
hyphen = 45

abbrev pub dot : ℕ
dot = 46

-- [a-z0-9]
abbrev pub is_letter_or_digit : ℕ → Bool
is_letter_or_digit byte = is_ascii_lowercase byte || is_ascii_digit byte

-- [-a-z0-9]
abbrev pub is_label_byte : ℕ → Bool
is_label_byte byte = is_letter_or_digit byte || byte == hyphen

-- a label: letters, digits and hyphens, of which the first and the last is no hyphen
abbrev pub is_label : List ℕ → Bool
is_label label =
    option_map_or is_letter_or_digit (slice_get label 0) false
    && option_map_or is_letter_or_digit (slice_get label (length label - 1)) false
    && list_all is_label_byte label

-- a namespace: a label of at most 63 characters
abbrev pub is_namespace : List ℕ → Bool
is_namespace text = nat_le (length text) 63 && is_label text

-- a name: labels joined by dots, together of at most 253 characters
abbrev pub is_name : List ℕ → Bool
is_name text = nat_le (length text) 253 && list_all is_label (slice_split (λ byte. byte == dot) text)

-- ---- the same rules as a grammar

-- what may stand after a label's first character: ([-a-z0-9]*[a-z0-9])?
abbrev pub IsLabelRest : List ℕ → Type 0
IsLabelRest rest =
    (rest ≡ []) ⊎ ((middle : List ℕ) × (last : ℕ) × (rest ≡ middle ++ last ∷ []) × IsTrue (list_all is_label_byte middle) × IsTrue (is_letter_or_digit last))

-- [a-z0-9]([-a-z0-9]*[a-z0-9])?
abbrev pub IsLabel : List ℕ → Type 0
IsLabel label = (first : ℕ) × (rest : List ℕ) × (label ≡ first ∷ rest) × IsTrue (is_letter_or_digit first) × IsLabelRest rest

-- labels joined by dots, together of 1 to 253 characters
pub record IsSubdomain (text : List ℕ) : Type 0 where
  pub labels : List (List ℕ)
  pub joined : text ≡ join_with_byte dot labels
  pub well_formed : All IsLabel labels
  pub shortest : 1 ≤ length text
  pub longest : length text ≤ 253
