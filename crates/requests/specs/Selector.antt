-- Label selectors, the equality-based ones (Kubernetes, "Labels and Selectors"): their texts, and what they select.
use Rattle.std.specs.Prelude.{ℕ, List, [], ◌∷◌, length, Bool, not, ◌&&◌, ◌||◌, ◌==◌, nat_lt, map, if◌then◌else◌, Option, Some, None, option_map, option_and_then, unwrap_or}
use Rattle.std.specs.Char.{is_ascii_digit, is_ascii_lowercase, is_ascii_uppercase}
use Rattle.std.specs.List.{list_all, slice_split, position_or_len, before_first, after_first}
use Rattle.std.specs.Option.{option_map_or}
use Rattle.documents.specs.Document.{Document}
use Rattle.documents.specs.Requirement.{Requirement, is_one_of, is_none_of, is_there, is_absent, requirement_seen}
use Rattle.documents.specs.Selecting as labels
use Rattle.requests.specs.declared.selector.Selector as code_selector

-- the label has this value
abbrev pub equals : (label value : List ℕ) → Requirement
equals label value = is_one_of label (value ∷ [])

-- the label has another value, or is not there
abbrev pub differs : (label value : List ℕ) → Requirement
differs label value = is_none_of label (value ∷ [])

-- ---- the texts

abbrev pub exclamation_mark : ℕ
exclamation_mark = 33

abbrev pub comma : ℕ
comma = 44

abbrev pub equals_sign : ℕ
equals_sign = 61

-- [A-Za-z0-9._-]
abbrev pub is_value_byte : ℕ → Bool
is_value_byte byte =
    is_ascii_lowercase byte || is_ascii_uppercase byte || is_ascii_digit byte || byte == 46 || byte == 95 || byte == 45

-- a value: [A-Za-z0-9._-]*
abbrev pub is_value : List ℕ → Bool
is_value text = list_all is_value_byte text

-- [A-Za-z0-9._/-]
abbrev pub is_label_byte : ℕ → Bool
is_label_byte byte = is_value_byte byte || byte == 47

-- a label: [A-Za-z0-9._/-]+
abbrev pub is_label : List ℕ → Bool
is_label text = not (length text == 0) && list_all is_label_byte text

-- the texts before and after the first such byte, where there is one
abbrev pub parted : ℕ → List ℕ → Option (List ℕ × List ℕ)
parted byte text =
    if nat_lt (position_or_len (λ b. b == byte) text) (length text) then Some (before_first (λ b. b == byte) text, after_first (λ b. b == byte) text) else None

-- the text after this byte, where it begins with it
abbrev pub rest_after : ℕ → List ℕ → Option (List ℕ)
rest_after byte [] = None
rest_after byte (b ∷ bs) = if b == byte then Some bs else None

-- a requirement on a label, if it is one
abbrev pub on_label : (List ℕ → Requirement) → (label : List ℕ) → Option Requirement
on_label asks label = if is_label label then Some (asks label) else None

-- a requirement on a label and a value, if they are
abbrev pub on_pair : (List ℕ → List ℕ → Requirement) → (label value : List ℕ) → Option Requirement
on_pair asks label value = if is_label label && is_value value then Some (asks label value) else None

-- a part with an exclamation mark: `LABEL!=VALUE`, or `!LABEL`
abbrev pub negated : (before after : List ℕ) → Option Requirement
negated before after =
    option_map_or (on_pair differs before) (rest_after equals_sign after) (if length before == 0 then on_label is_absent after else None)

-- a part with an equals sign: `LABEL=VALUE`, or `LABEL==VALUE`
abbrev pub equated : (before after : List ℕ) → Option Requirement
equated before after = on_pair equals before (unwrap_or (rest_after equals_sign after) after)

-- a part without exclamation mark: one with an equals sign, or `LABEL`
abbrev pub affirmed : (part : List ℕ) → Option Requirement
affirmed part = option_map_or (λ parts. equated parts.0 parts.1) (parted equals_sign part) (on_label is_there part)

-- what a part asks, if it asks something
abbrev pub requirement_of : (part : List ℕ) → Option Requirement
requirement_of part = option_map_or (λ parts. negated parts.0 parts.1) (parted exclamation_mark part) (affirmed part)

-- what parts ask, if each asks something
abbrev pub requirements_of : (parts : List (List ℕ)) → Option (List Requirement)
requirements_of [] = Some []
requirements_of (part ∷ parts) = option_and_then (λ r. option_map (λ rs. r ∷ rs) (requirements_of parts)) (requirement_of part)

-- what the text of a selector asks: it is empty, or parts joined by commas
abbrev pub selector_of : (text : List ℕ) → Option (List Requirement)
selector_of text = if length text == 0 then Some [] else requirements_of (slice_split (λ byte. byte == comma) text)

-- ---- what they select

-- a document is selected if it meets each requirement
abbrev pub selects : List Requirement → Document → Bool
selects requirements d = labels.selects requirements d.json

-- ---- what the code's type stands for

abbrev pub selector_seen : code_selector.Selector → List Requirement
selector_seen s = map requirement_seen s.requirements.items
