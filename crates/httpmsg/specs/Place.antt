-- Where in a head its bytes end, told by what may follow them (RFC 9112, sections 2 to 5).
use Rattle.std.specs.Prelude.{◌≡◌, true, ℕ, ◌+◌, ◌<◌, ◌≤◌, List, [], ◌∷◌, ◌++◌, drop, codes, All}
use Rattle.httparse.specs.Grammar.{is_token_byte, is_uri_byte, is_value_byte, AllPass, LineEnd, print_end, Field, IsField, print_section, RequestHead, IsRequestHead, print_request}
use Rattle.httpmsg.specs.declared.place.HeadPlace.{HeadPlace}
use Rattle.httpmsg.specs.declared.place.HeadPlace.TheVariants.{BeforeRequest, InEmptyLine, InMethod, BeforeTarget, InTarget, InVersion, AfterVersion, AfterReturn, BeforeLine, InLastLine, InName, InValue}

-- the text is a head
abbrev pub IsHead : List ℕ → Type 0
IsHead text = (h : RequestHead) × IsRequestHead h × (text ≡ print_request h)

-- it is field lines and the empty line that ends them
abbrev pub IsSection : List ℕ → Type 0
IsSection text = (fields : List Field) × (last : LineEnd) × All IsField fields × (text ≡ print_section fields last)

-- it is the end of a line, and such lines
abbrev pub IsLineEnd : List ℕ → Type 0
IsLineEnd text = (end : LineEnd) × (rest : List ℕ) × (text ≡ print_end end ++ rest) × IsSection rest

-- it is the rest of a value, and the end of its line
abbrev pub IsValue : List ℕ → Type 0
IsValue text = (value : List ℕ) × (rest : List ℕ) × (text ≡ value ++ rest) × AllPass is_value_byte value × IsLineEnd rest

-- it is bytes of a class, another byte, and then what may stand there
abbrev pub IsWord : (ℕ → Type 0) → ℕ → (List ℕ → Type 0) → List ℕ → Type 0
IsWord Byte stop Next text = (word : List ℕ) × (rest : List ℕ) × (text ≡ word ++ stop ∷ rest) × All Byte word × Next rest

-- it is a version after this many of its bytes, and the end of its line
abbrev pub IsVersion : ℕ → List ℕ → Type 0
IsVersion count text =
    (minor : ℕ) × (rest : List ℕ) × (text ≡ drop count (codes "HTTP/1.") ++ (48 + minor) ∷ rest) × (minor ≤ 1) × IsLineEnd rest

abbrev pub IsTokenByte : ℕ → Type 0
IsTokenByte b = is_token_byte b ≡ true

-- a byte of a target in ASCII
abbrev pub IsTargetByte : ℕ → Type 0
IsTargetByte b = (is_uri_byte b ≡ true) × (b < 128)

-- it is the rest of a target, and a version
abbrev pub IsTarget : List ℕ → Type 0
IsTarget = IsWord IsTargetByte 32 (IsVersion 0)

-- the text after a byte
abbrev pub IsAfter : (ℕ → Type 0) → (List ℕ → Type 0) → List ℕ → Type 0
IsAfter Byte Next text = (b : ℕ) × (rest : List ℕ) × (text ≡ b ∷ rest) × Byte b × Next rest

-- what may follow the place
abbrev pub Follows : HeadPlace → List ℕ → Type 0
Follows BeforeRequest text = IsHead text
Follows InEmptyLine text = IsAfter (λ b. b ≡ 10) IsHead text
Follows InMethod text = IsWord IsTokenByte 32 (IsAfter IsTargetByte IsTarget) text
Follows BeforeTarget text = IsAfter IsTargetByte IsTarget text
Follows InTarget text = IsTarget text
Follows (InVersion count) text = IsVersion count text
Follows AfterVersion text = IsLineEnd text
Follows AfterReturn text = IsAfter (λ b. b ≡ 10) IsSection text
Follows BeforeLine text = IsSection text
Follows InLastLine text = text ≡ 10 ∷ []
Follows InName text = IsWord IsTokenByte 58 IsValue text
Follows InValue text = IsValue text

-- a byte is a step from a place to another: whatever may follow there may follow here after it
abbrev pub Steps : HeadPlace → ℕ → HeadPlace → Type 0
Steps here b there = (text : List ℕ) → Follows there text → Follows here (b ∷ text)

-- the bytes end at this place of a head
abbrev pub IsAt : HeadPlace → List ℕ → Type 0
IsAt place bytes = (text : List ℕ) → Follows place text → IsHead (bytes ++ text)
