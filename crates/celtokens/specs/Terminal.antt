-- A token as the grammar sees it: a terminal symbol.
use Rattle.std.specs.Prelude.{ℕ, Bool, ◌||◌, List, codes, bytes_eq, if◌then◌else◌}
use Rattle.celtokens.specs.declared.sign.Sign.{Sign}

-- a name, a reserved word, one of the four keywords, a whole number of any size, a string's characters, or a sign
pub data Terminal : Type 0 where
  Ident Reserved : (name : List ℕ) → Terminal
  False In Null True : Terminal
  Int Uint : (value : ℕ) → Terminal
  Quoted : (text : List ℕ) → Terminal
  Mark : (sign : Sign) → Terminal

-- the words that the CEL language definition reserves
abbrev pub is_reserved : List ℕ → Bool
is_reserved w =
    bytes_eq w (codes "as") || (bytes_eq w (codes "break") || (bytes_eq w (codes "const") || (bytes_eq w (codes "continue")
    || (bytes_eq w (codes "else") || (bytes_eq w (codes "for") || (bytes_eq w (codes "function") || (bytes_eq w (codes "if")
    || (bytes_eq w (codes "import") || (bytes_eq w (codes "let") || (bytes_eq w (codes "loop") || (bytes_eq w (codes "namespace")
    || (bytes_eq w (codes "package") || (bytes_eq w (codes "return") || (bytes_eq w (codes "var") || (bytes_eq w (codes "void")
    || bytes_eq w (codes "while"))))))))))))))))

-- what a word is: a keyword, a reserved word, or else a name
abbrev pub word_of : List ℕ → Terminal
word_of w =
    if bytes_eq w (codes "false") then False
    else (if bytes_eq w (codes "in") then In
    else (if bytes_eq w (codes "null") then Null
    else (if bytes_eq w (codes "true") then True
    else (if is_reserved w then Reserved w else Ident w))))
