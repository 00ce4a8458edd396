-- Words and identifiers (CEL language definition, "Syntax").
use Rattle.std.specs.Prelude.{ℕ, Bool, true, false, ◌&&◌, ◌||◌, ◌==◌, List, [], ◌∷◌}
use Rattle.std.specs.Char.{is_ascii_alphabetic}
use Rattle.std.specs.List.{list_all}
use Rattle.celtokens.specs.declared.run.Kind.TheVariants as kind
use Rattle.celtokens.specs.Run.{is_in}
use Rattle.celtokens.specs.Terminal.{Terminal, Ident, word_of}

-- [_a-zA-Z][_a-zA-Z0-9]*
abbrev pub is_word : List ℕ → Bool
is_word [] = false
is_word (c ∷ cs) = (is_ascii_alphabetic c || c == 95) && list_all (is_in kind.InWord) cs

abbrev pub is_name : Terminal → Bool
is_name (Ident name) = true
is_name _ = false

-- a word that is neither a keyword nor reserved
abbrev pub is_identifier : List ℕ → Bool
is_identifier text = is_word text && is_name (word_of text)
