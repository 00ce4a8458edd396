-- What the program's tokens stand for.
use Rattle.std.specs.Prelude.{ℕ, map, Option, Some, None, List}
use Rattle.std.specs.Str.Parse.{digits_value}
use Rattle.celtokens.specs.declared.token.Number.{Number}
use Rattle.celtokens.specs.declared.token.Token.{Token}
use Rattle.celtokens.specs.declared.token.Token.TheVariants as token
use Rattle.celtokens.specs.declared.word.Meaning.{Meaning}
use Rattle.celtokens.specs.declared.word.Meaning.TheVariants as meaning_of
use Rattle.celtokens.specs.Terminal.{Terminal, Ident, Reserved, False, In, Null, True, Int, Uint, Quoted, Mark}
use Rattle.celtokens.specs.Lexeme.{Part, Gap, Whole}

-- the number that the digits name
abbrev pub number : Number → ℕ
number n = digits_value n.radix n.digits.now

-- the terminal symbol of a token
abbrev pub terminal : Token → Terminal
terminal (token.Ident name) = Ident name.now
terminal (token.Reserved name) = Reserved name.now
terminal token.False = False
terminal token.In = In
terminal token.Null = Null
terminal token.True = True
terminal (token.Int n) = Int (number n)
terminal (token.Uint n) = Uint (number n)
terminal (token.Text t) = Quoted t.items
terminal (token.Sign s) = Mark s

-- the terminal symbol of a word with this meaning
abbrev pub meant_by : Meaning → List ℕ → Terminal
meant_by meaning_of.False name = False
meant_by meaning_of.In name = In
meant_by meaning_of.Null name = Null
meant_by meaning_of.True name = True
meant_by meaning_of.Reserved name = Reserved name
meant_by meaning_of.Name name = Ident name

abbrev pub terminals : List Token → List Terminal
terminals ts = map terminal ts

-- a lexeme's token, if it is not dropped
abbrev pub part : Option Token → Part
part None = Gap
part (Some t) = Whole (terminal t)
