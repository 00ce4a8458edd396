-- A text that is read as one tree is read as no other, and one that is refused is read as none.
use Rattle.std.proofs.Common.{ℕ, List, chars, subst}
use Rattle.celtokens.specs.Terminal.{Terminal}
use Rattle.celtokens.specs.Lexes.{Lexes, OneReading}
use Rattle.celread.specs.declared.fault.ReadFault.{ReadFault}
use Rattle.celread.specs.declared.fault.ReadFault.TheVariants as fault
use Rattle.celtree.specs.Tree.{Expr}
use Rattle.celread.specs.Reading.{IsParse, IsReadAs, IsNotRead, IsReadAlone, IsNoParse, IsParseAlone, UnlessMemory}

-- the tokens of a text spell what it is read as
pub parsed_tokens : OneReading → (text : List ℕ) (ws : List Terminal) → Lexes (chars text) ws → (t : Expr) → IsReadAs text t → IsParse ws t
parsed_tokens one text ws lexed t read = subst (λ x. IsParse x t) (one (chars text) ws read.tokens lexed read.lexed) read.parsed

pub read_alone : OneReading → (text : List ℕ) (ws : List Terminal) → Lexes (chars text) ws → (t : Expr) → IsParseAlone ws t → IsReadAlone text t
read_alone one text ws lexed t alone u read = alone u (parsed_tokens one text ws lexed u read)

pub not_read : OneReading → (text : List ℕ) (ws : List Terminal) → Lexes (chars text) ws → (e : ReadFault) → UnlessMemory e (IsNoParse ws) → UnlessMemory e (IsNotRead text)
not_read one text ws lexed fault.TooLong none = λ u read. none u (parsed_tokens one text ws lexed u read)
not_read one text ws lexed fault.TooDeep none = λ u read. none u (parsed_tokens one text ws lexed u read)
not_read one text ws lexed fault.NotInGrammar none = λ u read. none u (parsed_tokens one text ws lexed u read)
not_read one text ws lexed fault.Memory none = tt
