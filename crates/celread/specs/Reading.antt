-- What reading a text gives: the tree that its tokens spell, or the first fault in this order: length, tokens, brackets, grammar, macros.
use Rattle.std.specs.Prelude.{◌≡◌, ℕ, ◌<◌, ◌≤◌, ◌⊎◌, length, true, false, List, chars}
use Rattle.celtokens.specs.Terminal.{Terminal}
use Rattle.celtokens.specs.Lexes.{Lexes, HasNoTokens}
use Rattle.celread.specs.declared.fault.ReadFault.{ReadFault}
use Rattle.celread.specs.declared.fault.ReadFault.TheVariants as fault
use Rattle.celtree.specs.Tree.{Expr}
use Rattle.celread.specs.Grammar.{IsSpelling}
use Rattle.celtree.specs.Nesting.{nests_within}
use Rattle.celread.specs.Limits.{opens_too_many}

-- the tokens spell the tree, within the limits
pub record IsParse (ws : List Terminal) (t : Expr) : Type 0 where
  pub shallow : opens_too_many 0 ws ≡ false
  pub spelled : IsSpelling ws t
  pub nested : nests_within t 2 ≡ true

-- the tokens spell no tree
abbrev pub HasNoSpelling : List Terminal → Type 0
HasNoSpelling ws = (t : Expr) → IsSpelling ws t → ⊥

-- brackets are too deep, or macros are in the tree that the tokens spell
abbrev pub IsTooDeep : List Terminal → Type 0
IsTooDeep ws = (opens_too_many 0 ws ≡ true) ⊎ ((opens_too_many 0 ws ≡ false) × ((t : Expr) × IsSpelling ws t × (nests_within t 2 ≡ false)))

abbrev pub IsParseFault : List Terminal → ReadFault → Type 0
IsParseFault ws fault.TooLong = ⊥
IsParseFault ws fault.TooDeep = IsTooDeep ws
IsParseFault ws fault.NotInGrammar = (opens_too_many 0 ws ≡ false) × HasNoSpelling ws
IsParseFault ws fault.Memory = Unit {0}

-- the text is read as the tree
pub record IsReadAs (text : List ℕ) (t : Expr) : Type 0 where
  pub tokens : List Terminal
  pub short : length text ≤ 4096
  pub lexed : Lexes (chars text) tokens
  pub parsed : IsParse tokens t

abbrev pub IsRefusedBy : List ℕ → ReadFault → Type 0
IsRefusedBy text fault.TooLong = 4096 < length text
IsRefusedBy text fault.TooDeep = (length text ≤ 4096) × ((ws : List Terminal) × Lexes (chars text) ws × IsTooDeep ws)
IsRefusedBy text fault.NotInGrammar =
    (length text ≤ 4096) × (HasNoTokens (chars text) ⊎ ((ws : List Terminal) × Lexes (chars text) ws × (opens_too_many 0 ws ≡ false) × HasNoSpelling ws))
IsRefusedBy text fault.Memory = Unit {0}

-- the text is read as no tree
abbrev pub IsNotRead : List ℕ → Type 0
IsNotRead text = (t : Expr) → IsReadAs text t → ⊥

-- the text is read as this tree alone
abbrev pub IsReadAlone : List ℕ → Expr → Type 0
IsReadAlone text t = (u : Expr) → IsReadAs text u → u ≡ t

-- the same of tokens
abbrev pub IsNoParse : List Terminal → Type 0
IsNoParse ws = (t : Expr) → IsParse ws t → ⊥

abbrev pub IsParseAlone : List Terminal → Expr → Type 0
IsParseAlone ws t = (u : Expr) → IsParse ws u → u ≡ t

-- what holds unless out of memory
abbrev pub UnlessMemory : ReadFault → Type 0 → Type 0
UnlessMemory fault.TooLong P = P
UnlessMemory fault.TooDeep P = P
UnlessMemory fault.NotInGrammar P = P
UnlessMemory fault.Memory P = Unit {0}
