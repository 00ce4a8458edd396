-- What an expression gives (CEL language definition, "Values" and "Errors").
use Rattle.std.specs.Prelude.{ℕ, ℤ, Bool, List, [], ◌∷◌, Option, Some, None}

mutual
  -- null, truth values, signed and unsigned numbers of 64 bits, texts as bytes of UTF-8, lists, and maps, whose entries stand in the order of their keys
  pub data Value : Type 0 where
    Null : Value
    Truth : (truth : Bool) → Value
    Int : (int : ℤ) → Value
    Uint : (uint : ℕ) → Value
    Text : (bytes : List ℕ) → Value
    Sequence : (items : Values) → Value
    Mapping : (entries : Entries) → Value

  pub data Values : Type 0 where
    no_values : Values
    value : (first : Value) (rest : Values) → Values

  pub data Entries : Type 0 where
    no_entries : Entries
    entry : (key of : Value) (rest : Entries) → Entries

-- a value, or the one error
pub data Outcome : Type 0 where
  Gives : (value : Value) → Outcome
  Error : Outcome

-- lists of values and of entries, as such and inside a value
abbrev pub sequence : List Value → Values
sequence [] = no_values
sequence (v ∷ vs) = value v (sequence vs)

abbrev pub items : Values → List Value
items no_values = []
items (value v vs) = v ∷ items vs

abbrev pub mapping : List (Value × Value) → Entries
mapping [] = no_entries
mapping (e ∷ es) = entry e.0 e.1 (mapping es)

abbrev pub entries : Entries → List (Value × Value)
entries no_entries = []
entries (entry k v es) = (k, v) ∷ entries es

-- the value, or the error where there is none
abbrev pub or_error : Option Value → Outcome
or_error None = Error
or_error (Some v) = Gives v

-- the truth value, or the error where there is none
abbrev pub truth_or_error : Option Bool → Outcome
truth_or_error None = Error
truth_or_error (Some b) = Gives (Truth b)

-- an operation on values: an operand that is the error gives the error
abbrev pub with_value : (Value → Outcome) → Outcome → Outcome
with_value f Error = Error
with_value f (Gives v) = f v

abbrev pub with_values : (Value → Value → Outcome) → Outcome → Outcome → Outcome
with_values f Error b = Error
with_values f (Gives v) Error = Error
with_values f (Gives v) (Gives w) = f v w
