-- What values a type promises, and that what a tree means keeps the promise of its type.
use Rattle.std.specs.Prelude.{◌≡◌, ℕ, ℤ, Bool, Some, List}
use Rattle.celtree.specs.Tree.{Expr}
use Rattle.celmean.specs.Value.{Value, Null, Truth, Int, Uint, Text, Sequence, Mapping, Values, no_values, value, Entries, no_entries, entry, Outcome, Gives}
use Rattle.celmean.specs.Meaning as meaning
use Rattle.celmean.specs.Meaning.{Environment, mean}
use Rattle.celtypes.specs.Types.{ValueType, int, uint, bool, string, null, dyn, list, map}
use Rattle.celtypes.specs.Typing.{Scope, bound, HasType}

mutual
  -- The value is of the type's kind: every value is of dyn's; of a list each item, and of a map each key and each value.
  pub data KindOf : ValueType → Value → Type 0 where
    of_dyn : {v : Value} → KindOf dyn v
    of_int : {z : ℤ} → KindOf int (Int z)
    of_uint : {n : ℕ} → KindOf uint (Uint n)
    of_bool : {b : Bool} → KindOf bool (Truth b)
    of_string : {s : List ℕ} → KindOf string (Text s)
    of_null : KindOf null Null
    of_list : {t : ValueType} {vs : Values} → ItemsOf t vs → KindOf (list t) (Sequence vs)
    of_map : {k v : ValueType} {es : Entries} → EntriesOf k v es → KindOf (map k v) (Mapping es)

  -- each item is of the type's kind
  pub data ItemsOf : ValueType → Values → Type 0 where
    no_item : {t : ValueType} → ItemsOf t no_values
    one_item_more : {t : ValueType} {v : Value} {vs : Values} → KindOf t v → ItemsOf t vs → ItemsOf t (value v vs)

  -- each key is of the first type's kind, each value of the second's
  pub data EntriesOf : ValueType → ValueType → Entries → Type 0 where
    no_entry : {k v : ValueType} → EntriesOf k v no_entries
    one_entry_more : {k v : ValueType} {a b : Value} {es : Entries} → KindOf k a → KindOf v b → EntriesOf k v es → EntriesOf k v (entry a b es)

-- the outcome is a value of the type's kind, or the error
abbrev pub KeepsTo : ValueType → Outcome → Type 0
KeepsTo t o = (v : Value) → o ≡ Gives v → KindOf t v

-- The environment meets the scope: what a macro variable or a declared variable stands for keeps to its type.
pub record Meets (g : Scope) (env : Environment) : Type 0 where
  pub locals : (x : List ℕ) (t : ValueType) → bound x g.locals ≡ Some t → KeepsTo t (meaning.bound x env.names)
  pub variables : (x : List ℕ) (t : ValueType) → bound x g.variables ≡ Some t → KeepsTo t (meaning.bound x env.variables)

-- A tree with a type means a value of that type's kind, or the error.
abbrev pub MeansItsKind : Type 0
MeansItsKind = (g : Scope) (env : Environment) (e : Expr) (t : ValueType) → Meets g env → HasType g e t → KeepsTo t (mean e env)
