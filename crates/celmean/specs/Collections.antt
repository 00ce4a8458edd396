-- Lists and maps (CEL language definition, "Aggregate values", "Field selection" and "Macros" on `has`).
use Rattle.std.specs.Prelude.{ℕ, ℤ, pos, negsuc, Bool, false, not, ◌&&◌, ◌||◌, if◌then◌else◌, Option, Some, None, is_some, option_map, List, [], ◌∷◌, slice_get}
use Rattle.celmean.specs.Value.{Value, Truth, Int, Text, Sequence, Mapping, sequence, items, mapping, entries, Outcome, Gives, Error, or_error}
use Rattle.celmean.specs.Equality.{same}
use Rattle.celmean.specs.Order.{key_rank, key_before}

-- the value of an equal key
abbrev pub lookup : Value → List (Value × Value) → Option Value
lookup k [] = None
lookup k (e ∷ es) = if same k e.0 then Some e.1 else lookup k es

-- the item at a place counted from 0
abbrev pub item_at : List Value → ℤ → Option Value
item_at vs (pos n) = slice_get vs n
item_at vs (negsuc n) = None

-- `e[i]`: the item of a list at a signed number, or the value of a map's key
abbrev pub indexed : Value → Value → Outcome
indexed (Sequence vs) (Int i) = or_error (item_at (items vs) i)
indexed (Mapping es) k = or_error (lookup k (entries es))
indexed _ _ = Error

-- `e.f`: the value of the key f of a map
abbrev pub member : List ℕ → Value → Outcome
member f (Mapping es) = or_error (lookup (Text f) (entries es))
member f _ = Error

-- `has(e.f)`: whether a map has the key f
abbrev pub has_member : List ℕ → Value → Outcome
has_member f (Mapping es) = Gives (Truth (is_some (lookup (Text f) (entries es))))
has_member f _ = Error

-- an equal item is in the list
abbrev pub is_among : Value → List Value → Bool
is_among v [] = false
is_among v (w ∷ ws) = same v w || is_among v ws

-- `v in e`: whether a list has an equal item, or a map an equal key
abbrev pub contained : Value → Value → Outcome
contained v (Sequence ws) = Gives (Truth (is_among v (items ws)))
contained v (Mapping es) = Gives (Truth (is_some (lookup v (entries es))))
contained v _ = Error

-- the values, where no outcome is the error
abbrev pub values_of : List Outcome → Option (List Value)
values_of [] = Some []
values_of (Error ∷ os) = None
values_of (Gives v ∷ os) = option_map (λ vs. v ∷ vs) (values_of os)

abbrev pub list_or_error : Option (List Value) → Outcome
list_or_error None = Error
list_or_error (Some vs) = Gives (Sequence (sequence vs))

-- `[a, b]`
abbrev pub list_of : List Outcome → Outcome
list_of os = list_or_error (values_of os)

-- an entry put at its key's place
abbrev pub inserted : Value → Value → List (Value × Value) → List (Value × Value)
inserted k v [] = (k, v) ∷ []
inserted k v (e ∷ es) = if key_before k e.0 then (k, v) ∷ e ∷ es else e ∷ inserted k v es

-- an entry more: its key is a truth value, a number or a text, and no other key is equal
abbrev pub with_entry : Value → Value → List (Value × Value) → Outcome
with_entry k v es = if is_some (key_rank k) && not (is_some (lookup k es)) then Gives (Mapping (mapping (inserted k v es))) else Error

abbrev pub put_entry : Outcome → Outcome → Outcome → Outcome
put_entry (Gives k) (Gives v) (Gives (Mapping es)) = with_entry k v (entries es)
put_entry _ _ _ = Error

-- `{k: v, l: w}`
abbrev pub map_of : List (Outcome × Outcome) → Outcome
map_of [] = Gives (Mapping (mapping []))
map_of (o ∷ os) = put_entry o.0 o.1 (map_of os)
