-- Truth tables and macros, over the outcomes of all their parts (CEL language definition, "Logical operators" and "Macros").
use Rattle.std.specs.Prelude.{ℕ, suc, Bool, true, false, ◌&&◌, ◌||◌, ◌==◌, nat_lt, if◌then◌else◌, Option, Some, None, List, [], ◌∷◌, map, length}
use Rattle.celtree.specs.declared.tree.Macro.{Macro}
use Rattle.celtree.specs.declared.tree.Macro.TheVariants as macro_of
use Rattle.celmean.specs.Value.{Value, Truth, Sequence, Mapping, sequence, items, Entries, entries, Outcome, Gives, Error}
use Rattle.celmean.specs.Collections.{list_of}

-- the outcome is this truth value
abbrev pub is_true : Outcome → Bool
is_true (Gives (Truth b)) = b
is_true _ = false

abbrev pub is_false : Outcome → Bool
is_false (Gives (Truth true)) = false
is_false (Gives (Truth false)) = true
is_false _ = false

-- `a && b`: false if either is false, else the error if either is no truth value, else true
abbrev pub both : Outcome → Outcome → Outcome
both a b = if is_false a || is_false b then Gives (Truth false) else (if is_true a && is_true b then Gives (Truth true) else Error)

-- `a || b`: true if either is true, else the error if either is no truth value, else false
abbrev pub either : Outcome → Outcome → Outcome
either a b = if is_true a || is_true b then Gives (Truth true) else (if is_false a && is_false b then Gives (Truth false) else Error)

abbrev pub some_is : (Outcome → Bool) → List Outcome → Bool
some_is p [] = false
some_is p (o ∷ os) = p o || some_is p os

abbrev pub all_are : (Outcome → Bool) → List Outcome → Bool
all_are p [] = true
all_are p (o ∷ os) = p o && all_are p os

abbrev pub is_truth : Outcome → Bool
is_truth (Gives (Truth b)) = true
is_truth _ = false

abbrev pub count_true : List Outcome → ℕ
count_true [] = 0
count_true (o ∷ os) = if is_true o then suc (count_true os) else count_true os

-- `all`: false if some item gives false, else the error if some gives no truth value, else true
abbrev pub all_of : List Outcome → Outcome
all_of os = if some_is is_false os then Gives (Truth false) else (if all_are is_true os then Gives (Truth true) else Error)

-- `exists`: true if some item gives true, else the error if some gives no truth value, else false
abbrev pub some_of : List Outcome → Outcome
some_of os = if some_is is_true os then Gives (Truth true) else (if all_are is_false os then Gives (Truth false) else Error)

-- `exists_one`: the error if some item gives no truth value, else whether one item gives true and no other
abbrev pub one_of : List Outcome → Outcome
one_of os = if all_are is_truth os then Gives (Truth (count_true os == 1)) else Error

-- the items for which the outcome is true
abbrev pub kept : List Value → List Outcome → List Value
kept (v ∷ vs) (o ∷ os) = if is_true o then v ∷ kept vs os else kept vs os
kept _ _ = []

-- `filter`: the error if some item gives no truth value
abbrev pub filtered : List Value → List Outcome → Outcome
filtered vs os = if all_are is_truth os then Gives (Sequence (sequence (kept vs os))) else Error

-- what a macro makes of the items and the body's outcomes for them
abbrev pub reduced : Macro → List Value → List Outcome → Outcome
reduced macro_of.All vs os = all_of os
reduced macro_of.Exists vs os = some_of os
reduced macro_of.ExistsOne vs os = one_of os
reduced macro_of.Map vs os = list_of os
reduced macro_of.Filter vs os = filtered vs os

abbrev pub keys : Entries → List Value
keys es = map (λ e. e.0) (entries es)

-- the items of a list
abbrev pub list_items : Outcome → Option (List Value)
list_items (Gives (Sequence vs)) = Some (items vs)
list_items _ = None

-- what a macro goes over: a list's items, or a map's keys in their order
abbrev pub range_of : Outcome → Option (List Value)
range_of (Gives (Sequence vs)) = Some (items vs)
range_of (Gives (Mapping es)) = Some (keys es)
range_of _ = None

-- a macro with the body's outcome for an item; over more than 1024 items it is the error
abbrev pub over_items : Macro → (Value → Outcome) → Option (List Value) → Outcome
over_items m f None = Error
over_items m f (Some vs) = if nat_lt 1024 (length vs) then Error else reduced m vs (map f vs)
