-- The value of a JSON value (CEL language definition, "JSON Data Conversion"): maps have their keys in order, as the members of a document have
-- theirs.
use Rattle.std.specs.Prelude.{pos, List, [], ◌∷◌, unwrap_or}
use Rattle.serde_json.specs.Data.{Num, Data, null, boolean, number, string, array, object, Items, no_items, item, Members, no_members, member}
use Rattle.serde_json.specs.Find.{as_i64}
use Rattle.celmean.specs.Value.{Value, Null, Truth, Int, Text, Sequence, Mapping, sequence, mapping}

-- a whole number in 64 signed bits: a document has no others, and they count as 0
abbrev pub number_value : Num → Value
number_value n = Int (unwrap_or (as_i64 n) (pos 0))

abbrev mutual
  pub json_value : Data → Value
  json_value null = Null
  json_value (boolean b) = Truth b
  json_value (number n) = number_value n
  json_value (string s) = Text s
  json_value (array ds) = Sequence (sequence (item_values ds))
  json_value (object ms) = Mapping (mapping (member_values ms))

  pub item_values : Items → List Value
  item_values no_items = []
  item_values (item d ds) = json_value d ∷ item_values ds

  pub member_values : Members → List (Value × Value)
  member_values no_members = []
  member_values (member k d ms) = (Text k, json_value d) ∷ member_values ms
