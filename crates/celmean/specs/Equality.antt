-- When two values are equal (CEL language definition, "Equality" and "Numeric Values"): unlike kinds never are, but signed and
-- unsigned numbers compare by number; lists and maps compare by content.
use Rattle.std.specs.Prelude.{pos, Bool, true, false, ◌&&◌, ◌==◌, bytes_eq}
use Rattle.std.specs.Ordering.{int_eq}
use Rattle.celmean.specs.Value.{Value, Null, Truth, Int, Uint, Text, Sequence, Mapping, Values, no_values, value, Entries, no_entries, entry}

abbrev pub same_truth : Bool → Bool → Bool
same_truth true b = b
same_truth false true = false
same_truth false false = true

abbrev mutual
  pub same : Value → Value → Bool
  same Null Null = true
  same (Truth a) (Truth b) = same_truth a b
  same (Int a) (Int b) = int_eq a b
  same (Int a) (Uint b) = int_eq a (pos b)
  same (Uint a) (Int b) = int_eq (pos a) b
  same (Uint a) (Uint b) = a == b
  same (Text a) (Text b) = bytes_eq a b
  same (Sequence a) (Sequence b) = all_same a b
  same (Mapping a) (Mapping b) = entries_same a b
  same _ _ = false

  -- item by item
  pub all_same : Values → Values → Bool
  all_same no_values no_values = true
  all_same (value v vs) (value w ws) = same v w && all_same vs ws
  all_same _ _ = false

  -- entry by entry, both being in the order of their keys
  pub entries_same : Entries → Entries → Bool
  entries_same no_entries no_entries = true
  entries_same (entry k v es) (entry l w fs) = (same k l && same v w) && entries_same es fs
  entries_same _ _ = false
