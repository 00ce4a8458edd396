-- The types of expressions (CEL language definition, "Values"), without double, bytes, timestamps, durations and messages.
pub data ValueType : Type 0 where
  int uint bool string null dyn : ValueType
  list : (item : ValueType) → ValueType
  map : (key value : ValueType) → ValueType
