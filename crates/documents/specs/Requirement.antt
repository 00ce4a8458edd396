-- What one part of a label selector asks of the label with this key (Kubernetes, LabelSelectorRequirement).
use Rattle.std.specs.Prelude.{ℕ, List, map, string_bytes}
use Rattle.documents.specs.declared.requirement.Requirement as code
use Rattle.documents.specs.declared.requirement.Requirement.TheVariants.{IsOneOf, IsNoneOf, IsThere, IsAbsent}

pub data Requirement : Type 0 where
  -- it is there, and has one of the values
  is_one_of : (key : List ℕ) (values : List (List ℕ)) → Requirement
  -- it is not there, or has none of the values
  is_none_of : (key : List ℕ) (values : List (List ℕ)) → Requirement
  is_there : (key : List ℕ) → Requirement
  is_absent : (key : List ℕ) → Requirement

-- what the code's type stands for
abbrev pub requirement_seen : code.Requirement → Requirement
requirement_seen (IsOneOf key values) = is_one_of (string_bytes key) (map string_bytes values.items)
requirement_seen (IsNoneOf key values) = is_none_of (string_bytes key) (map string_bytes values.items)
requirement_seen (IsThere key) = is_there (string_bytes key)
requirement_seen (IsAbsent key) = is_absent (string_bytes key)
