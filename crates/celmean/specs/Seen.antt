-- What the program's values and outcomes stand for.
use Rattle.std.specs.Prelude.{List, map, string_bytes}
use Rattle.celmean.specs.declared.value.Value.{Value, fold-Value}
use Rattle.celmean.specs.declared.value.Value.TheOpen.{Value-F}
use Rattle.celmean.specs.declared.value.Outcome.{Outcome}
use Rattle.celmean.specs.declared.value.Outcome.TheVariants as outcome
use Rattle.celmean.specs.Value as seen
use Rattle.celmean.specs.Value.{sequence, mapping}

-- one level, with each value inside already seen
abbrev pub value_step : Value-F seen.Value → seen.Value
value_step Value-F.Null = seen.Null
value_step (Value-F.Bool b) = seen.Truth b
value_step (Value-F.Int n) = seen.Int n
value_step (Value-F.Uint n) = seen.Uint n
value_step (Value-F.Text s) = seen.Text (string_bytes s)
value_step (Value-F.List v) = seen.Sequence (sequence v.value.items)
value_step (Value-F.Map v) = seen.Mapping (mapping v.value.items)

abbrev pub value_of : Value → seen.Value
value_of = fold-Value seen.Value value_step

abbrev pub values_seen : List Value → List seen.Value
values_seen vs = map value_of vs

abbrev pub entry_seen : Value × Value → seen.Value × seen.Value
entry_seen e = (value_of e.0, value_of e.1)

abbrev pub entries_seen : List (Value × Value) → List (seen.Value × seen.Value)
entries_seen es = map entry_seen es

abbrev pub outcome_of : Outcome → seen.Outcome
outcome_of (outcome.Gives v) = seen.Gives (value_of v)
outcome_of outcome.Error = seen.Error

abbrev pub outcomes_seen : List Outcome → List seen.Outcome
outcomes_seen os = map outcome_of os

abbrev pub outcome_pairs_seen : List (Outcome × Outcome) → List (seen.Outcome × seen.Outcome)
outcome_pairs_seen os = map (λ o. (outcome_of o.0, outcome_of o.1)) os
