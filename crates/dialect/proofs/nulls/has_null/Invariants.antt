use Rattle.std.proofs.Common.{◌≡◌}
use Rattle.serde_json.specs.View.{members_view}
use Rattle.dialect.specs.Objects.{has_null}
use Rattle.dialect.proofs.nulls.has_null.Given as goal

-- what is left decides
abbrev pub invariant-loop-value : goal.invariant-loop-value
invariant-loop-value l = has_null (members_view l.value-iterator) ≡ has_null (members_view l.members.entries)
