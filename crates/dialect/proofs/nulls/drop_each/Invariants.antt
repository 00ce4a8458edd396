use Rattle.std.proofs.Common.{◌≡◌}
use Rattle.serde_json.specs.View.{members_view}
use Rattle.dialect.specs.Objects.{without_each}
use Rattle.dialect.proofs.nulls.drop_each.Given as goal

-- what was taken out, and then what is left
abbrev pub invariant-loop-name : goal.invariant-loop-name
invariant-loop-name l = without_each l.kept (members_view l.name-iterator) ≡ without_each l.fn.kept (members_view l.members.entries)
