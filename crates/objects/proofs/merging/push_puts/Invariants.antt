use Rattle.std.proofs.Common.{◌≡◌, ◌++◌, drop}
use Rattle.objects.specs.Steps.{changes_of, puts_of}
use Rattle.objects.proofs.merging.push_puts.Given as goal

-- what was added, and then what is left
abbrev pub invariant-loop-change : goal.invariant-loop-change
invariant-loop-change g l =
    l.kept.items ++ puts_of (drop l.change-index (changes_of l.changes)) ≡ l.fn.kept.items ++ puts_of (changes_of l.changes)
