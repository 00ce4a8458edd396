use Rattle.std.proofs.Common.{◌≡◌, ◌≤◌, ◌++◌, drop, length, IsTrue}
use Rattle.std.specs.FinMap.{is_sorted}
use Rattle.names.specs.Key.{key_cmp}
use Rattle.objects.specs.Merged.{merged}
use Rattle.objects.specs.Steps.{changes_of}
use Rattle.objects.proofs.merging.merged.Given as goal

-- what was added, and then what is left of both
abbrev pub invariant-loop-entry : goal.invariant-loop-entry
invariant-loop-entry g l =
    (l.done ≤ length l.changes)
    × (IsTrue (is_sorted key_cmp (changes_of l.changes)) → IsTrue (is_sorted key_cmp l.base)
    → l.kept.items ++ merged (drop l.done (changes_of l.changes)) (drop l.entry-index l.base) ≡ merged (changes_of l.changes) l.base)
