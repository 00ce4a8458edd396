use Rattle.std.proofs.Common.{◌≡◌, ◌∷◌, drop}
use Rattle.std.specs.FinMap.{is_sorted}
use Rattle.names.specs.Key.{key_cmp}
use Rattle.snapshots.proofs.restoring.ascends.Given as goal

-- all ascend where those do that are left, after the last so far
abbrev pub invariant-loop-object : goal.invariant-loop-object
invariant-loop-object l = is_sorted key_cmp (l.before ∷ drop l.object-index l.rest) ≡ is_sorted key_cmp l.fn.objects
