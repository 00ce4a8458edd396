use Rattle.std.proofs.Common.{◌≡◌, ◌++◌, map}
use Rattle.std.specs.Vec.Iter.{into_iter_items}
use Rattle.snapshots.specs.Whole.{whole}
use Rattle.snapshots.proofs.base.all_of.Given as goal

-- what is listed, and then what is left
abbrev pub invariant-loop-object : goal.invariant-loop-object
invariant-loop-object g l =
    let made = g.M.FromDocument.made l.fn.making in
    l.listed.items ++ map (whole made) (into_iter_items l.object-iterator) ≡ map (whole made) l.fn.objects.items
