-- What a write attempts, and the objects before it, as policies are asked of them.
use Rattle.std.specs.Prelude.{List, map, Some, None, if◌then◌else◌}
use Rattle.celtree.specs.Tree.{Expr}
use Rattle.histories.specs.History.{put, delete}
use Rattle.histories.specs.declared.stored.Stored.{Stored}
use Rattle.histories.specs.View.{exists}
use Rattle.policy.specs.Rules.{Attempt}
use Rattle.policy.specs.declared.match_rules.Operation.TheVariants.{Create, Update, Delete}
use Rattle.verdict.specs.Objects.{Object, Objects}
use Rattle.apicore.specs.Namespaces.{shown_at, namespace_shown}
use Rattle.decoded.specs.Standing.{Write, View}

-- an object with its trees, as a verdict is given by it
abbrev pub object_of : Stored (List Expr) → Object
object_of s = record { document = s.document; trees = s.beside; revision = s.revision }

abbrev pub objects_of : View → Objects
objects_of v = map (λ o. (o.0, object_of o.1)) v.objects

-- what a write attempts, and in which Namespace: a put creates or updates, and a deletion tells what it removes
abbrev pub attempt_of : View → Write → Attempt
attempt_of v (put k d trees) = record { operation = if exists v k then Update else Create; key = k; object = Some d.json; old_object = shown_at v k; namespace = namespace_shown v k }
attempt_of v (delete k) = record { operation = Delete; key = k; object = None; old_object = shown_at v k; namespace = namespace_shown v k }
