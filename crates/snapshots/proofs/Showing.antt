-- What a store shows that holds what entries keep of a view.
use Rattle.std.proofs.Common.{◌≡◌, ◌∙◌, sym, ap, refl, Bool, ◌&&◌, List, [], ◌∷◌, map}
use Rattle.std.specs.FinMap.{is_sorted}
use Rattle.std.specs.FinMap.Entries.{below_all}
use Rattle.std.specs.Ordering.{is_lt}
use Rattle.celtree.specs.Tree.{Expr}
use Rattle.names.specs.Key.{Key, key_cmp}
use Rattle.documents.specs.Document.{Document}
use Rattle.histories.specs.declared.stored.Stored.{Stored}
use Rattle.histories.specs.Mapped.{each, mapped}
use Rattle.histories.specs.View as seen
use Rattle.records.specs.Entries.{entries_of as view_entries}
use Rattle.records.specs.EntryLaws.{bytes_beside}
use Rattle.decoded.specs.Decoded.{Decoded}
use Rattle.decoded.specs.Shown.{plans_held, Shows}
use Rattle.decoded.specs.Standing.{View, plans_beside, with_plans}
use Rattle.snapshots.specs.Keeping.{tree_plans, entries_of, held_plans, held_entries}
use Rattle.snapshots.specs.Restoring.{in_bytes}
use Rattle.snapshots.proofs.Held.{Object, Kept}
use Rattle.snapshots.proofs.InBytes.{entries_in_bytes}

abbrev Held : Type 0
Held = seen.View Decoded

-- ---- as it is held

each_held : (os : List Object) → each plans_held os ≡ os
each_held [] = refl
each_held (o ∷ os) = ap (λ (rest : List Object). o ∷ rest) (each_held os)

pub held_as_it_is : (held : Held) → mapped plans_held held ≡ held
held_as_it_is held = λ i. record { objects = each_held held.objects i; revision = held.revision; events = held.events }

-- ---- with the plans of trees

module _ {A B : Type 0} (f : Document → A → B) where
  below_each : (k : Key) (os : List (Key × Stored A)) → below_all key_cmp k (each f os) ≡ below_all key_cmp k os
  below_each k [] = refl
  below_each k (o ∷ os) = ap (λ (b : Bool). is_lt (key_cmp k o.0) && b) (below_each k os)

  pub sorted_each : (os : List (Key × Stored A)) → is_sorted key_cmp (each f os) ≡ is_sorted key_cmp os
  sorted_each [] = refl
  sorted_each (o ∷ os) = λ i. below_each o.0 os i && sorted_each os i

abbrev Planted : Type 0
Planted = Key × Stored (List Expr)

bytes_of_plans : (os : List Planted) → map (in_bytes held_plans) (each plans_beside os) ≡ map (in_bytes tree_plans) os
bytes_of_plans [] = refl
bytes_of_plans (o ∷ os) = ap (λ (rest : List Kept). in_bytes tree_plans o ∷ rest) (bytes_of_plans os)

-- ---- entries

-- what the core shows has the entries of what it holds
pub entries_shown : (held : Held) (v : View) → Shows held v → held_entries held ≡ entries_of v
entries_shown held v shows =
    ap (λ (u : Held). held_entries u) (sym (held_as_it_is held) ∙ shows)
    ∙ sym (entries_in_bytes held_plans (with_plans v))
    ∙ ap (λ (os : List Kept). view_entries bytes_beside (record { objects = os; revision = v.revision; events = v.events })) (bytes_of_plans v.objects)
    ∙ entries_in_bytes tree_plans v
