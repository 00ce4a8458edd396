use Rattle.std.proofs.Common.{◌≡◌, ◌++◌, ℕ, List, map}
use Rattle.std.specs.Vec.Iter.{into_iter_items}
use Rattle.names.specs.Key.{Key}
use Rattle.histories.specs.History as plain
use Rattle.histories.specs.Mapped.{mapped}
use Rattle.histories.specs.declared.stored.Stored.{Stored}
use Rattle.histories.specs.View.{View}
use Rattle.holdings.specs.Holdings.{Shows}
use Rattle.holdings.specs.Known.{KnowsSame}
use Rattle.records.specs.WriteOf.{write_of}
use Rattle.decoded.specs.Decoded.{Decoded}
use Rattle.recovery.specs.Known.{KnowsEach}
use Rattle.decoded.specs.Shown.{plans_held}
use Rattle.recovery.specs.Taken.{AreTaken}
use Rattle.recovery.proofs.redo.redo_writes.Given as goal

abbrev pub invariant-loop-write : goal.invariant-loop-write
invariant-loop-write l = record {
  rules_stay : l.core.rules ≡ l.fn.core.rules;
  known : KnowsSame l.fn.core l.core;
  parts : (done : List (plain.Write (List ℕ))) × (done ++ map write_of (into_iter_items l.write-iterator) ≡ map write_of l.fn.writes.items);
  taken : (base : List (Key × Stored Decoded)) (held : View Decoded) → Shows l.fn.core base held → KnowsEach l.fn.core base (map write_of l.fn.writes.items)
      → (now : View Decoded) × Shows l.core base now
      × AreTaken l.fn.core.rules (mapped plans_held held) (mapped plans_held now) (map write_of l.fn.writes.items) (map write_of (into_iter_items l.write-iterator));
}
