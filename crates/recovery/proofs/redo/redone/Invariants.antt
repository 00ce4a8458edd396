use Rattle.std.proofs.Common.{◌≡◌, List, map, take}
use Rattle.std.specs.List.{AllByRecursion}
use Rattle.names.specs.Key.{Key}
use Rattle.histories.specs.Mapped.{mapped}
use Rattle.histories.specs.declared.stored.Stored.{Stored}
use Rattle.histories.specs.View.{View, after_all}
use Rattle.holdings.specs.Holdings.{Shows}
use Rattle.holdings.specs.Known.{KnowsSame}
use Rattle.decoded.specs.Decoded.{Decoded}
use Rattle.recovery.specs.Known.{AllKnown, IsOfGroup}
use Rattle.decoded.specs.Shown.{plans_held}
use Rattle.recovery.specs.Written.{Write, IsWritten}
use Rattle.recovery.proofs.redo.redone.Given as goal

abbrev pub invariant-loop-payload : goal.invariant-loop-payload
invariant-loop-payload l = record {
  rules_stay : l.core.rules ≡ l.fn.core.rules;
  known : KnowsSame l.fn.core l.core;
  groups : AllByRecursion IsOfGroup (map (λ p. p.items) (take l.payload-index l.payloads));
  found : (base : List (Key × Stored Decoded)) (held : View Decoded) → Shows l.fn.core base held → AllKnown l.fn.core base (map (λ p. p.items) l.payloads)
      → (now : View Decoded) × Shows l.core base now
      × ((ws : List Write) × IsWritten l.fn.core.rules (mapped plans_held held) ws (map (λ p. p.items) (take l.payload-index l.payloads))
      × (mapped plans_held now ≡ after_all l.fn.core.rules (mapped plans_held held) ws));
}
