-- Under wider rules a history stays one, with its trees.
use Rattle.std.proofs.Common.{◌≡◌, refl, true, List, [], ◌∷◌}
use Rattle.names.specs.Format.{has_namespaces}
use Rattle.names.specs.declared.format.Format.{Format}
use Rattle.names.specs.declared.format.Rules.{Rules}
use Rattle.histories.specs.History.{put, delete}
use Rattle.histories.specs.View.{after, empty}
use Rattle.histories.specs.Wider.{AreWider}
use Rattle.histories.proofs.Wider.{Alike, alike_after, follows_too}
use Rattle.expressions.specs.Laws.{SpecificationsStay}
use Rattle.decoded.specs.Standing.{Write, View, PutsTrees, AllMayFollow}
use Rattle.decoded.specs.Laws.{TreesStay}

puts_too : SpecificationsStay → (f g : Format) (w : Write) → (has_namespaces f ≡ true → has_namespaces g ≡ true) → PutsTrees f w → PutsTrees g w
puts_too stay f g (put k d trees) more has =
    record { spelled = stay f g k.resource d.json trees more has.spelled; alone = has.alone; held = has.held; short = has.short }
puts_too stay f g (delete k) more has = tt

all_follow : SpecificationsStay → (old new : Rules) (u v : View) (ws : List Write) → AreWider old new → Alike u v → AllMayFollow old u ws → AllMayFollow new v ws
all_follow stay old new u v [] wider same all = tt
all_follow stay old new u v (w ∷ ws) wider same all = (
  (follows_too old new u v w wider same all.0.0, puts_too stay old.format new.format w wider.namespaces all.0.1),
  all_follow stay old new (after old u w) (after new v w) ws wider (alike_after old new u v w same) all.1,
)

pub trees_stay : SpecificationsStay → TreesStay
trees_stay stay old new h wider is = all_follow stay old new empty empty h wider (record { objects = refl; revision = refl }) is
