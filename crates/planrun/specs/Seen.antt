-- What the items of the macros around stand for.
use Rattle.std.specs.Prelude.{List, [], ◌∷◌}
use Rattle.celmean.specs.Value.{Value}
use Rattle.celmean.specs.Seen.{value_of}
use Rattle.planrun.specs.declared.bound.Slots.{Slots}
use Rattle.planrun.specs.declared.bound.Slots.TheVariants as slots

-- the outermost first
abbrev pub slots_seen : Slots → List Value
slots_seen slots.Empty = []
slots_seen (slots.One item) = value_of item.now ∷ []
slots_seen (slots.Two outer inner) = value_of outer.now ∷ value_of inner.now ∷ []
