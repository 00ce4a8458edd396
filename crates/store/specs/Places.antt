-- Of which damage a place is told.
use Rattle.damage.specs.declared.place.Place.{Place}
use Rattle.damage.specs.Place.{IsPage, IsEntry, ArePlans, IsRecord}
use Rattle.durable.specs.declared.fault.Damage.{Damage}
use Rattle.durable.specs.declared.fault.Damage.TheVariants as damage

-- The place is one of such damage. A damaged header and a damaged root have none.
abbrev pub IsPlaceOf : Damage → Place → Type 0
IsPlaceOf damage.Header place = ⊥
IsPlaceOf damage.Root place = ⊥
IsPlaceOf damage.Page place = IsPage place
IsPlaceOf damage.Entry place = IsEntry place
IsPlaceOf damage.Log place = IsRecord place
IsPlaceOf damage.Plan place = ArePlans place
