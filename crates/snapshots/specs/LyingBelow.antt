-- Objects that lie below, of those of a view.
use Rattle.std.specs.Prelude.{◌≡◌, ℕ, Bool, true, false, not, List, ◌∷◌, map, length, Option, Some, None, IsTrue, if◌then◌else◌}
use Rattle.std.specs.FinMap.{is_sorted}
use Rattle.std.specs.List.{AllByRecursion, filter}
use Rattle.names.specs.declared.resource.Resource.{Resource}
use Rattle.names.specs.Key.{Key, key_bytes, key_cmp}
use Rattle.objects.specs.Objects.{value_at}
use Rattle.histories.specs.declared.stored.Stored.{Stored}
use Rattle.histories.specs.View.{View}

-- the changes that put these objects
abbrev pub puts_of : {X : Type 0} → List (Key × X) → List (Key × Option X)
puts_of objects = map (λ o. (o.0, Some o.1)) objects

module _ {P : Type 0} (lies : Resource → Bool) where
  -- the objects of a view that lie below
  abbrev pub base_of : View P → List (Key × Stored P)
  base_of v = filter (λ o. lies o.0.resource) v.objects

  -- a view without its objects that lie below
  abbrev pub apart_of : View P → View P
  apart_of v = record { objects = filter (λ o. not (lies o.0.resource)) v.objects; revision = v.revision; events = v.events }

  -- Each object that does not lie below is chosen, by the key of its entry.
  abbrev pub AreChosen : (chosen : List ℕ → Bool) → View P → Type 0
  AreChosen chosen v = AllByRecursion (λ o. lies o.0.resource ≡ false → chosen (1 ∷ key_bytes o.0) ≡ true) v.objects

  -- what stands below under the key of an object: the object, if it lies there, and else nothing
  abbrev pub below_at : Key × Stored P → Option (Stored P)
  below_at o = if lies o.0.resource then Some o.1 else None

  -- Of these objects, the base has each that lies below, and none of the others.
  abbrev pub HasThoseBelow : List (Key × Stored P) → (base : List (Key × Stored P)) → Type 0
  HasThoseBelow objects base = AllByRecursion (λ o. value_at o.0 base ≡ below_at o) objects

-- These may be the objects that lie below where those others are kept: they are this many, their keys ascend, and of the kept ones they have each that
-- lies below, and none of the others.
pub record MayLieBelow {P : Type 0} (lies : Resource → Bool) (kept : List (Key × Stored P)) (number : ℕ) (base : List (Key × Stored P)) : Type 0 where
  pub ascend : IsTrue (is_sorted key_cmp base)
  pub counted : length base ≡ number
  pub there : HasThoseBelow lies kept base
