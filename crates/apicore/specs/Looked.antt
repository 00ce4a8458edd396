-- What a step leaves where it is prepared, whatever it answers.
use Rattle.std.specs.Prelude.{◌≡◌, ◌≤◌, ℕ, List, Result, OnOk, IsErrOf}
use Rattle.names.specs.Key.{Key}
use Rattle.objects.specs.Failing.{HasGrown}
use Rattle.objects.specs.declared.fault.Part.{Part}
use Rattle.objects.specs.declared.fault.LookupFault.{LookupFault}
use Rattle.objects.specs.declared.fault.LookupFault.TheVariants.{Device, Damaged, Memory}
use Rattle.histories.specs.declared.stored.Stored.{Stored}
use Rattle.histories.specs.View as seen
use Rattle.holdings.specs.Holdings.{State, ShowsSame}
use Rattle.decoded.specs.Decoded.{Decoded}
use Rattle.decoded.specs.Shown.{IsOver}
use Rattle.decoded.specs.Standing.{View}

abbrev pub Base : Type 0
Base = List (Key × Stored Decoded)

-- What is seen of the core stays.
pub record IsAsBefore (before after : State Decoded) : Type 0 where
  pub rules : after.rules ≡ before.rules
  pub revision : after.revision ≡ before.revision
  pub shows : ShowsSame before after

-- What the source holds stays, and it has become what it may become; a failure of the device is told only where its count of failures grew, and where it is told
-- as no other fault; damage is told only where the core shows no view over what it holds.
pub record HasLooked {S A : Type 0} (holds : S → Base → Type 0) (goes_to : S → S → Type 0) (failures : S → ℕ) (unfailed : S → S → Type 0) (core : State Decoded) (before after : S) (result : Result A LookupFault) : Type 0 where
  pub kept : (base : Base) → holds before base → holds after base
  pub goes : goes_to before after
  pub counts : failures before ≤ failures after
  pub steady : OnOk result (unfailed before after)
  pub device : IsErrOf result Device → HasGrown (failures before) (failures after)
  pub memory : IsErrOf result Memory → unfailed before after
  pub damaged : (part : Part) → IsErrOf result (Damaged part) → (held : seen.View Decoded) (v : View) → IsOver (holds before) core held v → ⊥
