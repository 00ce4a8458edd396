-- What lies in pages, and where it stays.
use Rattle.std.specs.Prelude.{◌<◌, List, IsTrue}
use Rattle.std.proofs.Common.{refl}
use Rattle.std.specs.FinMap.{is_sorted}
use Rattle.device.specs.Disk.{Disk}
use Rattle.device.specs.Run.{Ran}
use Rattle.device.specs.Step.{Same}
use Rattle.names.specs.declared.resource.Resource.TheVariants.{ValidatingAdmissionPolicy, ValidatingAdmissionPolicyBinding}
use Rattle.names.specs.Key.{Key, key_cmp}
use Rattle.histories.specs.declared.stored.Stored.{Stored}
use Rattle.shelf.proofs.Staying.{HoldsAsBefore}
use Rattle.snapshots.proofs.Lying.{lies_hide, lies_stay, lies_ran, lies_ascend}
use Rattle.decoded.specs.Decoded.{Decoded}
use Rattle.decoded.specs.Shown.{HasNoRules}
use Rattle.paged.specs.declared.without_plans.WithoutPlans.{WithoutPlans}
use Rattle.paged.specs.declared.state.Paged.{Paged}
use Rattle.paged.specs.Lying.{made_bare, held_bare}
use Rattle.paged.specs.Paged.{Below, root_of}

-- what stands beside the documents in pages has nothing to say by itself
the_bare : WithoutPlans
the_bare = record {}

module _ {D : Type 0} (disk : Disk D) (p : Paged) (base : List (Key × Stored Decoded)) where
  -- What lies in the pages stays where the device holds, up to the start of the log, what it held. Where there are no pages nothing is asked of it.
  pub below_stays : (old new : D) → (0 < (root_of p).pages → HoldsAsBefore disk p.cache.shelf old new) → Below disk old p base → Below disk new p base
  below_stays old new as_before below = λ bare. lies_stay made_bare held_bare disk p.cache bare old new base as_before (below bare)

  -- So it does where the device was read, and nothing was written.
  pub below_ran : (old new : D) → Ran disk old new Same → Below disk old p base → Below disk new p base
  below_ran old new ran below = λ bare. lies_ran made_bare held_bare disk p.cache bare old new base ran (below bare)

  -- No policy and no binding lies there.
  pub below_free : (device : D) → Below disk device p base → HasNoRules base
  below_free device below = record {
    policies = lies_hide made_bare held_bare disk device p.cache the_bare base ValidatingAdmissionPolicy (below the_bare) refl;
    bindings = lies_hide made_bare held_bare disk device p.cache the_bare base ValidatingAdmissionPolicyBinding (below the_bare) refl;
  }

  -- The keys of what lies there ascend.
  pub below_ascends : (device : D) → Below disk device p base → IsTrue (is_sorted key_cmp base)
  below_ascends device below = lies_ascend made_bare held_bare disk device p.cache the_bare base (below the_bare)
