use Rattle.names.specs.declared.resource.Resource.TheVariants.{ValidatingAdmissionPolicyBinding}
use Rattle.verdict.specs.Objects.{all_held}
use Rattle.apicore.proofs.Finding.{bindings_found, bindings_covered}
use Rattle.apicore.proofs.store_lookup.StoreLookupLookup.bindings.Goals as goal

pub returns-clause-found : goal.returns-clause-found
returns-clause-found g c = λ objects sees.
    bindings_found ValidatingAdmissionPolicyBinding sees.held.objects (all_held objects) _ _ (rw c.deref.ensures.value at c.in_ok-all_lent.ensures)
    (c.in_ok-objects.ensures sees.base sees.held sees.shows (bindings_covered _ sees.base sees.free)) sees.are

pub returns-clause-lent : goal.returns-clause-lent
returns-clause-lent g c = λ all lends.
    bindings_found ValidatingAdmissionPolicyBinding lends.held.objects all _ _ (rw c.deref.ensures.value at c.in_ok-all_lent.ensures)
    (c.in_ok-objects.ensures lends.base lends.held lends.shows (bindings_covered _ lends.base lends.free)) lends.are
