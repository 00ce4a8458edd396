use Rattle.std.proofs.Common.{refl, sym, ◌∙◌}
use Rattle.policy.specs.Spec.{wanted_seen}
use Rattle.apicore.proofs.ByName.{key_found}
use Rattle.apicore.proofs.Finding.{parameters_found}
use Rattle.apicore.proofs.store_lookup.StoreLookupLookup.parameters.Goals as goal

pub returns-in_default-clause-found : goal.returns-in_default-clause-found
returns-in_default-clause-found g c = λ objects sees.
    parameters_found (wanted_seen c.args.wanted.now) c.args.resource c.args.namespace.now sees.held.objects objects _ c.in_ok-parameters_over.field-0.items
    (c.in_ok-parameters_over.ensures sees.base sees.held sees.shows (c.deref.ensures.value ∙ c.in_ok-below.ensures.listed sees.base sees.below)) refl sees.are

pub returns-clause-found : goal.returns-clause-found
returns-clause-found g c = λ objects sees.
    c.in_ok-found_documents.ensures
    ∙ key_found (wanted_seen c.args.wanted.now) c.args.resource c.args.namespace.now c.in-Some.key sees.held.objects objects c.in_ok-found.field-0
    (sym c.in-Some.is ∙ c.in_ok-key.ensures) sees.are sees.ascends (c.in_ok-found.ensures.found sees.base sees.held sees.below sees.shows)
