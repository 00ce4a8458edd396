use Rattle.std.proofs.Common.{◌≡◌, ◌∙◌, ap, sym, ℕ, List}
use Rattle.std.proofs.lemmas.Result.{IfOk-weaker}
use Rattle.names.specs.declared.resource.Resource.{Resource}
use Rattle.names.specs.declared.resource.Resource.TheVariants.{Namespace}
use Rattle.apicore.specs.Namespaces.{holds_objects, is_kept, is_in_use}
use Rattle.apicore.proofs.namespaces.is_in_use.Goals as goal

pub returns-in-Namespace-clause-used : goal.returns-in-Namespace-clause-used
returns-in-Namespace-clause-used g c = λ held v over.
    let key = c.args.key.now in
    let resource : key.resource ≡ Namespace = sym c.resource.ensures.value ∙ c.in-Namespace.is in
    IfOk-weaker c.holds_objects.result (λ b. b ≡ holds_objects held c.name.result.now) (λ b. b ≡ is_in_use held key)
    (λ b same. same ∙ ap (λ (name : List ℕ). holds_objects held name) c.name.ensures.value ∙ ap (λ (r : Resource). is_kept held r key.name) (sym resource))
    (c.holds_objects.ensures.holds held v over)
