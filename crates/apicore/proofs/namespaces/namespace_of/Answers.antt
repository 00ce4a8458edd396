use Rattle.std.proofs.Common.{rules, ◌≡◌, ◌∙◌, ap, sym, true, false, []}
use Rattle.std.proofs.lemmas.Result.{IfOk-weaker}
use Rattle.names.specs.declared.resource.Resource.{Resource}
use Rattle.names.specs.declared.resource.Resource.TheVariants.{Namespace}
use Rattle.names.specs.declared.resource.Scope.TheVariants.{Namespaced, Cluster}
use Rattle.names.specs.Format.{has_namespaces}
use Rattle.names.specs.Key.{key_of}
use Rattle.names.specs.Resource.{row}
use Rattle.apicore.specs.Namespaces.{shown_at, namespace_shown}
use Rattle.apicore.proofs.Places.{namespace_none, cluster_none, namespaced_shown, cluster_from}
use Rattle.apicore.proofs.namespaces.namespace_of.Goals as goal

pub returns-then-not-has_namespaces-clause-namespace : goal.returns-then-not-has_namespaces-clause-namespace
returns-then-not-has_namespaces-clause-namespace g c = λ held v over.
    let none : has_namespaces c.args.core.now.rules.format ≡ false = search rules in
    namespace_none c.args.core.now.rules.format held v c.args.key.now none over.seen over.plans

pub returns-then-not-is_namespaced-clause-namespace : goal.returns-then-not-is_namespaced-clause-namespace
returns-then-not-is_namespaced-clause-namespace g c = λ held v over.
    let not_namespaced : c.is_namespaced.result ≡ false = search rules in
    let scope : (row c.resource.result).scope ≡ Cluster = cluster_from c.is_namespaced.result (row c.resource.result).scope c.is_namespaced.ensures.1 not_namespaced in
    cluster_none held c.args.key.now (ap (λ (r : Resource). (row r).scope) (sym c.resource.ensures.value) ∙ scope)

pub returns-in-Ok-clause-namespace : goal.returns-in-Ok-clause-namespace
returns-in-Ok-clause-namespace g c = λ held v over.
    let namespaced : c.is_namespaced.result ≡ true = search rules in
    let scope : (row c.args.key.now.resource).scope ≡ Namespaced = ap (λ (r : Resource). (row r).scope) (sym c.resource.ensures.value) ∙ c.is_namespaced.ensures.0 namespaced in
    let is : c.in-Ok.at ≡ key_of Namespace [] c.args.key.now.namespace = c.in-Ok.ensures.value ∙ ap (key_of Namespace []) c.namespace.ensures.value in
    IfOk-weaker c.shown_namespace.result (λ d. d ≡ shown_at held c.in-Ok.at) (λ d. d ≡ namespace_shown held c.args.key.now)
    (λ d same. same ∙ ap (shown_at held) is ∙ namespaced_shown held c.args.key.now scope) (c.shown_namespace.ensures.namespace held v over)
