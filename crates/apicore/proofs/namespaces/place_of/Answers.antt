use Rattle.std.proofs.Common.{rules, ◌≡◌, ◌∙◌, sym, true, false}
use Rattle.std.proofs.lemmas.Result.{IfOk-from_err}
use Rattle.names.specs.Format.{has_resource}
use Rattle.apicore.specs.Namespaces.{lacks_namespace}
use Rattle.apicore.proofs.Faults.{same_fault}
use Rattle.apicore.proofs.Looking.{looked_as}
use Rattle.apicore.proofs.Places.{place_missing, place_free}
use Rattle.apicore.proofs.namespaces.place_of.Goals as goal

pub returns-then-is_missing-clause-place : goal.returns-then-is_missing-clause-place
returns-then-is_missing-clause-place g c = λ held v over.
    let served : has_resource c.args.core.now.rules.format c.args.key.now.resource ≡ true = search rules in
    let missing : lacks_namespace c.args.core.now.rules held c.args.key.now ≡ true =
    sym (c.is_missing.ensures c.args.core.now.rules held (search rules) (c.in_ok-namespace.ensures.namespace held v over)) ∙ c.if-is_missing.true in
    place_missing c.args.core.now.rules held c.args.key.now served missing

pub returns-clause-place : goal.returns-clause-place
returns-clause-place g c = λ held v over.
    let served : has_resource c.args.core.now.rules.format c.args.key.now.resource ≡ true = search rules in
    let shown = c.in_ok-namespace.ensures.namespace held v over in
    let missing : lacks_namespace c.args.core.now.rules held c.args.key.now ≡ false =
    sym (c.is_missing.ensures c.args.core.now.rules held (search rules) shown) ∙ c.if-is_missing.false in
    record { placed = place_free c.args.core.now.rules held c.args.key.now served missing; is = shown }

pub returns-in_err-namespace-clause-looked : goal.returns-in_err-namespace-clause-looked
returns-in_err-namespace-clause-looked g c =
    let handed = c.from_residual in
    looked_as g.S.Source.holds g.S.Source.goes_to g.S.Source.failures g.S.Source.unfailed c.args.core.now c.args.source.now c.namespace_of.new.source c.namespace_of.result handed.result
    (λ fault told. same_fault handed.ensures.1 c.in_err-namespace.was told) (IfOk-from_err handed.result _ handed.ensures.0) c.namespace_of.ensures.looked
