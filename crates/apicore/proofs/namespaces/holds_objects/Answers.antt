use Rattle.std.proofs.Common.{◌≡◌, ◌∙◌, ◌||◌, ap, sym, Bool}
use Rattle.std.proofs.lemmas.Result.{IfOk-weaker}
use Rattle.names.specs.declared.resource.Resource.TheVariants.{Service, Deployment}
use Rattle.apicore.specs.Namespaces.{holds_objects}
use Rattle.apicore.proofs.Looking.{looked_on}
use Rattle.decoded.proofs.Over.{over_kept}
use Rattle.apicore.proofs.Places.{Among, any_of_pairs}
use Rattle.apicore.proofs.namespaces.holds_objects.Goals as goal

pub returns-then-branch-clause-holds : goal.returns-then-branch-clause-holds
returns-then-branch-clause-holds g c = λ held v over.
    ap (λ (b : Bool). b || (Among Service c.args.namespace.now held || Among Deployment c.args.namespace.now held)) (sym c.if-branch.true ∙ c.in_ok-holds_either.ensures.holds held v over) ∙ any_of_pairs held c.args.namespace.now

pub returns-clause-holds : goal.returns-clause-holds
returns-clause-holds g c = λ held v over.
    IfOk-weaker c.holds_either-2.result (λ b. b ≡ (Among Service c.args.namespace.now held || Among Deployment c.args.namespace.now held)) (λ b. b ≡ holds_objects held c.args.namespace.now)
    (λ b same. same ∙ ap (λ (first : Bool). first || (Among Service c.args.namespace.now held || Among Deployment c.args.namespace.now held)) (sym c.if-branch.false ∙ c.in_ok-holds_either.ensures.holds held v over) ∙ any_of_pairs held c.args.namespace.now)
    (c.holds_either-2.ensures.holds held v (over_kept _ _ c.args.core.now held v c.in_ok-holds_either.ensures.looked.kept over))

pub returns-clause-looked : goal.returns-clause-looked
returns-clause-looked g c =
    let looked = c.in_ok-holds_either.ensures.looked in
    looked_on g.S.Source.holds g.S.Source.goes_to g.S.Source.failures g.S.Source.unfailed c.args.core.now c.args.source.now c.holds_either.new.source c.holds_either-2.new.source c.holds_either-2.result
    looked.kept looked.counts
    (g.met.S.Source.unfailed_on c.args.source.now c.holds_either.new.source c.holds_either-2.new.source looked.steady)
    (g.met.S.Source.goes_on c.args.source.now c.holds_either.new.source c.holds_either-2.new.source looked.goes c.holds_either-2.ensures.looked.goes) c.holds_either-2.ensures.looked
