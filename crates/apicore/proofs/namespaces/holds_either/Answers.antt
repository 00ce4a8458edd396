use Rattle.std.proofs.Common.{◌≡◌, ◌∙◌, ◌||◌, ap, sym, Bool}
use Rattle.std.proofs.lemmas.Result.{IfOk-weaker}
use Rattle.apicore.proofs.Looking.{looked_on}
use Rattle.decoded.proofs.Over.{over_kept}
use Rattle.apicore.proofs.Places.{Among}
use Rattle.apicore.proofs.namespaces.holds_either.Goals as goal

pub returns-then-branch-clause-holds : goal.returns-then-branch-clause-holds
returns-then-branch-clause-holds g c = λ held v over.
    ap (λ (b : Bool). b || Among c.args.second c.args.namespace.now held) (sym c.if-branch.true ∙ c.in_ok-holds_any.ensures.holds held v over)

pub returns-clause-holds : goal.returns-clause-holds
returns-clause-holds g c = λ held v over.
    IfOk-weaker c.holds_any-2.result (λ b. b ≡ Among c.args.second c.args.namespace.now held) (λ b. b ≡ (Among c.args.first c.args.namespace.now held || Among c.args.second c.args.namespace.now held))
    (λ b same. same ∙ ap (λ (first : Bool). first || Among c.args.second c.args.namespace.now held) (sym c.if-branch.false ∙ c.in_ok-holds_any.ensures.holds held v over))
    (c.holds_any-2.ensures.holds held v (over_kept _ _ c.args.core.now held v c.in_ok-holds_any.ensures.looked.kept over))

pub returns-clause-looked : goal.returns-clause-looked
returns-clause-looked g c =
    let looked = c.in_ok-holds_any.ensures.looked in
    looked_on g.S.Source.holds g.S.Source.goes_to g.S.Source.failures g.S.Source.unfailed c.args.core.now c.args.source.now c.holds_any.new.source c.holds_any-2.new.source c.holds_any-2.result
    looked.kept looked.counts
    (g.met.S.Source.unfailed_on c.args.source.now c.holds_any.new.source c.holds_any-2.new.source looked.steady)
    (g.met.S.Source.goes_on c.args.source.now c.holds_any.new.source c.holds_any-2.new.source looked.goes c.holds_any-2.ensures.looked.goes) c.holds_any-2.ensures.looked
