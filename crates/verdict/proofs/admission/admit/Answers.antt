use Rattle.std.proofs.Common.{rules, ◌∙◌, sym, subst, List, Contains}
use Rattle.policy.specs.Forms.{Text}
use Rattle.policy.specs.Spec.{Binding}
use Rattle.verdict.proofs.admission.admit.Goals as goal

pub returns-clause-never_passed : goal.returns-clause-never_passed
returns-clause-never_passed g c = λ all lends spoiled.
    let In : List (Text × Binding) → Type 0 = λ bs. Contains bs spoiled.binding in
    let goes : g.L.Lookup.goes_to c.args.lookup.now c.bindings.new.lookup = c.bindings.ensures.goes in
    let still : g.L.Lookup.lends c.bindings.new.lookup all = search rules in
    c.verdict_of.ensures.never_passed all spoiled.binding still
    (subst In (sym (c.deref.ensures.value ∙ c.in_ok-bindings.ensures.lent all lends)) spoiled.stands) spoiled.asks
