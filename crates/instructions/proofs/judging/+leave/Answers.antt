use Rattle.std.proofs.Common.{◌≡◌, List, ◌∷◌, Result, sym, ap, subst, ◌∙◌}
use Rattle.instructions.specs.declared.fault.CodeFault.{CodeFault}
use Rattle.instructions.specs.Judging.{OpenBody}
use Rattle.instructions.specs.Bodies.{Table, table_of, tables_of, AreOpen, Follows}
use Rattle.instructions.proofs.Leaving.{tables_of_more, leaves_fails, leaves_one}
use Rattle.instructions.proofs.judging.+leave.Goals as goal

pub returns-then-not-ends_with_one-clause-follows : goal.returns-then-not-ends_with_one-clause-follows
returns-then-not-ends_with_one-clause-follows t c = λ count bodies o.
    let e : tables_of c.args.outer.now.items ≡ table_of c.in-Some.around ∷ tables_of c.pop.new.self.items = ap tables_of c.in-Some.ensures.items ∙ tables_of_more c.pop.new.self.items c.in-Some.around in
    let inside : AreOpen c.args.at count (table_of c.args.body) (table_of c.in-Some.around ∷ tables_of c.pop.new.self.items) bodies = subst (λ (ts : List Table). AreOpen c.args.at count (table_of c.args.body) ts bodies) e o in
    leaves_fails c.args.at count (table_of c.args.body) (table_of c.in-Some.around) (tables_of c.pop.new.self.items) bodies inside c.if-body-at.false (sym c.ends_with_one.ensures ∙ c.if-not-ends_with_one.true)

pub returns-else-not-ends_with_one-clause-follows : goal.returns-else-not-ends_with_one-clause-follows
returns-else-not-ends_with_one-clause-follows t c = λ count bodies o.
    let e : tables_of c.args.outer.now.items ≡ table_of c.in-Some.around ∷ tables_of c.pop.new.self.items = ap tables_of c.in-Some.ensures.items ∙ tables_of_more c.pop.new.self.items c.in-Some.around in
    let inside : AreOpen c.args.at count (table_of c.args.body) (table_of c.in-Some.around ∷ tables_of c.pop.new.self.items) bodies = subst (λ (ts : List Table). AreOpen c.args.at count (table_of c.args.body) ts bodies) e o in
    let a = leaves_one c.args.at count (table_of c.args.body) (table_of c.in-Some.around) (tables_of c.pop.new.self.items) bodies inside c.if-body-at.false (sym c.ends_with_one.ensures ∙ c.if-not-ends_with_one.false) in
    subst (λ (r : Result (OpenBody × List OpenBody) CodeFault). Follows c.args.at count c.leave.result c.leave.new.outer.items r) (sym a.goes) (c.leave.ensures.follows count a.others a.standing)

pub returns-else-not-ends_with_one-clause-inside : goal.returns-else-not-ends_with_one-clause-inside
returns-else-not-ends_with_one-clause-inside t c = λ count bodies o lt.
    let e : tables_of c.args.outer.now.items ≡ table_of c.in-Some.around ∷ tables_of c.pop.new.self.items = ap tables_of c.in-Some.ensures.items ∙ tables_of_more c.pop.new.self.items c.in-Some.around in
    let inside : AreOpen c.args.at count (table_of c.args.body) (table_of c.in-Some.around ∷ tables_of c.pop.new.self.items) bodies = subst (λ (ts : List Table). AreOpen c.args.at count (table_of c.args.body) ts bodies) e o in
    let a = leaves_one c.args.at count (table_of c.args.body) (table_of c.in-Some.around) (tables_of c.pop.new.self.items) bodies inside c.if-body-at.false (sym c.ends_with_one.ensures ∙ c.if-not-ends_with_one.false) in
    c.leave.ensures.inside count a.others a.standing lt
