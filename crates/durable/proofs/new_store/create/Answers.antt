use Rattle.std.proofs.Common.{subst, sym, ap, List, ℕ, []}
use Rattle.durable.specs.Rules.{rules_by}
use Rattle.roots.specs.declared.root.Label.{Label}
use Rattle.roots.specs.NewStore.{first_label}
use Rattle.durable.specs.Stands.{StandsFor}
use Rattle.durable.proofs.Beginning.{stands_new}
use Rattle.durable.proofs.new_store.create.Goals as goal

pub returns-clause-stands : goal.returns-clause-stands
returns-clause-stands g c keeps =
    let root = c.in_ok-start.field-0 in
    let content : List ℕ = g.D.Device.disk.content c.start.new.device in
    let By : Label → Type 0 = λ l. StandsFor (rules_by l) content [] in
    subst By c.in_ok-start.ensures.label
    (stands_new content root (c.in_ok-start.ensures.root keeps) c.in_ok-start.ensures.first c.in_ok-start.ensures.pages
    (ap (λ (l : Label). l.revision) c.in_ok-start.ensures.label) (c.in_ok-start.ensures.log keeps))

pub returns-clause-left : goal.returns-clause-left
returns-clause-left g c keeps content left =
    let For : List ℕ → Type 0 = λ x. StandsFor (rules_by (first_label c.args.format)) x [] in
    subst For (sym (c.in_ok-start.ensures.durable keeps content left)) (returns-clause-stands g c keeps)
