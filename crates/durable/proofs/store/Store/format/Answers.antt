use Rattle.std.proofs.Common.{◌∙◌, sym, ap}
use Rattle.roots.specs.declared.root.Root.{Root}
use Rattle.durable.specs.Settled.{root_of}
use Rattle.durable.proofs.Numbers.{format_of}
use Rattle.durable.proofs.store.Store.format.Goals as goal

pub returns-clause-value : goal.returns-clause-value
returns-clause-value g c =
    let store = c.args.self.now in
    ap (λ (r : Root). r.label.format) c.root.ensures ∙ sym (format_of store.paged.core.rules (root_of store).label store.numbers)
