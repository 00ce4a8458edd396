use Rattle.std.proofs.Common.{sym, ap, ◌∙◌}
use Rattle.std.specs.Prelude.{option_map}
use Rattle.histories.specs.declared.stored.Stored.{Stored}
use Rattle.holdings.specs.Writes.{Put}
use Rattle.holdings.proofs.prepared.Put.beside.Goals as goal

pub unreachable-requires : goal.unreachable-requires
unreachable-requires g c = cc (c.self.invariant.1, ap (option_map (λ s. s.document)) (sym c.value.ensures ∙ c.in-None.is))

pub returns : goal.returns
returns g c =
    ap (option_map (λ (s : Stored g.row.P.Denot). s.beside)) (sym c.in-Some.is ∙ c.value.ensures)
    ∙ ap (λ (p : Put g.row.P.Denot). option_map (λ (s : Stored g.row.P.Denot). s.beside) p.stored) c.self.view_is
