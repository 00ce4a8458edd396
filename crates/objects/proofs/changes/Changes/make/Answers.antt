use Rattle.std.proofs.Common.{ap, ◌∙◌, ◌-◌, ◌+◌, ◌^◌, min}
use Rattle.std.specs.Int.{from_bool}
use Rattle.std.specs.Prelude.{Option}
use Rattle.objects.specs.Objects.{with_value}
use Rattle.objects.specs.Changes.{Changes}
use Rattle.objects.proofs.Leaving.{leaves_changed}
use Rattle.objects.proofs.changes.Changes.make.Goals as goal

pub returns-clause-leaves : goal.returns-clause-leaves
returns-clause-leaves g c = λ base left over is small.
    leaves_changed c.args.self.now _ c.args.change.0 c.args.change.1 c.args.stood c.saturating_sub-rest.result base left
    (c.put-old.ensures.entries ∙ ap (λ (now : Changes g.row.T.Denot). with_value c.args.change.0 c.args.change.1 now.made) c.self.view_is)
    (rw c.from.ensures at c.saturating_sub-rest.ensures ∙ ap (λ (now : Changes g.row.T.Denot). now.count - from_bool c.args.stood) c.self.view_is)
    (c.saturating_add-self-inside.ensures
    ∙ ap (λ n. min (c.saturating_sub-rest.result + n) (2 ^ 64 - 1)) (c.from-2.ensures ∙ ap from_bool c.is_some.ensures ∙ ap (λ found. from_bool (Rattle.std.specs.Prelude.is_some found)) c.value.ensures))
    over is small
