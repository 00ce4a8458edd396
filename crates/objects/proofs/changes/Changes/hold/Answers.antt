use Rattle.std.proofs.Common.{ap, ◌∙◌}
use Rattle.objects.specs.Objects.{with_value}
use Rattle.objects.specs.Changes.{Changes}
use Rattle.objects.proofs.Leaving.{leaves_same}
use Rattle.objects.proofs.changes.Changes.hold.Goals as goal

pub returns-clause-leaves : goal.returns-clause-leaves
returns-clause-leaves g c = λ base left over is.
    leaves_same c.args.self.now _ c.args.change.0 c.args.change.1 base left
    (c.put-same.ensures.entries ∙ ap (λ (now : Changes g.row.T.Denot). with_value c.args.change.0 c.args.change.1 now.made) c.self.view_is)
    (ap (λ (now : Changes g.row.T.Denot). now.count) c.self.view_is) over is
