use Rattle.std.proofs.Common.{ap, ◌∙◌, map}
use Rattle.objects.specs.Changes.{Changes}
use Rattle.objects.proofs.Listed.{left_merged}
use Rattle.objects.proofs.changes.Changes.left.Goals as goal

pub returns : goal.returns
returns g c = λ left over.
    left_merged (λ v. v.items) c.args.self.now _ _ c.args.below.now left c.merged.result
    (ap (λ lent. map (λ change. change.now) lent) c.deref.ensures.value ∙ c.in_ok-made.ensures ∙ c.entries.ensures.value)
    (ap (λ (now : Changes g.row.T.Denot). now.made) c.self.view_is) c.entries.ensures.ascending over c.merged.ensures
