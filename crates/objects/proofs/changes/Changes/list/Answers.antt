use Rattle.std.proofs.Common.{ap, ◌∙◌, map}
use Rattle.objects.specs.Changes.{Changes}
use Rattle.objects.proofs.Listed.{list_leaves, list_merged}
use Rattle.objects.proofs.changes.Changes.list.Goals as goal

pub returns-clause-listed : goal.returns-clause-listed
returns-clause-listed g c = λ base left over is.
    list_leaves (λ v. v.items) c.args.self.now c.args.resource _ _ _ c.args.below.now base left c.merged.result
    (ap (λ lent. map (λ change. change.now) lent) c.deref.ensures.value ∙ c.in_ok-changes.ensures) (ap (λ (now : Changes g.row.T.Denot). now.made) c.self.view_is)
    c.entries-made.ensures.ascending over is c.merged.ensures

pub returns-clause-merged : goal.returns-clause-merged
returns-clause-merged g c = λ ascends.
    list_merged (λ v. v.items) c.args.self.now c.args.resource _ _ _ c.args.below.now c.merged.result
    (ap (λ lent. map (λ change. change.now) lent) c.deref.ensures.value ∙ c.in_ok-changes.ensures) (ap (λ (now : Changes g.row.T.Denot). now.made) c.self.view_is)
    c.entries-made.ensures.ascending ascends c.merged.ensures
