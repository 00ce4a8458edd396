use Rattle.std.proofs.Common.{rules, ◌∙◌, ap, slice_index, ℕ, List}
use Rattle.gatelog.proofs.Gathering.{get-grown}
use Rattle.gatelog.proofs.record.grow.Goals as goal

pub returns-clause-same : goal.returns-clause-same
returns-clause-same c = λ k. ap (λ (x : List ℕ). slice_index x k) c.in_ok-resize.ensures.items ∙ get-grown c.args.size _ c.args.bytes.now.items k (search rules)
