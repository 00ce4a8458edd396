use Rattle.std.proofs.Common.{rules, ⊎_elim, inl, inr}
use Rattle.paged.proofs.state.Paged.redone.Goals as goal

pub returns-in_err-core-clause-damaged : goal.returns-in_err-core-clause-damaged
returns-in_err-core-clause-damaged c base held shows known told writes written =
    ⊎_elim (λ is. c.redone.ensures.damaged base held shows known (inl (search rules)) writes written)
    (λ is. c.redone.ensures.damaged base held shows known (inr (search rules)) writes written)
    told
