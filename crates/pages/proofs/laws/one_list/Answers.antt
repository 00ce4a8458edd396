use Rattle.std.proofs.Common.{sym, ◌∙◌}
use Rattle.pages.proofs.laws.one_list.Goals as goal

pub returns : goal.returns
returns c = λ bytes first second one other. sym one.are ∙ other.are
