use Rattle.expressions.proofs.Shortness.{fit_the_text}
use Rattle.expressions.proofs.laws.expressions_fit_the_text.Goals as goal

pub returns : goal.returns
returns c = fit_the_text
