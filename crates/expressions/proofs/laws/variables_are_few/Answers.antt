use Rattle.std.proofs.Common.{◌≡◌, ◌≤◌, length, Some, arith}
use Rattle.serde_json.specs.Data.{Data}
use Rattle.policy.specs.Spec.{Policy}
use Rattle.expressions.specs.Places.{policy_in}
use Rattle.expressions.proofs.Counting.{variables_counted_too}
use Rattle.expressions.proofs.Standing.{few_sources}
use Rattle.expressions.proofs.laws.variables_are_few.Goals as goal

few : (d : Data) (p : Policy) → policy_in d ≡ Some p → length p.variables ≤ 65535
few d p spelled = let all = few_sources d p spelled in let some = variables_counted_too p in omega arith

pub returns : goal.returns
returns c = few
