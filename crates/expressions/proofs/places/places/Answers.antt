use Rattle.std.proofs.Common.{rules}
use Rattle.policy.specs.Spec.{policy_seen}
use Rattle.expressions.proofs.Counting.{counted, not_counted}
use Rattle.expressions.proofs.places.places.Goals as goal

pub returns-then-len-gt65535-2 : goal.returns-then-len-gt65535-2
returns-then-len-gt65535-2 c = not_counted (policy_seen c.args.policy.now) c.in_ok-places.places.items c.in_ok-places.ensures (search rules)

pub returns : goal.returns
returns c = counted (policy_seen c.args.policy.now) c.in_ok-places.places.items c.in_ok-places.ensures (search rules)
