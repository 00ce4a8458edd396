use Rattle.std.proofs.Common.{rules}
use Rattle.requests.proofs.delete_options.is_option.Goals as goal

pub returns-in-apiVersion : goal.returns-in-apiVersion
returns-in-apiVersion c = rw c.in-apiVersion.is (search rules)

pub returns-in-kind : goal.returns-in-kind
returns-in-kind c = rw c.in-kind.is (search rules)

pub returns-in-preconditions : goal.returns-in-preconditions
returns-in-preconditions c = rw c.in-preconditions.is (search rules)

pub returns-in_default : goal.returns-in_default
returns-in_default c = search rules
