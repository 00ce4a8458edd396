use Rattle.std.proofs.Common.{rules}
use Rattle.documents.proofs.metadata.is_metadata_member.Goals as goal

pub returns-in-name : goal.returns-in-name
returns-in-name c = rw c.in-name.is (search rules)

pub returns-in-namespace : goal.returns-in-namespace
returns-in-namespace c = rw c.in-namespace.is (search rules)

pub returns-in-labels : goal.returns-in-labels
returns-in-labels c = search rules

pub returns-in-resourceVersion : goal.returns-in-resourceVersion
returns-in-resourceVersion c = rw c.in-resourceVersion.is (search rules)

pub returns-in_default : goal.returns-in_default
returns-in_default c = search rules
