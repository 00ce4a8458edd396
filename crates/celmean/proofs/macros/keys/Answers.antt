use Rattle.std.proofs.Common.{arith}
use Rattle.std.proofs.lemmas.Grind.{common_steps}
use Rattle.celmean.specs.Seen.{entries_seen}
use Rattle.celmean.proofs.Lists.{entries-mapping}
use Rattle.celmean.proofs.macros.keys.Goals as goal

pub returns : goal.returns
returns c = rw (entries-mapping (entries_seen c.args.entries.now.items)) (grind (arith, common_steps))
