use Rattle.gatelog.proofs.Walking.{at_most_one}
use Rattle.gatelog.proofs.gate_log.Log.first_gate_sector.Goals as goal

pub returns-clause-one_log : goal.returns-clause-one_log
returns-clause-one_log c = at_most_one
