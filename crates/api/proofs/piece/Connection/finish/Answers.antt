use Rattle.std.proofs.Common.{refl, subst}
use Rattle.httpmsg.specs.Stream.{IsStream}
use Rattle.httpmsg.specs.declared.head.End.TheVariants.{Broken}
use Rattle.api.proofs.piece.Connection.finish.Goals as goal

pub returns-in-Ok-write_fault-clause-outcome : goal.returns-in-Ok-write_fault-clause-outcome
returns-in-Ok-write_fault-clause-outcome g c read ms cut none = record {
  stream = subst (IsStream read ms) c.in-Err.ensures.end (c.ending.ensures.stream read ms cut);
  written = c.in-Ok-write_fault.ensures.writes;
}

pub returns-clause-outcome : goal.returns-clause-outcome
returns-clause-outcome g c read ms cut none = record {
  is = refl;
  end = Broken c.in-Err.broken;
  stream = subst (IsStream read ms) c.in-Err.ensures.end (c.ending.ensures.stream read ms cut);
  written = c.in-Err-write_fault.ensures.writes;
}
