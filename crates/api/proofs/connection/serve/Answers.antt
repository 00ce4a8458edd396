use Rattle.std.proofs.Common.{refl, inl, inr, ⊎_elim}
use Rattle.api.specs.declared.fault.ServeFault.TheVariants.{Read, Write, Device, Memory, Damaged, Failed}
use Rattle.api.proofs.Causes.{apart}
use Rattle.api.proofs.Runs.{at_ok, at_error}
use Rattle.api.proofs.connection.serve.Goals as goal

pub returns-clause-ended : goal.returns-clause-ended
returns-clause-ended g c rules v shows = at_ok c.serve_pieces.result _ _ (c.serve_pieces.ensures.outcome rules v shows)

pub returns-clause-read : goal.returns-clause-read
returns-clause-read g c rules v shows is = at_error c.serve_pieces.result _ _ Read (c.serve_pieces.ensures.outcome rules v shows) is

pub returns-clause-write : goal.returns-clause-write
returns-clause-write g c rules v shows is = at_error c.serve_pieces.result _ _ Write (c.serve_pieces.ensures.outcome rules v shows) is

pub returns-clause-device : goal.returns-clause-device
returns-clause-device g c rules v shows either =
    ⊎_elim (λ is. at_error c.serve_pieces.result _ _ Device (c.serve_pieces.ensures.outcome rules v shows) is)
    (λ is. at_error c.serve_pieces.result _ _ Failed (c.serve_pieces.ensures.outcome rules v shows) is) either

pub returns-clause-memory : goal.returns-clause-memory
returns-clause-memory g c rules v shows is = inr (at_error c.serve_pieces.result _ _ Memory (c.serve_pieces.ensures.outcome rules v shows) is)

pub returns-clause-never_damaged : goal.returns-clause-never_damaged
returns-clause-never_damaged g c rules v shows damage is =
    (at_error c.serve_pieces.result _ _ (Damaged damage) (c.serve_pieces.ensures.outcome rules v shows) is).holds

pub returns-clause-damaged : goal.returns-clause-damaged
returns-clause-damaged g c = c.serve_pieces.ensures.causes.damaged

pub returns-clause-failed : goal.returns-clause-failed
returns-clause-failed g c = c.serve_pieces.ensures.causes.failed

pub returns-clause-read_cause : goal.returns-clause-read_cause
returns-clause-read_cause g c = c.serve_pieces.ensures.causes.read

pub returns-clause-write_cause : goal.returns-clause-write_cause
returns-clause-write_cause g c = c.serve_pieces.ensures.causes.write

pub returns-clause-device_cause : goal.returns-clause-device_cause
returns-clause-device_cause g c = c.serve_pieces.ensures.causes.device

pub returns-clause-damage_told : goal.returns-clause-damage_told
returns-clause-damage_told g c = c.serve_pieces.ensures.damage_told

pub returns-clause-read_well : goal.returns-clause-read_well
returns-clause-read_well g c = c.serve_pieces.ensures.causes.input_well

pub returns-clause-write_well : goal.returns-clause-write_well
returns-clause-write_well g c = c.serve_pieces.ensures.causes.output_well

pub returns-in-Err : goal.returns-in-Err
returns-in-Err g c = record {
  ended = λ rules v shows. tt;
  read = λ rules v shows is. apart Memory Read (λ is. cc) is;
  write = λ rules v shows is. apart Memory Write (λ is. cc) is;
  device = λ rules v shows either. ⊎_elim (λ is. apart Memory Device (λ is. cc) is) (λ is. apart Memory Failed (λ is. cc) is) either;
  memory = λ rules v shows is. inl (refl, refl, refl);
  never_damaged = λ rules v shows damage is. apart Memory (Damaged damage) (λ is. cc) is;
  damaged = λ damage is. apart Memory (Damaged damage) (λ is. cc) is;
  damage_told = λ damage is. apart Memory (Damaged damage) (λ is. cc) is;
  failed = λ is. apart Memory Failed (λ is. cc) is;
  read_well = λ other. refl;
  write_well = tt;
  read_cause = λ is. apart Memory Read (λ is. cc) is;
  write_cause = λ is. apart Memory Write (λ is. cc) is;
  device_cause = λ is. apart Memory Device (λ is. cc) is;
}
