use Rattle.std.proofs.Common.{arith, refl, ap, subst, ◌≡◌, ◌+◌, ◌*◌, ◌++◌, ◌∷◌, [], ℕ, take}
use Rattle.std.proofs.lemmas.List.{length-append}
use Rattle.std.specs.Prelude.{Bool, true, false, not}
use Rattle.gatelog.specs.Log.{HoldsLog}
use Rattle.gatelog.specs.Payload.{payload_of}
use Rattle.gatelog.specs.Record.{sectors}
use Rattle.gatelog.proofs.Exits.{has_failed, ok_and_err}
use Rattle.gatelog.proofs.gate_log.Log.append.Goals as goal

-- what has failed is not settled
works_not : {failed : Bool} → false ≡ not failed → failed ≡ false → ⊥
works_not {failed = true} refused works = cc
works_not {failed = false} refused works = cc

pub returns-in_err-check_works-clause-any_moment : goal.returns-in_err-check_works-clause-any_moment
returns-in_err-check_works-clause-any_moment g c = λ keeps payloads settled. absurd (works_not c.in_err-check_works.ensures.works settled.works)

pub returns-in_err-check_works-clause-found : goal.returns-in_err-check_works-clause-found
returns-in_err-check_works-clause-found g c = λ keeps payloads settled. absurd (works_not c.in_err-check_works.ensures.works settled.works)

pub returns-in_err-check_works-clause-left : goal.returns-in_err-check_works-clause-left
returns-in_err-check_works-clause-left g c = λ keeps payloads settled. absurd (works_not c.in_err-check_works.ensures.works settled.works)

pub returns-in_err-check_works-clause-cause : goal.returns-in_err-check_works-clause-cause
returns-in_err-check_works-clause-cause g c = λ works. absurd (works_not c.in_err-check_works.ensures.works works)

pub returns-in_err-write_record-clause-any_moment : goal.returns-in_err-write_record-clause-any_moment
returns-in_err-write_record-clause-any_moment g c = λ keeps payloads settled.
    (c.write_record.ensures.stands keeps c.args.self.now.first_gate_sector payloads settled.holds settled.durable).moments

pub returns-in_err-write_record-clause-found : goal.returns-in_err-write_record-clause-found
returns-in_err-write_record-clause-found g c = λ keeps payloads settled.
    (c.write_record.ensures.stands keeps c.args.self.now.first_gate_sector payloads settled.holds settled.durable).seen

pub returns-in_err-write_record-clause-left : goal.returns-in_err-write_record-clause-left
returns-in_err-write_record-clause-left g c = λ keeps payloads settled.
    (c.write_record.ensures.stands keeps c.args.self.now.first_gate_sector payloads settled.holds settled.durable).crash

pub returns-in_err-write_record-clause-cause : goal.returns-in_err-write_record-clause-cause
returns-in_err-write_record-clause-cause g c = λ works. record {
  later = c.write_record.ensures.cause.later;
  failed = λ is. has_failed c.write_record.ensures.cause c.in_err-write_record.was;
  well = ok_and_err c.from_residual-in_err-write_record.result c.from_residual-in_err-write_record.ensures.0;
}

pub returns-clause-ok : goal.returns-clause-ok
returns-clause-ok g c = λ keeps payloads settled.
    let log = c.args.self.now in
    let payload = payload_of c.args.body in
    let content = g.D.Device.disk.content c.write_record.new.device in
    let End : ℕ → Type 0 = λ last. HoldsLog log.first_gate_sector (payloads ++ payload ∷ []) last content in
    record {
      works = refl;
      holds = subst End (behind log.last_gate_sector c.sectors.result (sectors payload) c.sectors.ensures)
          (c.in_ok-write_record.ensures.longer keeps log.first_gate_sector payloads settled.holds settled.durable);
      counted = omega (arith, settled.counted, length-append payloads (payload ∷ []));
      durable = λ left is_left. ap (take (512 * (log.last_gate_sector + (1 + c.sectors.result)) + 512)) (c.in_ok-write_record.ensures.durable keeps left is_left);
    }
  where
    behind : (last told count : ℕ) → told ≡ count → last + 1 + count ≡ last + (1 + told)
    behind last told count same = omega arith

pub returns-clause-any_moment : goal.returns-clause-any_moment
returns-clause-any_moment g c = λ keeps payloads settled.
    (c.write_record.ensures.stands keeps c.args.self.now.first_gate_sector payloads settled.holds settled.durable).moments

pub returns-clause-found : goal.returns-clause-found
returns-clause-found g c = λ keeps payloads settled.
    (c.write_record.ensures.stands keeps c.args.self.now.first_gate_sector payloads settled.holds settled.durable).seen

pub returns-clause-left : goal.returns-clause-left
returns-clause-left g c = λ keeps payloads settled.
    (c.write_record.ensures.stands keeps c.args.self.now.first_gate_sector payloads settled.holds settled.durable).crash
