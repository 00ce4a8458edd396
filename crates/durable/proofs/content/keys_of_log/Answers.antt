use Rattle.std.proofs.Common.{arith, ◌∙◌, refl, sym, ap, subst, inl, ⊎_elim, ℕ, List, [], ◌∷◌, ◌++◌, Contains, Err}
use Rattle.std.proofs.lemmas.List.Elements.{Contains-push_cases}
use Rattle.gatelog.specs.Walk.{Passes}
use Rattle.gatelog.proofs.Walking.{same_then, passes-here}
use Rattle.names.specs.Key.{Key, key_bytes}
use Rattle.checkpoint.proofs.Faults.{err_is}
use Rattle.recovery.specs.Known.{Writes}
use Rattle.durable.specs.declared.fault.Fault.TheVariants as Fault
use Rattle.durable.proofs.FoundFaults.{long_or_memory, only_damaged}
use Rattle.durable.proofs.Payloads.{one_more, all_read, none_left}
use Rattle.durable.proofs.Unwritten.{idle}
use Rattle.durable.proofs.content.keys_of_log.Goals as goal

pub each-init : goal.each-init
each-init g c = record {
  still = record { first = refl; last = refl; count = refl };
  works = c.requires.works;
  ran = idle g.D.Device.disk c.args.device.now (λ content keeps since. g.met.D.Device.only_now c.args.device.now content keeps since);
  steady = refl;
  passed = [];
  passes = λ keeps.
      let log = c.args.log.now in
      let content = g.D.Device.disk.content c.args.device.now in
      let At : ℕ → Type 0 = λ at. Passes log.first_gate_sector [] at log.last_gate_sector content in
      subst At (sym c.first_gate_sector-gate.ensures.gate) (passes-here log.first_gate_sector log.last_gate_sector content);
  chosen = λ payload key has writes. absurd (omega (arith, has.1));
}

pub each-preserved : goal.each-preserved
each-preserved g c =
    let inv = c.each.invariant in
    let disk = g.D.Device.disk in
    let log = c.args.log.now in
    let item = c.in-Some.payload.items in
    record {
      still = record {
        first = c.payload.ensures.place.0 ∙ inv.still.first;
        last = c.payload.ensures.place.1 ∙ inv.still.last;
        count = c.payload.ensures.counted ∙ inv.still.count;
      };
      works = c.in_ok-payload.ensures.works;
      ran = same_then disk c.args.device.now c.each.device c.payload.new.device inv.ran c.payload.ensures.ran;
      steady = c.in_ok-payload.ensures.steady ∙ inv.steady;
      passed = inv.passed ++ item ∷ [];
      passes = λ keeps.
          one_more log.first_gate_sector c.each.gate log.last_gate_sector c.each.log.last_gate_sector (disk.content c.args.device.now) (disk.content c.each.device) inv.passed
          inv.still.last (inv.ran.seen keeps) (inv.passes keeps) c.in_ok-payload.field-0 (c.in_ok-payload.ensures.found (inv.ran.kept keeps)) (c.in-Some.payload, c.in-Some.next)
          c.in-Some.is;
      chosen = λ payload key has writes.
          let Of : List ℕ → Type 0 = λ p. Writes p key in
          let In : List Key → Type 0 = λ ks. Contains ks key in
          ⊎_elim (λ before. c.add.ensures.stays (1 ∷ key_bytes key) (inv.chosen payload key before writes))
          (λ same. c.in_ok-add.ensures.added key (subst In (sym c.deref.ensures.value) (c.in_ok-keys_in.ensures.all key (subst Of (sym same) writes))))
          (Contains-push_cases inv.passed item payload has);
    }

pub returns-clause-all : goal.returns-clause-all
returns-clause-all g c = λ keeps payloads held payload key has writes.
    let inv = c.each.invariant in
    let disk = g.D.Device.disk in
    let log = c.args.log.now in
    let In : List (List ℕ) → Type 0 = λ ps. Contains ps payload in
    let all = all_read log.first_gate_sector c.each.gate log.last_gate_sector c.each.log.last_gate_sector (disk.content c.args.device.now) (disk.content c.each.device) inv.passed
    inv.still.last (inv.ran.seen keeps) (inv.passes keeps) c.in_ok-payload.field-0 (c.in_ok-payload.ensures.found (inv.ran.kept keeps)) c.in_default.is payloads held in
    inv.chosen payload key (subst In all has) writes

pub returns-in_err-payload-clause-damaged : goal.returns-in_err-payload-clause-damaged
returns-in_err-payload-clause-damaged g c = λ keeps damage told payloads held.
    let inv = c.each.invariant in
    let disk = g.D.Device.disk in
    let log = c.args.log.now in
    let damaged = c.in_err-payload.was ∙ ap Err (only_damaged c.in_err-payload.field-0.0 damage (sym (err_is c.from_residual.result _ (Fault.Damaged damage) c.from_residual.ensures.1 told))) in
    none_left log.first_gate_sector c.each.gate log.last_gate_sector c.each.log.last_gate_sector (disk.content c.args.device.now) (disk.content c.each.device) inv.passed
    inv.still.last (inv.ran.seen keeps) (inv.passes keeps) (c.payload.ensures.damaged (inv.ran.kept keeps) damaged) payloads held

pub returns-in_err-payload-clause-unfailed : goal.returns-in_err-payload-clause-unfailed
returns-in_err-payload-clause-unfailed g c = λ told.
    ⊎_elim (λ is. absurd (c.payload.ensures.refusal (c.in_err-payload.was ∙ ap Err is))) (λ is. c.payload.ensures.unfailed (inl (c.in_err-payload.was ∙ ap Err is)) ∙ c.each.invariant.steady)
    (long_or_memory c.in_err-payload.field-0.0 (sym (err_is c.from_residual.result _ Fault.Memory c.from_residual.ensures.1 told)))
