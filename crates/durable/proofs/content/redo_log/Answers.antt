use Rattle.std.proofs.Common.{◌∙◌, refl, sym, ap, subst, inl, inr, ⊎_elim, ℕ, List, [], ◌∷◌, ◌++◌, Err}
use Rattle.std.specs.List.{AllByRecursion}
use Rattle.gatelog.specs.Walk.{Passes}
use Rattle.gatelog.proofs.Walking.{same_then, passes-here}
use Rattle.checkpoint.proofs.Faults.{err_is}
use Rattle.records.proofs.Groups.{all-push}
use Rattle.recovery.specs.Known.{AllKnown, IsOfGroup}
use Rattle.recovery.specs.Taken.{HasRedone}
use Rattle.recovery.proofs.Joining.{known_front, known_rest, redone_none, redone_more, none_redone}
use Rattle.durable.specs.declared.fault.Fault.TheVariants as Fault
use Rattle.durable.proofs.Bases.{log_or_plans}
use Rattle.durable.proofs.FoundFaults.{long_or_memory, only_damaged, of_payloads, of_records}
use Rattle.durable.proofs.Payloads.{one_more, next_one, all_read, none_left}
use Rattle.durable.proofs.Unwritten.{idle}
use Rattle.durable.proofs.content.redo_log.Goals as goal

pub each-init : goal.each-init
each-init g c = record {
  still = record { first = refl; last = refl; count = refl };
  works = c.requires.works;
  ran = idle g.D.Device.disk c.args.device.now (λ content keeps since. g.met.D.Device.only_now c.args.device.now content keeps since);
  steady = refl;
  rules_stay = refl;
  cache = refl;
  known = λ base key known. known;
  passed = [];
  passes = λ keeps.
      let log = c.args.log.now in
      let content = g.D.Device.disk.content c.args.device.now in
      let At : ℕ → Type 0 = λ at. Passes log.first_gate_sector [] at log.last_gate_sector content in
      subst At (sym c.first_gate_sector-gate.ensures.gate) (passes-here log.first_gate_sector log.last_gate_sector content);
  groups = tt;
  redone = λ base held shows known. redone_none c.args.paged.core.rules base held c.args.paged.core shows;
}

pub each-preserved : goal.each-preserved
each-preserved g c =
    let inv = c.each.invariant in
    let disk = g.D.Device.disk in
    let log = c.args.log.now in
    let item = c.in-Some.payload.items in
    record {
      still = record {
        first = c.payload.ensures.place.0 ∙ inv.still.first;
        last = c.payload.ensures.place.1 ∙ inv.still.last;
        count = c.payload.ensures.counted ∙ inv.still.count;
      };
      works = c.in_ok-payload.ensures.works;
      ran = same_then disk c.args.device.now c.each.device c.payload.new.device inv.ran c.payload.ensures.ran;
      steady = c.in_ok-payload.ensures.steady ∙ inv.steady;
      rules_stay = c.in_ok-paged.ensures.rules ∙ inv.rules_stay;
      cache = c.in_ok-paged.ensures.cache ∙ inv.cache;
      known = λ base key known. c.in_ok-paged.ensures.known base key (inv.known base key known);
      passed = inv.passed ++ item ∷ [];
      passes = λ keeps.
          one_more log.first_gate_sector c.each.gate log.last_gate_sector c.each.log.last_gate_sector (disk.content c.args.device.now) (disk.content c.each.device) inv.passed
          inv.still.last (inv.ran.seen keeps) (inv.passes keeps) c.in_ok-payload.field-0 (c.in_ok-payload.ensures.found (inv.ran.kept keeps)) (c.in-Some.payload, c.in-Some.next)
          c.in-Some.is;
      groups = all-push IsOfGroup inv.passed item inv.groups c.in_ok-paged.ensures.groups.0;
      redone = λ base held shows known.
          let first = c.args.paged.core in
          let so_far = inv.redone base held shows (known_front first base inv.passed (item ∷ []) known) in
          redone_more first.rules c.each.paged.core.rules base held c.each.paged.core c.in_ok-paged.paged.core inv.passed item inv.rules_stay so_far
          (c.in_ok-paged.ensures.found base so_far.now so_far.shows (known_rest first c.each.paged.core base inv.passed (item ∷ []) inv.known known));
    }

pub returns-clause-found : goal.returns-clause-found
returns-clause-found g c = λ keeps payloads held_log base held shows known.
    let inv = c.each.invariant in
    let disk = g.D.Device.disk in
    let log = c.args.log.now in
    let first = c.args.paged.core in
    let all = all_read log.first_gate_sector c.each.gate log.last_gate_sector c.each.log.last_gate_sector (disk.content c.args.device.now) (disk.content c.each.device) inv.passed
    inv.still.last (inv.ran.seen keeps) (inv.passes keeps) c.in_ok-payload.field-0 (c.in_ok-payload.ensures.found (inv.ran.kept keeps)) c.in_default.is payloads held_log in
    let Known : List (List ℕ) → Type 0 = λ ps. AllKnown first base ps in
    let Redone : List (List ℕ) → Type 0 = λ ps. HasRedone first.rules base held c.each.paged.core ps in
    subst Redone (sym all) (inv.redone base held shows (subst Known all known))

pub returns-clause-groups : goal.returns-clause-groups
returns-clause-groups g c = λ keeps payloads held_log.
    let inv = c.each.invariant in
    let disk = g.D.Device.disk in
    let log = c.args.log.now in
    let all = all_read log.first_gate_sector c.each.gate log.last_gate_sector c.each.log.last_gate_sector (disk.content c.args.device.now) (disk.content c.each.device) inv.passed
    inv.still.last (inv.ran.seen keeps) (inv.passes keeps) c.in_ok-payload.field-0 (c.in_ok-payload.ensures.found (inv.ran.kept keeps)) c.in_default.is payloads held_log in
    let Each : List (List ℕ) → Type 0 = λ ps. AllByRecursion IsOfGroup ps in
    subst Each (sym all) inv.groups

pub returns-clause-redone : goal.returns-clause-redone
returns-clause-redone g c = λ base held shows known.
    let inv = c.each.invariant in
    (inv.passed, inv.redone base held shows (λ payload key has writes. known key))

pub returns-in_err-payload-clause-damaged : goal.returns-in_err-payload-clause-damaged
returns-in_err-payload-clause-damaged g c = λ keeps damage told payloads held_log base held shows known ws written.
    let inv = c.each.invariant in
    let disk = g.D.Device.disk in
    let log = c.args.log.now in
    let damaged = c.in_err-payload.was ∙ ap Err (only_damaged c.in_err-payload.field-0.0 damage (sym (err_is c.from_residual.result _ (Fault.Damaged damage) c.from_residual.ensures.1 told))) in
    none_left log.first_gate_sector c.each.gate log.last_gate_sector c.each.log.last_gate_sector (disk.content c.args.device.now) (disk.content c.each.device) inv.passed
    inv.still.last (inv.ran.seen keeps) (inv.passes keeps) (c.payload.ensures.damaged (inv.ran.kept keeps) damaged) payloads held_log

pub returns-in_err-payload-clause-told : goal.returns-in_err-payload-clause-told
returns-in_err-payload-clause-told g c = λ damage told.
    of_records c.in_err-payload.field-0.0 damage (sym (err_is c.from_residual.result _ (Fault.Damaged damage) c.from_residual.ensures.1 told))

pub returns-in_err-payload-clause-unfailed : goal.returns-in_err-payload-clause-unfailed
returns-in_err-payload-clause-unfailed g c = λ told.
    ⊎_elim (λ is. absurd (c.payload.ensures.refusal (c.in_err-payload.was ∙ ap Err is))) (λ is. c.payload.ensures.unfailed (inl (c.in_err-payload.was ∙ ap Err is)) ∙ c.each.invariant.steady)
    (long_or_memory c.in_err-payload.field-0.0 (sym (err_is c.from_residual.result _ Fault.Memory c.from_residual.ensures.1 told)))

pub returns-in_err-paged-clause-damaged : goal.returns-in_err-paged-clause-damaged
returns-in_err-paged-clause-damaged g c = λ keeps damage told payloads held_log base held shows known ws written.
    let inv = c.each.invariant in
    let disk = g.D.Device.disk in
    let log = c.args.log.now in
    let first = c.args.paged.core in
    let item = c.in-Some.payload.items in
    let next = next_one log.first_gate_sector c.each.gate log.last_gate_sector c.each.log.last_gate_sector (disk.content c.args.device.now) (disk.content c.each.device) inv.passed
    inv.still.last (inv.ran.seen keeps) (inv.passes keeps) c.in_ok-payload.field-0 (c.in_ok-payload.ensures.found (inv.ran.kept keeps)) (c.in-Some.payload, c.in-Some.next)
    c.in-Some.is payloads held_log in
    let Known : List (List ℕ) → Type 0 = λ ps. AllKnown first base ps in
    let all_known = subst Known next.1 known in
    let so_far = inv.redone base held shows (known_front first base inv.passed (item ∷ next.0) all_known) in
    let one_known = known_front c.each.paged.core base (item ∷ []) next.0 (known_rest first c.each.paged.core base inv.passed (item ∷ next.0) inv.known all_known) in
    none_redone first.rules c.each.paged.core.rules base held c.each.paged.core inv.passed item next.0 payloads inv.rules_stay so_far next.1
    (λ us one.
    ⊎_elim (λ is. c.redone.ensures.damaged base so_far.now so_far.shows one_known (inl (c.in_err-paged.was ∙ ap Err is)) us one)
    (λ is. c.redone.ensures.damaged base so_far.now so_far.shows one_known (inr (c.in_err-paged.was ∙ ap Err is)) us one)
    (log_or_plans c.in_err-paged.field-0.0 damage (sym (err_is c.from_residual-in_err-paged.result _ (Fault.Damaged damage) c.from_residual-in_err-paged.ensures.1 told))))
    ws written

pub returns-in_err-paged-clause-told : goal.returns-in_err-paged-clause-told
returns-in_err-paged-clause-told g c = λ damage told.
    of_payloads c.in_err-paged.field-0.0 damage (sym (err_is c.from_residual-in_err-paged.result _ (Fault.Damaged damage) c.from_residual-in_err-paged.ensures.1 told))
