use Rattle.std.proofs.Common.{arith, ◌≡◌, ◌∙◌, ◌+◌, refl, sym, ap, subst, ◌⊎◌, inl, inr, ⊎_elim, true, false, true≢false, Some, Result, Err, IsErrOf}
use Rattle.std.proofs.lemmas.Result.{IfOk-from_err}
use Rattle.std.specs.Result.{IsErrAnd}
use Rattle.checkpoint.proofs.Faults.{err_is, was_err, no_fault}
use Rattle.roots.specs.declared.root.Label.{Label}
use Rattle.roots.specs.declared.root.Root.{Root}
use Rattle.names.specs.declared.format.Rules.{Rules}
use Rattle.chunks.specs.Chunks.{cut}
use Rattle.snapshots.specs.Keeping.{entries_of}
use Rattle.histories.specs.View.{view}
use Rattle.decoded.specs.Standing.{History}
use Rattle.decoded.specs.Upgraded.{is_newest, rules_behind, upgraded_history}
use Rattle.durable.specs.declared.fault.Fault.{Fault}
use Rattle.durable.specs.declared.fault.Fault.TheVariants as fault
use Rattle.durable.specs.declared.upgraded.UpgradeFault.{UpgradeFault}
use Rattle.durable.specs.declared.upgraded.UpgradeFault.TheVariants as upgrade
use Rattle.durable.specs.Settled.{device_of, root_of, format_of}
use Rattle.durable.specs.Upgraded.{IsUnchanged, IsRefusal, of_fault}
use Rattle.durable.proofs.Answering.{held}
use Rattle.durable.proofs.Called.{err_same}
use Rattle.durable.proofs.Numbers.{history_kept}
use Rattle.durable.proofs.Older.{label_then, rules_then, floor_here, numbers_upgraded, format_upgraded, floor_upgraded, newest_refuses, greatest_refuses, none_refuses}
use Rattle.durable.proofs.Renewing.{at_either, failed_then, serves_between, settled_between, serves_unchanged, settled_unchanged}
use Rattle.durable.proofs.Unwritten.{idle, held_after, read_then}
use Rattle.durable.proofs.Upgrading.{either_read, either_written, left_before, left_either, settled_upgraded, only_device_is, only_damage_is, only_failed_is, refusal_is, unchanged_is, never_unchanged, failed_unchanged}
use Rattle.durable.proofs.store.Store.upgrade.Goals as goal

-- the fault of a call is the one that was handed on
handed_on : {A B E : Type 0} (r : Result A E) {q : Result B E} {f : E} (e : E) → IsErrAnd r (λ x. x ≡ f) → q ≡ Err f → IsErrOf r e → IsErrOf q e
handed_on r {f = f} e passed was told = was_err was (err_is r (λ x. x ≡ f) e passed told)

unchanged_on : {A B : Type 0} (r : Result A UpgradeFault) {q : Result B UpgradeFault} {f : UpgradeFault} → IsErrAnd r (λ x. x ≡ f) → q ≡ Err f → IsUnchanged r → IsUnchanged q
unchanged_on r passed was (inl told) = inl (handed_on r upgrade.Memory passed was told)
unchanged_on r passed was (inr (inl told)) = inr (inl (handed_on r upgrade.TooManyObjects passed was told))
unchanged_on r passed was (inr (inr (inl told))) = inr (inr (inl (handed_on r upgrade.RevisionExhausted passed was told)))
unchanged_on r passed was (inr (inr (inr told))) = inr (inr (inr (handed_on r upgrade.NotOld passed was told)))

-- a fault of the writing that changed nothing
unwritten : {T A : Type 0} (w : Result A Fault) (f : Fault) (told : UpgradeFault) → w ≡ Err f → told ≡ of_fault f → IsUnchanged {T = T} (Err told) → IsErrOf w fault.Memory ⊎ IsErrOf w fault.Exhausted
unwritten {T} w f told is of unchanged =
    let Un : UpgradeFault → Type 0 = λ x. IsUnchanged {T = T} (Err x) in
    ⊎_elim (λ memory. inl (is ∙ ap (λ (x : Fault). Err x) memory)) (λ exhausted. inr (is ∙ ap (λ (x : Fault). Err x) exhausted)) (unchanged_is {T = T} f (subst Un of unchanged))

-- one that is of the table
refused_by : (f : Fault) (told u : UpgradeFault) → told ≡ of_fault f → IsRefusal u → told ≡ u → f ≡ fault.Exhausted
refused_by f told u of refusal is = refusal_is f (subst (λ x. IsRefusal x) (sym is ∙ of) refusal)

pub returns-then-not-self : goal.returns-then-not-self
returns-then-not-self g c =
    let stopped = c.if-not-self.true in
    record {
      settled = λ rules h settled. tt;
      any_moment = λ rules h settled. absurd (true≢false (sym settled.working ∙ stopped));
      device = λ rules h settled is. absurd (true≢false (sym settled.working ∙ stopped));
      told = λ rules v serving. tt;
      refused = λ rules v serving f refusal is. absurd (true≢false (sym serving.working ∙ stopped));
      unrefused = λ rules v serving. tt;
      newest = λ serves young. absurd (true≢false (sym serves ∙ stopped));
      counts = λ rules h settled. tt;
      next = tt;
      format = tt;
      empty = tt;
      unchanged = λ is. failed_unchanged is;
      unchanged_serving = λ rules v serving is. failed_unchanged is;
      unchanged_settled = λ rules h settled is. failed_unchanged is;
      damaged = λ damage is rules h settled. cc;
      damaged_ran = λ damage is keeps. cc;
      failed = λ was. (refl, refl);
      failed_only = λ is. stopped;
      goes_on = tt;
      stops = λ is. stopped;
      damaged_stops = λ damage is. stopped;
      cause = λ is. cc;
      count = omega arith;
      steady = tt;
      unfailed = λ is. failed_unchanged is;
    }

pub returns-then-is_newest : goal.returns-then-is_newest
returns-then-is_newest g c =
    let store = c.args.self.now in
    let young : is_newest (format_of store) ≡ true = sym (ap is_newest c.format.ensures.told) ∙ sym c.is_newest.ensures ∙ c.if-is_newest.true in
    let still = idle g.D.Device.disk (device_of store) (g.met.D.Device.only_now (device_of store)) in
    record {
      settled = λ rules h settled. tt;
      any_moment = λ rules h settled. either_read store store store still rules h settled;
      device = λ rules h settled is. cc;
      told = λ rules v serving. tt;
      refused = λ rules v serving f refusal is. newest_refuses rules v (root_of store) young ∙ ap (λ (x : UpgradeFault). Some x) (err_same is);
      unrefused = λ rules v serving. tt;
      newest = λ serves same. (refl, refl);
      counts = λ rules h settled. tt;
      next = tt;
      format = tt;
      empty = tt;
      unchanged = λ is. (still, refl);
      unchanged_serving = λ rules v serving is. serving;
      unchanged_settled = λ rules h settled is. settled;
      damaged = λ damage is rules h settled. cc;
      damaged_ran = λ damage is keeps. still;
      failed = λ was. absurd (true≢false (sym c.if-not-self.false ∙ was));
      failed_only = λ is. cc;
      goes_on = tt;
      stops = λ is. cc;
      damaged_stops = λ damage is. cc;
      cause = λ is. cc;
      count = omega arith;
      steady = tt;
      unfailed = λ is. refl;
    }

pub returns-in_err-next : goal.returns-in_err-next
returns-in_err-next g c =
    let store = c.args.self.now in
    let mid = c.next_upgraded.new.self in
    let run = c.next_upgraded.ensures.device in
    let core = c.next_upgraded.ensures.core in
    let still = c.next_upgraded.ensures.lies in
    let told = c.from_residual.result in
    let passed = c.from_residual.ensures in
    let old : is_newest (format_of store) ≡ false = sym (ap is_newest c.format.ensures.told) ∙ sym c.is_newest.ensures ∙ c.if-is_newest.false in
    record {
      settled = λ rules h settled. IfOk-from_err told _ passed.0;
      any_moment = λ rules h settled. either_read store mid mid run rules h settled;
      device = λ rules h settled is. left_before store mid mid run rules h settled (c.next_upgraded.ensures.stops (handed_on told upgrade.Device passed.1 c.in_err-next.was is));
      told = λ rules v serving. IfOk-from_err told _ passed.0;
      refused = λ rules v serving f refusal is. c.next_upgraded.ensures.refused rules v serving f refusal (handed_on told f passed.1 c.in_err-next.was is);
      unrefused = λ rules v serving. IfOk-from_err told _ passed.0;
      newest = λ serves young. absurd (true≢false (sym young ∙ old));
      counts = λ rules h settled. IfOk-from_err told _ passed.0;
      next = IfOk-from_err told _ passed.0;
      format = IfOk-from_err told _ passed.0;
      empty = IfOk-from_err told _ passed.0;
      unchanged = λ is. (run, c.next_upgraded.ensures.unchanged (unchanged_on told passed.1 c.in_err-next.was is) ∙ sym c.if-not-self.false);
      unchanged_serving = λ rules v serving is.
          serves_between store mid mid run core still (c.next_upgraded.ensures.unchanged (unchanged_on told passed.1 c.in_err-next.was is)) rules v serving;
      unchanged_settled = λ rules h settled is.
          settled_between store mid mid run core still (c.next_upgraded.ensures.unchanged (unchanged_on told passed.1 c.in_err-next.was is)) rules h settled;
      damaged = λ damage is rules h settled. c.next_upgraded.ensures.damaged damage (handed_on told (upgrade.Damaged damage) passed.1 c.in_err-next.was is) rules h settled;
      damaged_ran = λ damage is keeps. run;
      failed = λ was. absurd (true≢false (sym c.if-not-self.false ∙ was));
      failed_only = λ is. absurd (c.next_upgraded.ensures.refusal (handed_on told upgrade.Failed passed.1 c.in_err-next.was is));
      goes_on = IfOk-from_err told _ passed.0;
      stops = λ is. c.next_upgraded.ensures.stops (handed_on told upgrade.Device passed.1 c.in_err-next.was is);
      damaged_stops = λ damage is. c.next_upgraded.ensures.damaged_stops damage (handed_on told (upgrade.Damaged damage) passed.1 c.in_err-next.was is);
      cause = λ is. c.next_upgraded.ensures.cause (handed_on told upgrade.Device passed.1 c.in_err-next.was is);
      count = run.count;
      steady = IfOk-from_err told _ passed.0;
      unfailed = λ is. c.next_upgraded.ensures.unfailed (unchanged_on told passed.1 c.in_err-next.was is);
    }

pub returns-in-Ok : goal.returns-in-Ok
returns-in-Ok g c =
    let store = c.args.self.now in
    let mid = c.next_upgraded.new.self in
    let new = c.write_next.new.self in
    let run = c.next_upgraded.ensures.device in
    let old : is_newest (format_of store) ≡ false = sym (ap is_newest c.format.ensures.told) ∙ sym c.is_newest.ensures ∙ c.if-is_newest.false in
    let next = c.in_ok-next.field-0.next in
    let disk = g.D.Device.disk in
    record {
      settled = λ rules h settled.
          let last : History = upgraded_history rules h in
          let then : Rules = rules_behind rules h in
          let keeps = c.in_ok-next.ensures.keeps rules h settled in
          let holds = held_after disk rules h store.device mid.device run (held rules store h settled) in
          let is : next.core.rules ≡ then = c.in_ok-next.ensures.rules ∙ rules_then store rules h settled in
          settled_upgraded store mid new run rules h settled next is (c.in_ok-next.ensures.held rules h settled)
          (c.in-Ok.ensures.written rules then h last holds keeps)
          (c.in-Ok.ensures.lies then (view then last) (history_kept then (label_then store rules h settled) last refl keeps.history) holds.keeps
          (keeps.entries ∙ ap (λ (r : Rules). cut r.format (entries_of (view then last))) (sym is)))
          c.in-Ok.ensures.core c.in-Ok.ensures.serves;
      any_moment = λ rules h settled.
          let holds = held_after disk rules h store.device mid.device run (held rules store h settled) in
          either_written store mid new run rules h settled
          (c.write_next.ensures.stands rules (rules_behind rules h) h (upgraded_history rules h) holds (c.in_ok-next.ensures.keeps rules h settled));
      device = λ rules h settled is. absurd (no_fault is);
      told = λ rules v serving.
          let seen = c.in_ok-next.ensures.seen rules v serving in
          record {
            format = c.format-in-Ok.ensures.told;
            generation = c.generation.ensures;
            revision = seen.0;
            namespaces = seen.1;
          };
      refused = λ rules v serving f refusal is. absurd (no_fault is);
      unrefused = λ rules v serving.
          none_refuses rules v (root_of store) old (c.in_ok-next.ensures.room rules v serving)
          (λ greatest. omega (arith, greatest, c.in-Ok.ensures.next, ap (λ (r : Root). r.generation) c.next_upgraded.ensures.root, c.generation.ensures, c.generation.type_inv));
      newest = λ serves young. absurd (true≢false (sym young ∙ old));
      counts = λ rules h settled.
          let holds = held_after disk rules h store.device mid.device run (held rules store h settled) in
          c.in-Ok.ensures.counts rules (rules_behind rules h) h (upgraded_history rules h) holds (c.in_ok-next.ensures.keeps rules h settled);
      next = c.in-Ok.ensures.next ∙ ap (λ (r : Root). r.generation + 1) c.next_upgraded.ensures.root;
      format = ap is_newest (ap (λ (l : Label). l.format) c.in-Ok.ensures.label ∙ format_upgraded next.core (floor_here store) c.in_ok-next.ensures.rules);
      empty = c.in-Ok.ensures.empty;
      unchanged = λ is. never_unchanged _ is;
      unchanged_serving = λ rules v serving is. never_unchanged _ is;
      unchanged_settled = λ rules h settled is. never_unchanged _ is;
      damaged = λ damage is rules h settled. absurd (no_fault is);
      damaged_ran = λ damage is keeps. absurd (no_fault is);
      failed = λ was. absurd (true≢false (sym c.if-not-self.false ∙ was));
      failed_only = λ is. absurd (no_fault is);
      goes_on = c.in-Ok.ensures.serves;
      stops = λ is. absurd (no_fault is);
      damaged_stops = λ damage is. absurd (no_fault is);
      cause = λ is. absurd (no_fault is);
      count = omega (arith, run.count, c.write_next.ensures.count);
      steady = c.in-Ok.ensures.steady ∙ c.in_ok-next.ensures.steady;
      unfailed = λ is. never_unchanged _ is;
    }

pub returns-in-Err : goal.returns-in-Err
returns-in-Err g c =
    let store = c.args.self.now in
    let mid = c.next_upgraded.new.self in
    let new = c.write_next.new.self in
    let run = c.next_upgraded.ensures.device in
    let core = c.next_upgraded.ensures.core in
    let still = c.next_upgraded.ensures.lies in
    let disk = g.D.Device.disk in
    let old : is_newest (format_of store) ≡ false = sym (ap is_newest c.format.ensures.told) ∙ sym c.is_newest.ensures ∙ c.if-is_newest.false in
    let met = c.in-Err.fault in
    let said = c.from.result in
    let of = c.from.ensures in
    record {
      settled = λ rules h settled. tt;
      any_moment = λ rules h settled.
          let holds = held_after disk rules h store.device mid.device run (held rules store h settled) in
          either_written store mid new run rules h settled
          (c.write_next.ensures.stands rules (rules_behind rules h) h (upgraded_history rules h) holds (c.in_ok-next.ensures.keeps rules h settled));
      device = λ rules h settled told.
          let holds = held_after disk rules h store.device mid.device run (held rules store h settled) in
          left_either store mid new run rules h settled
          (c.write_next.ensures.stands rules (rules_behind rules h) h (upgraded_history rules h) holds (c.in_ok-next.ensures.keeps rules h settled))
          (c.write_next.ensures.stops (c.in-Err.is ∙ ap (λ (x : Fault). Err x) (only_device_is met (sym of ∙ err_same told))));
      told = λ rules v serving. tt;
      refused = λ rules v serving f refusal is.
          let greatest = refused_by met said f of refusal (err_same is) in
          let room = c.in_ok-next.ensures.room rules v serving in
          greatest_refuses rules v (root_of store) old room.objects
          (sym (ap (λ (r : Root). r.generation) c.next_upgraded.ensures.root) ∙ c.write_next.ensures.greatest (c.in-Err.is ∙ ap (λ (x : Fault). Err x) greatest))
          ∙ ap (λ (x : UpgradeFault). Some x) (sym (ap of_fault greatest) ∙ sym of ∙ err_same is);
      unrefused = λ rules v serving. tt;
      newest = λ serves young. absurd (true≢false (sym young ∙ old));
      counts = λ rules h settled. tt;
      next = tt;
      format = tt;
      empty = tt;
      unchanged = λ is.
          let stays = c.write_next.ensures.unchanged (unwritten c.write_next.result met said c.in-Err.is of is) in
          (read_then disk store.device mid.device new.device run stays.0, stays.1 ∙ sym c.if-not-self.false);
      unchanged_serving = λ rules v serving is.
          let told = unwritten c.write_next.result met said c.in-Err.is of is in
          let stays = c.write_next.ensures.unchanged told in
          let same = at_either _ c.write_next.result fault.Memory fault.Exhausted told c.write_next.ensures.paged in
          serves_unchanged store mid new run core still c.in_ok-next.ensures.goes_on same stays.0 stays.1 rules v serving;
      unchanged_settled = λ rules h settled is.
          let told = unwritten c.write_next.result met said c.in-Err.is of is in
          let stays = c.write_next.ensures.unchanged told in
          let same = at_either _ c.write_next.result fault.Memory fault.Exhausted told c.write_next.ensures.paged in
          settled_unchanged store mid new run core still c.in_ok-next.ensures.goes_on same stays.0 stays.1 rules h settled;
      damaged = λ damage told rules h settled.
          let holds = held_after disk rules h store.device mid.device run (held rules store h settled) in
          c.write_next.ensures.damaged rules (rules_behind rules h) h (upgraded_history rules h) damage holds (c.in_ok-next.ensures.keeps rules h settled)
          (c.in-Err.is ∙ ap (λ (x : Fault). Err x) (only_damage_is met damage (sym of ∙ err_same told)));
      damaged_ran = λ damage told keeps.
          read_then disk store.device mid.device new.device run
          (c.write_next.ensures.damaged_ran damage (c.in-Err.is ∙ ap (λ (x : Fault). Err x) (only_damage_is met damage (sym of ∙ err_same told))) (run.kept keeps));
      failed = λ was. absurd (true≢false (sym c.if-not-self.false ∙ was));
      failed_only = λ told. absurd (c.write_next.ensures.refusal (c.in-Err.is ∙ ap (λ (x : Fault). Err x) (only_failed_is met (sym of ∙ err_same told))));
      goes_on = tt;
      stops = λ told. c.write_next.ensures.stops (c.in-Err.is ∙ ap (λ (x : Fault). Err x) (only_device_is met (sym of ∙ err_same told)));
      damaged_stops = λ damage told.
          c.write_next.ensures.damaged_stops damage (c.in-Err.is ∙ ap (λ (x : Fault). Err x) (only_damage_is met damage (sym of ∙ err_same told)));
      cause = λ told.
          failed_then disk store.device mid.device new.device run
          (c.write_next.ensures.cause (c.in-Err.is ∙ ap (λ (x : Fault). Err x) (only_device_is met (sym of ∙ err_same told))));
      count = omega (arith, run.count, c.write_next.ensures.count);
      steady = tt;
      unfailed = λ is. c.write_next.ensures.unfailed (unwritten c.write_next.result met said c.in-Err.is of is) ∙ c.in_ok-next.ensures.steady;
    }

pub next_upgraded-requires-clause-old : goal.next_upgraded-requires-clause-old
next_upgraded-requires-clause-old g c = sym (ap is_newest c.format.ensures.told) ∙ sym c.is_newest.ensures ∙ c.if-is_newest.false

pub write_next-requires-clause-numbers : goal.write_next-requires-clause-numbers
write_next-requires-clause-numbers g c = numbers_upgraded c.in_ok-next.field-0.next.core (floor_here c.args.self.now) c.in_ok-next.ensures.rules

pub write_next-requires-clause-floor : goal.write_next-requires-clause-floor
write_next-requires-clause-floor g c = floor_upgraded c.in_ok-next.field-0.next.core (floor_here c.args.self.now) c.in_ok-next.ensures.rules
