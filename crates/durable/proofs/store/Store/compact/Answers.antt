use Rattle.std.proofs.Common.{arith, ◌+◌, ◌≡◌, ◌∙◌, refl, sym, ap, subst, ⊎_elim, [], true≢false}
use Rattle.std.proofs.lemmas.Result.{IfOk-from_err}
use Rattle.roots.specs.declared.root.Root.{Root}
use Rattle.checkpoint.specs.EntryList.{entries_of as in_list}
use Rattle.names.specs.declared.format.Rules.{Rules}
use Rattle.chunks.specs.Chunks.{cut}
use Rattle.snapshots.specs.Keeping.{entries_of, IsKeepable}
use Rattle.histories.specs.View.{view}
use Rattle.recovery.proofs.Histories.{on_ok_to}
use Rattle.snapshots.proofs.BaseFaults.{on_any}
use Rattle.durable.specs.declared.fault.Fault.TheVariants as Fault
use Rattle.durable.specs.Settled.{root_of, kept_rules, IsSettledAt}
use Rattle.durable.proofs.Answering.{held}
use Rattle.durable.proofs.Called.{serves_passed, passed_on, failed_alone, no_device, no_memory, no_damage, no_exhausted, not_failed, not_exhausted}
use Rattle.durable.proofs.Keeping.{root_is}
use Rattle.device.specs.declared.device.Device.{Ghosts}
use Rattle.holdings.specs.Holdings.{Shows}
use Rattle.decoded.specs.Standing.{History, with_plans}
use Rattle.roots.specs.declared.root.Label.{Label}
use Rattle.paged.specs.Lying.{base_of}
use Rattle.paged.specs.declared.compacting.NextCheckpoint.{NextCheckpoint}
use Rattle.durable.specs.Compacted.{Keeps, label_of}
use Rattle.durable.specs.Rules.{rules_by}
use Rattle.durable.specs.Stands.{StandsFor}
use Rattle.durable.specs.declared.store.Store.{Store}
use Rattle.durable.proofs.Compacting.{one_stands}
use Rattle.durable.proofs.Numbers.{history_kept, by_own_format, may_of, format_of}
use Rattle.durable.proofs.Renewing.{on_ok_three, at_either, failed_then, serves_between, settled_between, serves_unchanged, settled_unchanged, keepable_here, moments_renewed, settled_renewed, serves_renewed, left_renewed}
use Rattle.durable.proofs.Unwritten.{held_after, left_read, moments_read, read_then}
use Rattle.durable.proofs.store.Store.compact.Goals as goal

pub returns-then-not-self : goal.returns-then-not-self
returns-then-not-self g c =
    let stopped = c.if-not-self.true in
    record {
      settled = λ rules h settled. tt;
      serving = λ rules v serving keepable keeps. tt;
      counts = λ rules h settled. tt;
      next = tt;
      counted = λ rules h settled. tt;
      empty = tt;
      told = tt;
      keeps_format = tt;
      are = λ entries has. tt;
      any_moment = λ rules h settled. absurd (true≢false (sym settled.working ∙ stopped));
      device = λ rules h settled is. absurd (true≢false (sym settled.working ∙ stopped));
      memory_serving = λ rules v serving told. absurd (true≢false (sym serving.working ∙ stopped));
      memory = λ rules h settled told. absurd (true≢false (sym settled.working ∙ stopped));
      unchanged = λ is. ⊎_elim (failed_alone Fault.Memory no_memory) (failed_alone Fault.Exhausted no_exhausted) is;
      greatest = λ is. failed_alone Fault.Exhausted no_exhausted is;
      damaged = λ damage is. failed_alone (Fault.Damaged damage) (no_damage damage) is;
      damaged_ran = λ damage is. failed_alone (Fault.Damaged damage) (no_damage damage) is;
      failed = λ was. (refl, refl);
      failed_only = λ is. stopped;
      goes_on = tt;
      memory_goes_on = λ is. refl;
      stops = λ is. stopped;
      damaged_stops = λ damage is. stopped;
      cause = λ is. failed_alone Fault.Device no_device is;
      count = omega arith;
      steady = tt;
      unfailed = λ is. ⊎_elim (failed_alone Fault.Memory no_memory) (failed_alone Fault.Exhausted no_exhausted) is;
    }

pub returns-in_err-next : goal.returns-in_err-next
returns-in_err-next g c =
    let store = c.args.self.now in
    let mid = c.next.new.self in
    let run = c.next.ensures.device in
    let core = c.next.ensures.core in
    let still = c.next.ensures.lies in
    let told = c.from_residual.result in
    let passed = c.from_residual.ensures in
    let leaves = serves_passed told passed.1 c.in_err-next.was c.next.ensures.leaves in
    let exhausted = not_exhausted told leaves.refusal in
    record {
      settled = λ rules h settled. IfOk-from_err told _ passed.0;
      serving = λ rules v serving keepable keeps. IfOk-from_err told _ passed.0;
      counts = λ rules h settled. IfOk-from_err told _ passed.0;
      next = IfOk-from_err told _ passed.0;
      counted = λ rules h settled. IfOk-from_err told _ passed.0;
      empty = IfOk-from_err told _ passed.0;
      told = IfOk-from_err told _ passed.0;
      keeps_format = IfOk-from_err told _ passed.0;
      are = λ entries has. IfOk-from_err told _ passed.0;
      any_moment = λ rules h settled. moments_read rules store mid h [] run settled;
      device = λ rules h settled is. left_read rules store mid h [] run settled (leaves.stops is);
      memory_serving = λ rules v serving is.
          serves_between store mid mid run core still (⊎_elim leaves.memory_goes_on (λ other. absurd (exhausted other)) is) rules v serving;
      memory = λ rules h settled is.
          (settled_between store mid mid run core still (⊎_elim leaves.memory_goes_on (λ other. absurd (exhausted other)) is) rules h settled, run.seen settled.keeps);
      unchanged = λ is. run;
      greatest = λ is. absurd (exhausted is);
      damaged = λ damage is rules h settled.
          c.next.ensures.damaged damage (passed_on told (Fault.Damaged damage) passed.1 c.in_err-next.was is) (view rules h) settled.shows
          (keepable_here store mid mid run core still rules h settled);
      damaged_ran = λ damage is keeps. run;
      failed = λ stopped. absurd (true≢false (sym c.if-not-self.false ∙ stopped));
      failed_only = λ is. absurd (not_failed told leaves.refusal is);
      goes_on = IfOk-from_err told _ passed.0;
      memory_goes_on = λ is. ⊎_elim leaves.memory_goes_on (λ other. absurd (exhausted other)) is ∙ sym c.if-not-self.false;
      stops = leaves.stops;
      damaged_stops = leaves.damaged_stops;
      cause = leaves.cause;
      count = run.count;
      steady = IfOk-from_err told _ passed.0;
      unfailed = λ is. ⊎_elim leaves.unfailed (λ other. absurd (exhausted other)) is;
    }

-- the next generation keeps the history at which the store is settled
keeps_here : {D : Type 0} {g : Ghosts D} (store : Store D g) (next : NextCheckpoint) (rules : Rules) (h : History) → IsSettledAt rules store h
    → next.core.rules ≡ rules_by (label_of next.core) → next.core.rules ≡ kept_rules store → Shows next.core (base_of (with_plans (view rules h))) (with_plans (view rules h))
    → in_list next.entries ≡ cut (kept_rules store).format (entries_of (view rules h)) → Keeps next rules h
keeps_here store next rules h settled numbers same shows entries = record {
  numbers = sym settled.rules_are ∙ sym same ∙ numbers;
  history = settled.read.history;
  revision = shows.revision;
  entries = entries ∙ ap (λ (r : Rules). cut r.format (entries_of (view rules h))) settled.rules_are;
}

-- the rules of a store are those of the format and of the floor that they name
numbers_here : {D : Type 0} {g : Ghosts D} (store : Store D g) (next : NextCheckpoint) → next.core.rules ≡ kept_rules store → next.core.rules ≡ rules_by (label_of next.core)
numbers_here store next same =
    let numbers : next.core.rules ≡ rules_by (root_of store).label = same ∙ store.numbers in
    by_own_format next.core.rules (root_of store).label numbers

pub returns : goal.returns
returns g c =
    let store = c.args.self.now in
    let mid = c.next.new.self in
    let run = c.next.ensures.device in
    let core = c.next.ensures.core in
    let still = c.next.ensures.lies in
    let new = c.write_next.new.self in
    record {
      settled = λ rules h settled.
          let keeps = keeps_here store c.in_ok-next.next rules h settled (numbers_here store c.in_ok-next.next c.in_ok-next.ensures.rules) c.in_ok-next.ensures.rules
          (c.in_ok-next.ensures.held (view rules h) settled.shows (keepable_here store mid mid run core still rules h settled))
          (c.in_ok-next.ensures.entries (view rules h) settled.shows) in
          let holds = held_after g.D.Device.disk rules h store.device mid.device run (held rules store h settled) in
          on_ok_three _ _ _ _ c.write_next.result
          (λ lies is serves.
          settled_renewed store mid new run core still rules h settled c.in_ok-next.next.core c.in_ok-next.ensures.rules
          (c.in_ok-next.ensures.held (view rules h) settled.shows (keepable_here store mid mid run core still rules h settled))
          (one_stands g.D.Device.disk mid.device new.device (λ x. StandsFor rules x h) (c.write_next.ensures.stands rules rules h h holds keeps)) lies is serves)
          (c.write_next.ensures.lies rules (view rules h) (history_kept rules settled.read.root.label h settled.read.checkpoint.numbers settled.read.history) holds.keeps
          (c.in_ok-next.ensures.entries (view rules h) settled.shows ∙ ap (λ (r : Rules). cut r.format (entries_of (view rules h))) (sym c.in_ok-next.ensures.rules))) c.write_next.ensures.core
          c.write_next.ensures.serves;
      counts = λ rules h settled.
          let keeps = keeps_here store c.in_ok-next.next rules h settled (numbers_here store c.in_ok-next.next c.in_ok-next.ensures.rules) c.in_ok-next.ensures.rules
          (c.in_ok-next.ensures.held (view rules h) settled.shows (keepable_here store mid mid run core still rules h settled))
          (c.in_ok-next.ensures.entries (view rules h) settled.shows) in
          let holds = held_after g.D.Device.disk rules h store.device mid.device run (held rules store h settled) in
          c.write_next.ensures.counts rules rules h h holds keeps;
      counted = λ rules h settled.
          let same = c.next.ensures.root ∙ root_is g.D.Device.disk store.device (root_of store) store.log (store.ready settled.working settled.keeps) settled.read.root settled.read.counts in
          on_ok_to c.write_next.result _ _ (λ next. next ∙ ap (λ (r : Root). r.generation + 1) same) c.write_next.ensures.next;
      any_moment = λ rules h settled.
          let keeps = keeps_here store c.in_ok-next.next rules h settled (numbers_here store c.in_ok-next.next c.in_ok-next.ensures.rules) c.in_ok-next.ensures.rules
          (c.in_ok-next.ensures.held (view rules h) settled.shows (keepable_here store mid mid run core still rules h settled))
          (c.in_ok-next.ensures.entries (view rules h) settled.shows) in
          let holds = held_after g.D.Device.disk rules h store.device mid.device run (held rules store h settled) in
          moments_renewed store mid new run core still rules h settled (one_stands g.D.Device.disk mid.device new.device (λ x. StandsFor rules x h) (c.write_next.ensures.stands rules rules h h holds keeps));
      device = λ rules h settled told.
          let keeps = keeps_here store c.in_ok-next.next rules h settled (numbers_here store c.in_ok-next.next c.in_ok-next.ensures.rules) c.in_ok-next.ensures.rules
          (c.in_ok-next.ensures.held (view rules h) settled.shows (keepable_here store mid mid run core still rules h settled))
          (c.in_ok-next.ensures.entries (view rules h) settled.shows) in
          let holds = held_after g.D.Device.disk rules h store.device mid.device run (held rules store h settled) in
          left_renewed store mid new run core still rules h settled (one_stands g.D.Device.disk mid.device new.device (λ x. StandsFor rules x h) (c.write_next.ensures.stands rules rules h h holds keeps)) (c.write_next.ensures.stops told);
      memory_serving = λ rules v serving told.
          let unchanged = c.write_next.ensures.unchanged told in
          let same = at_either _ c.write_next.result Fault.Memory Fault.Exhausted told c.write_next.ensures.paged in
          serves_unchanged store mid c.write_next.new.self run core still c.in_ok-next.ensures.leaves.goes_on same unchanged.0 unchanged.1 rules v serving;
      memory = λ rules h settled told.
          let unchanged = c.write_next.ensures.unchanged told in
          let same = at_either _ c.write_next.result Fault.Memory Fault.Exhausted told c.write_next.ensures.paged in (
            settled_unchanged store mid c.write_next.new.self run core still c.in_ok-next.ensures.leaves.goes_on same unchanged.0 unchanged.1 rules h settled,
            unchanged.0.seen (run.kept settled.keeps) ∙ run.seen settled.keeps,
          );
      unchanged = λ is. read_then g.D.Device.disk store.device mid.device new.device run (c.write_next.ensures.unchanged is).0;
      damaged = λ damage told rules h settled.
          let keeps = keeps_here store c.in_ok-next.next rules h settled (numbers_here store c.in_ok-next.next c.in_ok-next.ensures.rules) c.in_ok-next.ensures.rules
          (c.in_ok-next.ensures.held (view rules h) settled.shows (keepable_here store mid mid run core still rules h settled))
          (c.in_ok-next.ensures.entries (view rules h) settled.shows) in
          let holds = held_after g.D.Device.disk rules h store.device mid.device run (held rules store h settled) in
          c.write_next.ensures.damaged rules rules h h damage holds keeps told;
      damaged_ran = λ damage is keeps. read_then g.D.Device.disk store.device mid.device new.device run (c.write_next.ensures.damaged_ran damage is (run.kept keeps));
      damaged_stops = c.write_next.ensures.damaged_stops;
      memory_goes_on = λ is. (c.write_next.ensures.unchanged is).1 ∙ sym c.if-not-self.false;
      serving = λ rules v serving keepable keeps.
          let Keeps : Rules → Type 0 = λ r. IsKeepable r v in
          on_ok_three _ _ _ _ c.write_next.result
          (λ lies is working.
          serves_renewed store mid new run core still rules v serving c.in_ok-next.next.core c.in_ok-next.ensures.rules
          (c.in_ok-next.ensures.held v serving.shows (subst Keeps (sym serving.rules_are) keepable)) lies is working)
          (c.write_next.ensures.lies rules v keepable (run.kept keeps)
          (c.in_ok-next.ensures.entries v serving.shows ∙ ap (λ (r : Rules). cut r.format (entries_of v)) (sym c.in_ok-next.ensures.rules))) c.write_next.ensures.core c.write_next.ensures.serves;
      next = on_ok_to c.write_next.result _ _ (λ next. next ∙ ap (λ (r : Root). r.generation + 1) c.next.ensures.root) c.write_next.ensures.next;
      empty = c.write_next.ensures.empty;
      told = c.write_next.ensures.told;
      keeps_format = on_ok_to c.write_next.result _ _
          (λ label. ap (λ (l : Label). l.format) label ∙ format_of c.in_ok-next.next.core.rules (root_of store).label (c.in_ok-next.ensures.rules ∙ store.numbers)) c.write_next.ensures.label;
      are = λ entries has. on_any c.write_next.result (c.in_ok-next.ensures.are entries has);
      greatest = λ is. sym (ap (λ (r : Root). r.generation) c.next.ensures.root) ∙ c.write_next.ensures.greatest is;
      failed = λ stopped. absurd (true≢false (sym c.if-not-self.false ∙ stopped));
      failed_only = λ is. absurd (c.write_next.ensures.refusal is);
      goes_on = c.write_next.ensures.serves;
      stops = c.write_next.ensures.stops;
      cause = λ is. failed_then g.D.Device.disk store.device mid.device new.device run (c.write_next.ensures.cause is);
      count = omega (arith, run.count, c.write_next.ensures.count);
      steady = on_ok_to c.write_next.result _ _ (λ same. same ∙ c.in_ok-next.ensures.leaves.steady) c.write_next.ensures.steady;
      unfailed = λ is. c.write_next.ensures.unfailed is ∙ c.in_ok-next.ensures.leaves.steady;
    }

pub write_next-requires-clause-numbers : goal.write_next-requires-clause-numbers
write_next-requires-clause-numbers g c = numbers_here c.args.self.now c.in_ok-next.next c.in_ok-next.ensures.rules

pub write_next-requires-clause-floor : goal.write_next-requires-clause-floor
write_next-requires-clause-floor g c =
    let store = c.args.self.now in
    may_of c.in_ok-next.next.core.rules (root_of store).label (c.in_ok-next.ensures.rules ∙ store.numbers) store.floor
