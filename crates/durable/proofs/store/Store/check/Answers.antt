use Rattle.std.proofs.Common.{rules, ◌∙◌, refl, sym, ap, subst, true≢false}
use Rattle.std.proofs.lemmas.Result.{IfOk-from_err}
use Rattle.checkpoint.proofs.Faults.{no_fault}
use Rattle.roots.specs.declared.root.Root.{Root}
use Rattle.objects.specs.declared.fault.Part.TheVariants.{Plans}
use Rattle.names.specs.declared.format.Rules.{Rules}
use Rattle.holdings.specs.Holdings.{State, Shows}
use Rattle.snapshots.specs.Keeping.{IsKeepable}
use Rattle.decoded.specs.Decoded.{Decoded}
use Rattle.decoded.specs.Shown.{ShowsOver}
use Rattle.paged.proofs.Owning.{below_own}
use Rattle.durable.specs.declared.fault.Fault.TheVariants as Faults
use Rattle.durable.specs.Settled.{root_of}
use Rattle.durable.proofs.Numbers.{kept_format}
use Rattle.recovery.specs.Compiled.{HasOwnPlans}
use Rattle.decoded.specs.Standing.{IsView}
use Rattle.std.specs.List.{AllByRecursion}
use Rattle.names.specs.declared.format.Format.{Format}
use Rattle.durable.proofs.Called.{serves_passed, serves_refused, serves_spoiled, passed_on, failed_alone, no_device, no_memory, no_damage, ran_met}
use Rattle.durable.proofs.Checking.{checked_settled}
use Rattle.durable.proofs.Keeping.{root_is}
use Rattle.durable.proofs.Renewing.{serves_between, settled_between}
use Rattle.durable.proofs.Unwritten.{idle}
use Rattle.durable.proofs.store.Store.check.Goals as goal

pub returns-then-not-self : goal.returns-then-not-self
returns-then-not-self g c = record {
  told = λ held holds. tt;
  counted = λ rules h settled. tt;
  plans = λ held holds. tt;
  are = λ entries has. tt;
  serving = λ rules v serving. tt;
  memory = λ rules v serving is. failed_alone Faults.Memory no_memory is;
  settled = λ rules h settled. tt;
  told_settled = λ rules h settled. tt;
  memory_settled = λ rules h settled is. failed_alone Faults.Memory no_memory is;
  device = idle g.D.Device.disk c.args.self.now.device (g.met.D.Device.only_now c.args.self.now.device);
  damaged = λ damage is. failed_alone (Faults.Damaged damage) (no_damage damage) is;
  refusal = λ serves. absurd (true≢false (sym serves ∙ c.if-not-self.true));
  stops = λ is. c.if-not-self.true;
  damaged_stops = λ damage is. c.if-not-self.true;
  memory_goes_on = λ is. refl;
  cause = λ is. failed_alone Faults.Device no_device is;
  steady = tt;
  unfailed = λ is. failed_alone Faults.Memory no_memory is;
  failed = λ stopped. (refl, refl);
}

pub returns-in_err-next_read : goal.returns-in_err-next_read
returns-in_err-next_read g c =
    let store = c.args.self.now in
    let mid = c.next_read.new.self in
    let told = c.from_residual.result in
    let passed = c.from_residual.ensures in
    let leaves = serves_passed told passed.1 c.in_err-next_read.was c.next_read.ensures.leaves in
    record {
      told = λ held holds. IfOk-from_err told _ passed.0;
      counted = λ rules h settled. IfOk-from_err told _ passed.0;
      plans = λ held holds. IfOk-from_err told _ passed.0;
      are = λ entries has. IfOk-from_err told _ passed.0;
      serving = λ rules v serving. IfOk-from_err told _ passed.0;
      memory = λ rules v serving is. serves_between store mid mid c.next_read.ensures.device c.next_read.ensures.core c.next_read.ensures.lies (leaves.memory_goes_on is) rules v serving;
      settled = λ rules h settled. IfOk-from_err told _ passed.0;
      told_settled = λ rules h settled. IfOk-from_err told _ passed.0;
      memory_settled = λ rules h settled is. settled_between store mid mid c.next_read.ensures.device c.next_read.ensures.core c.next_read.ensures.lies (leaves.memory_goes_on is) rules h settled;
      device = c.next_read.ensures.device;
      damaged = λ damage is rules v serving keepable.
          let Keeps : Rules → Type 0 = λ r. IsKeepable r v in
          c.next_read.ensures.damaged damage (passed_on told (Faults.Damaged damage) passed.1 c.in_err-next_read.was is) v serving.shows (subst Keeps (sym serving.rules_are) keepable);
      refusal = λ serves. leaves.refusal;
      stops = leaves.stops;
      damaged_stops = leaves.damaged_stops;
      memory_goes_on = λ is. leaves.memory_goes_on is ∙ sym c.if-not-self.false;
      cause = leaves.cause;
      steady = IfOk-from_err told _ passed.0;
      unfailed = leaves.unfailed;
      failed = λ stopped. absurd (true≢false (sym c.if-not-self.false ∙ stopped));
    }

pub returns-in_err-has_own_plans : goal.returns-in_err-has_own_plans
returns-in_err-has_own_plans g c =
    let store = c.args.self.now in
    let mid = c.next_read.new.self in
    let told = c.from_residual-in_err-has_own_plans.result in
    let passed = c.from_residual-in_err-has_own_plans.ensures in
    let working = c.in_ok-next_read.ensures.leaves.goes_on in
    let leaves = serves_refused store mid told passed.1 refl working c.in_ok-next_read.ensures.leaves.steady in
    record {
      told = λ held holds. IfOk-from_err told _ passed.0;
      counted = λ rules h settled. IfOk-from_err told _ passed.0;
      plans = λ held holds. IfOk-from_err told _ passed.0;
      are = λ entries has. IfOk-from_err told _ passed.0;
      serving = λ rules v serving. IfOk-from_err told _ passed.0;
      memory = λ rules v serving is. serves_between store mid mid c.next_read.ensures.device c.next_read.ensures.core c.next_read.ensures.lies working rules v serving;
      settled = λ rules h settled. IfOk-from_err told _ passed.0;
      told_settled = λ rules h settled. IfOk-from_err told _ passed.0;
      memory_settled = λ rules h settled is. settled_between store mid mid c.next_read.ensures.device c.next_read.ensures.core c.next_read.ensures.lies working rules h settled;
      device = c.next_read.ensures.device;
      damaged = λ damage is. absurd (true≢false (sym working ∙ leaves.damaged_stops damage is));
      refusal = λ serves. leaves.refusal;
      stops = leaves.stops;
      damaged_stops = leaves.damaged_stops;
      memory_goes_on = λ is. leaves.memory_goes_on is ∙ sym c.if-not-self.false;
      cause = leaves.cause;
      steady = IfOk-from_err told _ passed.0;
      unfailed = leaves.unfailed;
      failed = λ stopped. absurd (true≢false (sym c.if-not-self.false ∙ stopped));
    }

pub returns-then-not-branch : goal.returns-then-not-branch
returns-then-not-branch g c =
    let store = c.args.self.now in
    let mid = c.next_read.new.self in
    let new = c.stop_for.new.self in
    let leaves = serves_spoiled store new Plans c.stop_for.ensures.fault c.stop_for.ensures.stops in
    record {
      told = λ held holds. tt;
      counted = λ rules h settled. tt;
      plans = λ held holds. tt;
      are = λ entries has. tt;
      serving = λ rules v serving. tt;
      memory = λ rules v serving is. absurd (true≢false (sym (leaves.memory_goes_on is) ∙ c.stop_for.ensures.stops));
      settled = λ rules h settled. tt;
      told_settled = λ rules h settled. tt;
      memory_settled = λ rules h settled is. absurd (true≢false (sym (leaves.memory_goes_on is) ∙ c.stop_for.ensures.stops));
      device = ran_met new mid.device mid.paged c.stop_for.ensures.device c.stop_for.ensures.paged store.device c.next_read.ensures.device;
      damaged = λ damage is rules v serving keepable.
          let shown = serving.shows in
          let Over : State Decoded → Type 0 = λ core. ShowsOver core shown.base v in
          let Seen : Rules → Type 0 = λ r. IsView r.format v in
          let same = c.core.ensures ∙ c.next_read.ensures.core in
          c.in_ok-has_own_plans.ensures.no shown.base v (subst Over (sym same) shown.shows)
          (subst Seen (sym (ap (λ (core : State Decoded). core.rules) same ∙ serving.rules_are)) serving.seen) c.if-not-branch.true;
      refusal = λ serves. leaves.refusal;
      stops = leaves.stops;
      damaged_stops = leaves.damaged_stops;
      memory_goes_on = λ is. leaves.memory_goes_on is ∙ sym c.if-not-self.false;
      cause = leaves.cause;
      steady = tt;
      unfailed = leaves.unfailed;
      failed = λ stopped. absurd (true≢false (sym c.if-not-self.false ∙ stopped));
    }

pub returns : goal.returns
returns g c =
    let store = c.args.self.now in
    let mid = c.next_read.new.self in
    let working = c.in_ok-next_read.ensures.leaves.goes_on in
    let root = c.root.ensures ∙ c.next_read.ensures.root in
    let format = c.format.ensures.told ∙ ap (λ (r : Root). r.label.format) c.next_read.ensures.root in
    record {
      told = λ held holds. search rules;
      counted = λ rules h settled.
          let same = root_is g.D.Device.disk store.device (root_of store) store.log (store.ready settled.working settled.keeps) settled.read.root settled.read.counts in
          (ap (λ (r : Root). r.generation) (root ∙ same), format ∙ ap (λ (r : Root). r.label.format) same);
      plans = λ held holds.
          let Held : State Decoded → Type 0 = λ core. Shows core holds.base held in
          let Own : Format → Type 0 = λ format. AllByRecursion (HasOwnPlans format) held.objects in
          let same = c.core.ensures ∙ c.next_read.ensures.core in
          subst Own (ap (λ (core : State Decoded). core.rules.format) same ∙ kept_format store)
          (c.in_ok-has_own_plans.ensures.yes holds.base held (subst Held (sym same) holds.shows)
          (below_own c.core.result.now.rules.format g.D.Device.disk store.device store.paged holds.base holds.below) c.if-not-branch.false);
      are = c.in_ok-next_read.ensures.are;
      serving = λ rules v serving. serves_between store mid mid c.next_read.ensures.device c.next_read.ensures.core c.next_read.ensures.lies working rules v serving;
      memory = λ rules v serving is. absurd (no_fault is);
      settled = λ rules h settled. settled_between store mid mid c.next_read.ensures.device c.next_read.ensures.core c.next_read.ensures.lies working rules h settled;
      told_settled = λ numbers h settled.
          let same = root_is g.D.Device.disk store.device (root_of store) store.log (store.ready settled.working settled.keeps) settled.read.root settled.read.counts in
          checked_settled store numbers h settled _ (λ held holds. search rules) (ap (λ (r : Root). r.generation) (root ∙ same))
          (format ∙ ap (λ (r : Root). r.label.format) same);
      memory_settled = λ rules h settled is. absurd (no_fault is);
      device = c.next_read.ensures.device;
      damaged = λ damage is. absurd (no_fault is);
      refusal = λ serves. tt;
      stops = λ is. absurd (no_fault is);
      damaged_stops = λ damage is. absurd (no_fault is);
      memory_goes_on = λ is. absurd (no_fault is);
      cause = λ is. absurd (no_fault is);
      steady = c.in_ok-next_read.ensures.leaves.steady;
      unfailed = λ is. absurd (no_fault is);
      failed = λ stopped. absurd (true≢false (sym c.if-not-self.false ∙ stopped));
    }
