use Rattle.std.proofs.Common.{◌≡◌, ◌∙◌, sym, ap, subst, List, true, true≢false, Err}
use Rattle.std.specs.FinMap.{is_sorted}
use Rattle.checkpoint.proofs.Faults.{no_fault}
use Rattle.pages.specs.Page.{Entry, bytes_cmp}
use Rattle.objects.specs.declared.fault.Part.TheVariants as Parts
use Rattle.holdings.specs.Holdings.{State}
use Rattle.checkpoint.specs.EntryList.{entries_of as in_list}
use Rattle.chunks.specs.Chunks.{cut}
use Rattle.snapshots.specs.Keeping.{entries_of}
use Rattle.snapshots.proofs.Alone.{kept_held}
use Rattle.snapshots.proofs.Kept.{entries_ascend}
use Rattle.snapshots.proofs.Showing.{held_as_it_is, entries_shown}
use Rattle.decoded.specs.Decoded.{Decoded}
use Rattle.decoded.specs.Standing.{with_plans}
use Rattle.paged.specs.declared.state.Paged.{Paged}
use Rattle.paged.specs.Paged as paged
use Rattle.durable.specs.Settled.{root_of, kept_rules}
use Rattle.durable.proofs.Answering.{holds_shown}
use Rattle.durable.proofs.Called.{err_same, serves_value, serves_met, serves_spoiled, look_damaged, lies_met, ran_met, failed_met, steady_met}
use Rattle.durable.proofs.Compacting.{still_ready}
use Rattle.durable.proofs.Keeping.{pages_inside}
use Rattle.durable.proofs.Numbers.{may_still}
use Rattle.roots.specs.declared.root.Root.{Root}
use Rattle.durable.specs.Rules.{rules_by}
use Rattle.durable.proofs.store.Store.next_read.Goals as goal

pub next-requires : goal.next-requires
next-requires g c =
    let store = c.args.self.now in
    record { inside = λ keeps. pages_inside g.D.Device.disk store.device (root_of store) store.log (store.ready c.requires.serves keeps) }

pub invariant_of-self : goal.invariant_of-self
invariant_of-self g c =
    let store = c.args.self.now in
    record {
      numbers = ap (λ (core : State Decoded). core.rules) c.next.ensures.core ∙ store.numbers ∙ sym (ap (λ (r : Root). rules_by r.label) c.next.ensures.root);
      floor = may_still (root_of store) _ c.next.ensures.root store.floor;
      in_data = store.in_data;
      works = store.works;
      ready = λ serves. still_ready g.D.Device.disk store.device c.next.new.device (root_of store) _ store.log c.next.ensures.root c.next.ensures.ran (store.ready serves);
    }

pub returns-in-Err : goal.returns-in-Err
returns-in-Err g c =
    let store = c.args.self.now in
    let new = c.met.new.self in
    let device = c.next.new.device in
    record {
      entries = λ v shown. tt;
      ascending = tt;
      rules = tt;
      held = λ v shown keepable. tt;
      are = λ entries has. tt;
      damaged = λ damage is v shown keepable.
          let found = look_damaged c.in-Err.fault damage (sym (err_same is) ∙ c.met.ensures.fault) in
          c.in-Err.ensures.damaged found.0 (ap Err found.1) (with_plans v) (holds_shown store v shown) (kept_held (kept_rules store) v keepable);
      core = ap (λ (p : Paged). p.core) c.met.ensures.paged ∙ c.next.ensures.core;
      root = ap (λ (p : Paged). paged.root_of p) c.met.ensures.paged ∙ c.next.ensures.root;
      lies = λ base below. lies_met new device _ c.met.ensures.device c.met.ensures.paged base (c.next.ensures.below base below);
      device = ran_met new device _ c.met.ensures.device c.met.ensures.paged store.device c.next.ensures.ran;
      leaves = serves_met store new c.in-Err.fault c.met.ensures.fault c.met.ensures.serves
          (λ is. failed_met new device _ c.met.ensures.device c.met.ensures.paged store.device (c.in-Err.ensures.device (ap Err is)))
          (λ is. steady_met new device _ c.met.ensures.device c.met.ensures.paged store.device (c.in-Err.ensures.memory (ap Err is)));
    }

pub returns-then-ascends : goal.returns-then-ascends
returns-then-ascends g c =
    let store = c.args.self.now in
    record {
      entries = λ v shown. c.in-Ok.ensures.entries (with_plans v) (holds_shown store v shown) ∙ ap (cut (kept_rules store).format) (entries_shown (with_plans v) v (held_as_it_is (with_plans v)));
      ascending = c.ascends.ensures.0 c.if-ascends.true;
      rules = c.in-Ok.ensures.rules;
      held = λ v shown keepable. c.in-Ok.ensures.held (with_plans v) (holds_shown store v shown) (kept_held (kept_rules store) v keepable);
      are = c.in-Ok.ensures.are;
      damaged = λ damage is. absurd (no_fault is);
      core = c.next.ensures.core;
      root = c.next.ensures.root;
      lies = c.next.ensures.below;
      device = c.next.ensures.ran;
      leaves = serves_value store _ c.in-Ok.next c.requires.serves c.in-Ok.ensures.steady;
    }

pub returns : goal.returns
returns g c =
    let store = c.args.self.now in
    let new = c.stop_for.new.self in
    let device = c.next.new.device in
    record {
      entries = λ v shown. tt;
      ascending = tt;
      rules = tt;
      held = λ v shown keepable. tt;
      are = λ entries has. tt;
      damaged = λ damage is v shown keepable.
          let Sorted : List Entry → Type 0 = λ es. is_sorted bytes_cmp es ≡ true in
          let entries : in_list c.in-Ok.next.entries ≡ cut (kept_rules store).format (entries_of v) =
          c.in-Ok.ensures.entries (with_plans v) (holds_shown store v shown) ∙ ap (cut (kept_rules store).format) (entries_shown (with_plans v) v (held_as_it_is (with_plans v))) in
          let ascends = c.ascends.ensures.1 (subst Sorted (sym entries) (entries_ascend (kept_rules store) (kept_rules store).format v keepable)) in
          true≢false (sym ascends ∙ c.if-ascends.false);
      core = ap (λ (p : Paged). p.core) c.stop_for.ensures.paged ∙ c.next.ensures.core;
      root = ap (λ (p : Paged). paged.root_of p) c.stop_for.ensures.paged ∙ c.next.ensures.root;
      lies = λ base below. lies_met new device _ c.stop_for.ensures.device c.stop_for.ensures.paged base (c.next.ensures.below base below);
      device = ran_met new device _ c.stop_for.ensures.device c.stop_for.ensures.paged store.device c.next.ensures.ran;
      leaves = serves_spoiled store new Parts.Entry c.stop_for.ensures.fault c.stop_for.ensures.stops;
    }
