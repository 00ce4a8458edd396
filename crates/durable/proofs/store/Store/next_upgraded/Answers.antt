use Rattle.std.proofs.Common.{◌≡◌, ◌≤◌, ◌<◌, ◌∙◌, inl, inr, sym, ap, subst, List, length, Some, true, true≢false, Err}
use Rattle.std.specs.FinMap.{is_sorted}
use Rattle.checkpoint.proofs.Faults.{no_fault}
use Rattle.checkpoint.specs.EntryList.{entries_of as in_list}
use Rattle.pages.specs.Page.{Entry, bytes_cmp}
use Rattle.objects.specs.declared.fault.LookupFault.TheVariants as Looks
use Rattle.objects.specs.declared.fault.Part.TheVariants as part
use Rattle.names.specs.declared.format.Rules.{Rules}
use Rattle.holdings.specs.Holdings.{State, Shows}
use Rattle.histories.specs.View as seen
use Rattle.histories.specs.View.{view}
use Rattle.chunks.specs.Chunks.{cut}
use Rattle.snapshots.specs.Keeping.{held_entries, IsHeld}
use Rattle.paged.specs.Lying.{base_of}
use Rattle.roots.specs.declared.root.Root.{Root}
use Rattle.snapshots.proofs.Kept.{entries_ascend}
use Rattle.decoded.specs.Decoded.{Decoded}
use Rattle.decoded.specs.Standing.{with_plans}
use Rattle.decoded.specs.Upgraded.{newest, upgraded_rules, new_names, rules_behind, upgraded_history, upgraded_view, upgraded_count, upgraded_revision, HaveForm, HasRoomForUpgrade, IsOfOlderFormat}
use Rattle.paged.specs.declared.compacting.NextUpgraded.{NextUpgraded}
use Rattle.paged.specs.declared.fault.NextFault.TheVariants as asked
use Rattle.paged.specs.declared.state.Paged.{Paged}
use Rattle.paged.specs.Paged as paged
use Rattle.durable.specs.declared.fault.Damage.TheVariants as damage
use Rattle.durable.specs.declared.upgraded.UpgradeFault.{UpgradeFault}
use Rattle.durable.specs.declared.upgraded.UpgradeFault.TheVariants as upgrade
use Rattle.durable.specs.Faults.{goes_on_after}
use Rattle.durable.specs.Rules.{rules_by}
use Rattle.durable.specs.Settled.{root_of, kept_rules}
use Rattle.durable.specs.Upgraded.{of_fault, IsRefusal, IsUnchanged}
use Rattle.durable.proofs.Answering.{holds_shown}
use Rattle.durable.proofs.Called.{err_same, lies_met, ran_met, failed_met, steady_met}
use Rattle.durable.proofs.Compacting.{still_ready}
use Rattle.durable.proofs.Keeping.{pages_inside}
use Rattle.durable.proofs.Numbers.{may_still}
use Rattle.durable.proofs.Older.{older, number_held, count_held, revision_held, room_held, kept_then, held_then, entries_then, shows_then, keeps_then, too_many_refuses, revision_refuses}
use Rattle.durable.proofs.Upgrading.{by_look, look_unchanged, look_refused, never_unchanged, look_unrefused, look_failed, look_stopped, look_spoiled}
use Rattle.durable.proofs.store.Store.next_upgraded.Goals as goal

-- What is told of the next generation of what a store held by the old rules.
record IsToldBy (rules : Rules) (held : seen.View Decoded) (n : NextUpgraded) : Type 0 where
  pub entries : IsOfOlderFormat rules held → in_list n.next.entries ≡ cut newest (held_entries (upgraded_view rules held))
  pub shows : IsOfOlderFormat rules held → IsHeld (upgraded_rules rules held.revision) (upgraded_view rules held)
      → Shows n.next.core (base_of (upgraded_view rules held)) (upgraded_view rules held)
  pub form : HaveForm (new_names rules held)
  pub room : HasRoomForUpgrade rules held

-- it is told by the rules that the store keeps to
told_by : (kept rules : Rules) (held : seen.View Decoded) (n : NextUpgraded) → kept ≡ rules
    → (IsOfOlderFormat kept held → in_list n.next.entries ≡ cut newest (held_entries (upgraded_view kept held)))
    → (IsOfOlderFormat kept held → IsHeld (upgraded_rules kept held.revision) (upgraded_view kept held)
    → Shows n.next.core (base_of (upgraded_view kept held)) (upgraded_view kept held))
    → HaveForm (new_names kept held) → HasRoomForUpgrade kept held → IsToldBy rules held n
told_by kept rules held n same entries shows form room =
    let Told : Rules → Type 0 = λ r. IsToldBy r held n in
    subst Told same (record { entries = entries; shows = shows; form = form; room = room })

spoiled_apart : upgrade.Damaged damage.Entry ≡ upgrade.Device → ⊥
spoiled_apart is = cc

pub next_upgraded-requires : goal.next_upgraded-requires
next_upgraded-requires g c =
    let store = c.args.self.now in
    record { inside = λ keeps. pages_inside g.D.Device.disk store.device (root_of store) store.log (store.ready c.requires.serves keeps) }

pub invariant_of-self : goal.invariant_of-self
invariant_of-self g c =
    let store = c.args.self.now in
    record {
      numbers = ap (λ (core : State Decoded). core.rules) c.next_upgraded.ensures.core ∙ store.numbers
          ∙ sym (ap (λ (r : Root). rules_by r.label) c.next_upgraded.ensures.root);
      floor = may_still (root_of store) _ c.next_upgraded.ensures.root store.floor;
      in_data = store.in_data;
      works = store.works;
      ready = λ serves. still_ready g.D.Device.disk store.device c.next_upgraded.new.device (root_of store) _ store.log c.next_upgraded.ensures.root c.next_upgraded.ensures.ran
          (store.ready serves);
    }

pub returns-in-Err-TooManyObjects : goal.returns-in-Err-TooManyObjects
returns-in-Err-TooManyObjects g c =
    let store = c.args.self.now in
    record {
      keeps = λ rules h settled. tt;
      held = λ rules h settled. tt;
      seen = λ rules v serving. tt;
      ascending = tt;
      rules = tt;
      refused = λ rules v serving f refusal is.
          let Above : Rules → Type 0 = λ r. (upgraded_rules r v.revision).object_limit < upgraded_count r (with_plans v) in
          too_many_refuses rules v (root_of store) c.requires.old
          (subst (λ n. (upgraded_rules rules v.revision).object_limit < n) (count_held rules v)
          (subst Above serving.rules_are (c.next_upgraded.ensures.too_many (with_plans v) (holds_shown store v serving.shows)
          (c.in-Err-TooManyObjects.is ∙ ap (λ x. Err x) c.in-Err-TooManyObjects.field-0-is))))
          ∙ ap (λ (x : UpgradeFault). Some x) (err_same is);
      room = λ rules v serving. tt;
      damaged = λ damage is rules h settled. cc;
      core = c.next_upgraded.ensures.core;
      root = c.next_upgraded.ensures.root;
      lies = c.next_upgraded.ensures.below;
      device = c.next_upgraded.ensures.ran;
      goes_on = tt;
      unchanged = λ is. c.requires.serves;
      stops = λ is. cc;
      damaged_stops = λ damage is. cc;
      refusal = λ is. cc;
      cause = λ is. cc;
      steady = tt;
      unfailed = λ is. c.next_upgraded.ensures.refused (inl (c.in-Err-TooManyObjects.is ∙ ap (λ x. Err x) c.in-Err-TooManyObjects.field-0-is));
    }

pub returns-in-Err-RevisionExhausted : goal.returns-in-Err-RevisionExhausted
returns-in-Err-RevisionExhausted g c =
    let store = c.args.self.now in
    record {
      keeps = λ rules h settled. tt;
      held = λ rules h settled. tt;
      seen = λ rules v serving. tt;
      ascending = tt;
      rules = tt;
      refused = λ rules v serving f refusal is.
          let Within : Rules → Type 0 = λ r. upgraded_count r (with_plans v) ≤ (upgraded_rules r v.revision).object_limit in
          let Above : Rules → Type 0 = λ r. (upgraded_rules r v.revision).greatest_revision < upgraded_revision r (with_plans v) in
          let both = c.next_upgraded.ensures.exhausted (with_plans v) (holds_shown store v serving.shows)
          (c.in-Err-RevisionExhausted.is ∙ ap (λ x. Err x) c.in-Err-RevisionExhausted.field-0-is) in
          revision_refuses rules v (root_of store) c.requires.old
          (subst (λ n. n ≤ (upgraded_rules rules v.revision).object_limit) (count_held rules v) (subst Within serving.rules_are both.0))
          (subst (λ n. (upgraded_rules rules v.revision).greatest_revision < n) (revision_held rules v) (subst Above serving.rules_are both.1))
          ∙ ap (λ (x : UpgradeFault). Some x) (err_same is);
      room = λ rules v serving. tt;
      damaged = λ damage is rules h settled. cc;
      core = c.next_upgraded.ensures.core;
      root = c.next_upgraded.ensures.root;
      lies = c.next_upgraded.ensures.below;
      device = c.next_upgraded.ensures.ran;
      goes_on = tt;
      unchanged = λ is. c.requires.serves;
      stops = λ is. cc;
      damaged_stops = λ damage is. cc;
      refusal = λ is. cc;
      cause = λ is. cc;
      steady = tt;
      unfailed = λ is. c.next_upgraded.ensures.refused (inr (c.in-Err-RevisionExhausted.is ∙ ap (λ x. Err x) c.in-Err-RevisionExhausted.field-0-is));
    }

pub returns-in-Err-Lookup : goal.returns-in-Err-Lookup
returns-in-Err-Lookup g c =
    let store = c.args.self.now in
    let new = c.met.new.self in
    let device = c.next_upgraded.new.device in
    let look = c.in-Err-Lookup.fault in
    let is_look : c.next_upgraded.result ≡ Err (asked.Lookup look) = c.in-Err-Lookup.is ∙ ap (λ x. Err x) c.in-Err-Lookup.field-0-is in
    let said = c.from.result in
    let by : said ≡ by_look look = c.from.ensures ∙ ap of_fault c.met.ensures.fault in
    record {
      keeps = λ rules h settled. tt;
      held = λ rules h settled. tt;
      seen = λ rules v serving. tt;
      ascending = tt;
      rules = tt;
      refused = λ rules v serving f refusal is. absurd (look_unrefused look (subst (λ x. IsRefusal x) (sym (err_same is) ∙ by) refusal));
      room = λ rules v serving. tt;
      damaged = λ damage is rules h settled.
          let found = look_spoiled look damage (sym by ∙ err_same is) in
          let held = with_plans (view rules h) in
          let Sound : Rules → Type 0 =
          λ r. IsOfOlderFormat r held → (HaveForm (new_names r held) → HasRoomForUpgrade r held → IsHeld (upgraded_rules r held.revision) (upgraded_view r held)) → ⊥ in
          subst Sound settled.rules_are (c.next_upgraded.ensures.damaged found.0 (is_look ∙ ap (λ x. Err (asked.Lookup x)) found.1) held
          (holds_shown store (view rules h) settled.shows)) (older store rules h settled c.requires.old)
          (held_then store rules h settled c.requires.old c.upgrades_follow.ensures);
      core = ap (λ (p : Paged). p.core) c.met.ensures.paged ∙ c.next_upgraded.ensures.core;
      root = ap (λ (p : Paged). paged.root_of p) c.met.ensures.paged ∙ c.next_upgraded.ensures.root;
      lies = λ base below. lies_met new device _ c.met.ensures.device c.met.ensures.paged base (c.next_upgraded.ensures.below base below);
      device = ran_met new device _ c.met.ensures.device c.met.ensures.paged store.device c.next_upgraded.ensures.ran;
      goes_on = tt;
      unchanged = λ is. c.met.ensures.serves ∙ look_unchanged look (subst (λ x. IsUnchanged {T = NextUpgraded} (Err x)) by is);
      stops = λ is. c.met.ensures.serves ∙ ap goes_on_after (look_stopped look (sym by ∙ err_same is));
      damaged_stops = λ damage is. c.met.ensures.serves ∙ ap goes_on_after (look_spoiled look damage (sym by ∙ err_same is)).1;
      refusal = λ is. look_failed look (sym by ∙ err_same is);
      cause = λ is. failed_met new device _ c.met.ensures.device c.met.ensures.paged store.device
          (c.next_upgraded.ensures.device (is_look ∙ ap (λ x. Err (asked.Lookup x)) (look_stopped look (sym by ∙ err_same is))));
      steady = tt;
      unfailed = λ is. steady_met new device _ c.met.ensures.device c.met.ensures.paged store.device
          (c.next_upgraded.ensures.memory (is_look ∙ ap (λ x. Err (asked.Lookup x)) (look_refused look (subst (λ x. IsUnchanged {T = NextUpgraded} (Err x)) by is))));
    }

pub returns-then-ascends : goal.returns-then-ascends
returns-then-ascends g c =
    let store = c.args.self.now in
    let next = c.in-Ok.upgraded.next in
    record {
      keeps = λ rules h settled.
          let held = with_plans (view rules h) in
          let holds = holds_shown store (view rules h) settled.shows in
          let told = told_by (kept_rules store) rules held c.in-Ok.upgraded settled.rules_are (c.in-Ok.ensures.entries held holds) (c.in-Ok.ensures.held held holds)
          (c.in-Ok.ensures.form held holds) (c.in-Ok.ensures.room held holds) in
          let old = older store rules h settled c.requires.old in
          keeps_then store rules h settled c.requires.old next c.in-Ok.ensures.rules (told.entries old)
          (told.shows old (held_then store rules h settled c.requires.old c.upgrades_follow.ensures told.form told.room)) c.upgrades_follow.ensures told.form told.room;
      held = λ rules h settled.
          let held = with_plans (view rules h) in
          let holds = holds_shown store (view rules h) settled.shows in
          let told = told_by (kept_rules store) rules held c.in-Ok.upgraded settled.rules_are (c.in-Ok.ensures.entries held holds) (c.in-Ok.ensures.held held holds)
          (c.in-Ok.ensures.form held holds) (c.in-Ok.ensures.room held holds) in
          let old = older store rules h settled c.requires.old in
          shows_then store rules h settled c.requires.old next.core
          (told.shows old (held_then store rules h settled c.requires.old c.upgrades_follow.ensures told.form told.room));
      seen = λ rules v serving.
          let holds = holds_shown store v serving.shows in
          let held = with_plans v in (
            c.in-Ok.ensures.revision held holds ∙ ap (λ (r : Rules). upgraded_revision r held) serving.rules_are ∙ revision_held rules v,
            c.in-Ok.ensures.namespaces held holds ∙ ap (λ (r : Rules). length (new_names r held)) serving.rules_are ∙ number_held rules v,
          );
      ascending = c.ascends.ensures.0 c.if-ascends.true;
      rules = c.in-Ok.ensures.rules;
      refused = λ rules v serving f refusal is. absurd (no_fault is);
      room = λ rules v serving.
          let Room : Rules → Type 0 = λ r. HasRoomForUpgrade r (with_plans v) in
          room_held rules v (subst Room serving.rules_are (c.in-Ok.ensures.room (with_plans v) (holds_shown store v serving.shows)));
      damaged = λ damage is rules h settled. no_fault is;
      core = c.next_upgraded.ensures.core;
      root = c.next_upgraded.ensures.root;
      lies = c.next_upgraded.ensures.below;
      device = c.next_upgraded.ensures.ran;
      goes_on = c.requires.serves;
      unchanged = λ is. c.requires.serves;
      stops = λ is. absurd (no_fault is);
      damaged_stops = λ damage is. absurd (no_fault is);
      refusal = λ is. no_fault is;
      cause = λ is. absurd (no_fault is);
      steady = c.in-Ok.ensures.steady;
      unfailed = λ is. never_unchanged _ is;
    }

pub returns : goal.returns
returns g c =
    let store = c.args.self.now in
    let new = c.stop_for.new.self in
    let device = c.next_upgraded.new.device in
    let said = c.from-2.result in
    let by : said ≡ upgrade.Damaged damage.Entry = c.from-2.ensures ∙ ap of_fault c.stop_for.ensures.fault in
    record {
      keeps = λ rules h settled. tt;
      held = λ rules h settled. tt;
      seen = λ rules v serving. tt;
      ascending = tt;
      rules = tt;
      refused = λ rules v serving f refusal is. absurd (look_unrefused (Looks.Damaged part.Entry) (subst (λ x. IsRefusal x) (sym (err_same is) ∙ by) refusal));
      room = λ rules v serving. tt;
      damaged = λ damage is rules h settled.
          let held = with_plans (view rules h) in
          let holds = holds_shown store (view rules h) settled.shows in
          let told = told_by (kept_rules store) rules held c.in-Ok.upgraded settled.rules_are (c.in-Ok.ensures.entries held holds) (c.in-Ok.ensures.held held holds)
          (c.in-Ok.ensures.form held holds) (c.in-Ok.ensures.room held holds) in
          let old = older store rules h settled c.requires.old in
          let Sorted : List Entry → Type 0 = λ es. is_sorted bytes_cmp es ≡ true in
          let list = c.in-Ok.upgraded.next.entries in
          let then = rules_behind rules h in
          let entries = entries_then store rules h settled c.requires.old (in_list list) (told.entries old) in
          let kept = kept_then store rules h settled c.requires.old c.upgrades_follow.ensures told.form told.room in
          let ascends = c.ascends.ensures.1 (subst Sorted (sym entries) (entries_ascend then then.format (view then (upgraded_history rules h)) kept)) in
          true≢false (sym ascends ∙ c.if-ascends.false);
      core = ap (λ (p : Paged). p.core) c.stop_for.ensures.paged ∙ c.next_upgraded.ensures.core;
      root = ap (λ (p : Paged). paged.root_of p) c.stop_for.ensures.paged ∙ c.next_upgraded.ensures.root;
      lies = λ base below. lies_met new device _ c.stop_for.ensures.device c.stop_for.ensures.paged base (c.next_upgraded.ensures.below base below);
      device = ran_met new device _ c.stop_for.ensures.device c.stop_for.ensures.paged store.device c.next_upgraded.ensures.ran;
      goes_on = tt;
      unchanged = λ is. absurd (true≢false (sym (look_unchanged (Looks.Damaged part.Entry) (subst (λ x. IsUnchanged {T = NextUpgraded} (Err x)) by is))));
      stops = λ is. c.stop_for.ensures.stops;
      damaged_stops = λ damage is. c.stop_for.ensures.stops;
      refusal = λ is. look_failed (Looks.Damaged part.Entry) (sym by ∙ err_same is);
      cause = λ is. absurd (spoiled_apart (sym by ∙ err_same is));
      steady = tt;
      unfailed = λ is. absurd (true≢false (sym (look_unchanged (Looks.Damaged part.Entry) (subst (λ x. IsUnchanged {T = NextUpgraded} (Err x)) by is))));
    }
