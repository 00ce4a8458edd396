use Rattle.std.proofs.Common.{◌≡◌, ◌∙◌, sym, ap, subst, ⊎_elim}
use Rattle.std.proofs.lemmas.Result.{IfOk-from_err, IfOk-weaker}
use Rattle.names.specs.declared.format.Rules.{Rules}
use Rattle.objects.specs.declared.fault.LookupFault.{LookupFault}
use Rattle.objects.specs.declared.fault.LookupFault.TheVariants as lookup
use Rattle.histories.specs.View as seen
use Rattle.holdings.specs.Holdings.{State}
use Rattle.decoded.specs.Decoded.{Decoded}
use Rattle.decoded.specs.Upgraded.{upgraded_rules}
use Rattle.paged.specs.Paged.{Holds}
use Rattle.paged.specs.Upgrading.{IsNextUpgraded, IsUpgradeOf}
use Rattle.paged.proofs.Showing.{shows_still}
use Rattle.snapshots.proofs.BaseFaults.{on_any}
use Rattle.paged.proofs.Upgrading.{lookup_was, not_many, not_exhausted, only_memory}
use Rattle.paged.proofs.state.Paged.next_upgraded.Goals as goal

pub returns-in_err-below : goal.returns-in_err-below
returns-in_err-below g c =
    let handed = c.from_residual in
    let r = handed.result in
    let all = c.all_below.ensures in
    let given : LookupFault = c.in_err-below.field-0.0 in
    let was = c.in_err-below.was in
    record {
      entries = λ held holds older. IfOk-from_err r _ handed.ensures.0;
      rules = IfOk-from_err r _ handed.ensures.0;
      revision = λ held holds. IfOk-from_err r _ handed.ensures.0;
      namespaces = λ held holds. IfOk-from_err r _ handed.ensures.0;
      held = λ held holds older is. IfOk-from_err r _ handed.ensures.0;
      form = λ held holds. IfOk-from_err r _ handed.ensures.0;
      room = λ held holds. IfOk-from_err r _ handed.ensures.0;
      too_many = λ held holds told. absurd (not_many r given handed.ensures.1 told);
      exhausted = λ held holds told. absurd (not_exhausted r given handed.ensures.1 told);
      damaged = λ part told held holds older may. all.damaged part (lookup_was r given handed.ensures.1 (lookup.Damaged part) was told) holds.base holds.below;
      core = all.core;
      root = all.root;
      below = all.below;
      ran = all.ran;
      steady = IfOk-from_err r _ handed.ensures.0;
      device = λ told. all.device (lookup_was r given handed.ensures.1 lookup.Device was told);
      memory = λ told. all.memory (lookup_was r given handed.ensures.1 lookup.Memory was told);
      refused = λ told. absurd (⊎_elim (not_many r given handed.ensures.1) (not_exhausted r given handed.ensures.1) told);
    }

-- memory was refused once the pages had been read
pub returns-in_err-view : goal.returns-in_err-view
returns-in_err-view g c =
    let handed = c.from_residual-in_err-view in
    let r = handed.result in
    let all = c.all_below.ensures in
    record {
      entries = λ held holds older. IfOk-from_err r _ handed.ensures.0;
      rules = IfOk-from_err r _ handed.ensures.0;
      revision = λ held holds. IfOk-from_err r _ handed.ensures.0;
      namespaces = λ held holds. IfOk-from_err r _ handed.ensures.0;
      held = λ held holds older is. IfOk-from_err r _ handed.ensures.0;
      form = λ held holds. IfOk-from_err r _ handed.ensures.0;
      room = λ held holds. IfOk-from_err r _ handed.ensures.0;
      too_many = λ held holds told. absurd (not_many r lookup.Memory handed.ensures.1 told);
      exhausted = λ held holds told. absurd (not_exhausted r lookup.Memory handed.ensures.1 told);
      damaged = λ part told held holds older may. only_memory r handed.ensures.1 (lookup.Damaged part) (λ is. cc) told;
      core = all.core;
      root = all.root;
      below = all.below;
      ran = all.ran;
      steady = IfOk-from_err r _ handed.ensures.0;
      device = λ told. absurd (only_memory r handed.ensures.1 lookup.Device (λ is. cc) told);
      memory = λ told. c.in_ok-below.ensures.steady;
      refused = λ told. c.in_ok-below.ensures.steady;
    }

pub returns : goal.returns
returns g c =
    let r = c.upgraded.result in
    let all = c.all_below.ensures in
    let old = c.args.self.now.core in
    let new = c.all_below.new.self.core in
    let rules_are : c.rules.result ≡ old.rules = c.rules.ensures ∙ ap (λ (core : State Decoded). core.rules) all.core in
    let revision_is : c.revision.result ≡ old.revision = c.revision.ensures ∙ ap (λ (core : State Decoded). core.revision) all.core in
    let tells : (held : seen.View Decoded) → Holds g.D.Device.disk c.args.device.now c.args.self.now held → IsUpgradeOf old.rules held r =
    λ held holds.
    let lent = c.in_ok-view.ensures held
    (shows_still old new holds.base c.deref.result.now held all.core (c.deref.ensures.value ∙ c.in_ok-below.ensures.all holds.base holds.below) holds.shows) in
    let same = ap (λ (v : seen.View Decoded). v.revision) lent ∙ sym holds.shows.revision ∙ sym revision_is in
    let Of : Rules × seen.View Decoded → Type 0 = λ x. IsUpgradeOf x.0 x.1 r in
    subst Of {x = (c.rules.result, c.in_ok-view.view)} {y = (old.rules, held)} (λ i. (rules_are i, lent i)) (c.upgraded.ensures.next same)
    in
    record {
      entries = λ held holds older. IfOk-weaker r (IsNextUpgraded old.rules held) _ (λ n is. is.entries older) (tells held holds).next;
      rules = IfOk-weaker r _ _ (λ n is. is ∙ (λ i. upgraded_rules (rules_are i) (revision_is i))) c.upgraded.ensures.rules;
      revision = λ held holds. IfOk-weaker r (IsNextUpgraded old.rules held) _ (λ n is. is.revision) (tells held holds).next;
      namespaces = λ held holds. IfOk-weaker r (IsNextUpgraded old.rules held) _ (λ n is. is.namespaces) (tells held holds).next;
      held = λ held holds older may. IfOk-weaker r (IsNextUpgraded old.rules held) _ (λ n is. is.held older may) (tells held holds).next;
      form = λ held holds. IfOk-weaker r (IsNextUpgraded old.rules held) _ (λ n is. is.form) (tells held holds).next;
      room = λ held holds. IfOk-weaker r (IsNextUpgraded old.rules held) _ (λ n is. is.room) (tells held holds).next;
      too_many = λ held holds. (tells held holds).too_many;
      exhausted = λ held holds. (tells held holds).exhausted;
      damaged = λ part told held holds. (tells held holds).damaged part told;
      core = all.core;
      root = all.root;
      below = all.below;
      ran = all.ran;
      steady = on_any r c.in_ok-below.ensures.steady;
      device = λ told. absurd (c.upgraded.ensures.device told);
      memory = λ told. c.in_ok-below.ensures.steady;
      refused = λ told. c.in_ok-below.ensures.steady;
    }
