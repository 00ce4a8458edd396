use Rattle.std.proofs.Common.{◌≡◌, ◌∙◌, sym, ap, subst}
use Rattle.names.specs.declared.format.Rules.{Rules}
use Rattle.histories.specs.View as seen
use Rattle.holdings.specs.Holdings.{State, Shows}
use Rattle.chunks.specs.Chunks.{cut}
use Rattle.snapshots.specs.Keeping.{IsHeld, held_entries}
use Rattle.paged.specs.Lying.{base_of}
use Rattle.paged.specs.Paged.{Holds}
use Rattle.decoded.specs.Decoded.{Decoded}
use Rattle.std.proofs.lemmas.Result.{IfOk-from_err}
use Rattle.objects.specs.declared.fault.LookupFault.TheVariants as LookupFault
use Rattle.checkpoint.proofs.Faults.{no_fault}
use Rattle.apicore.proofs.Faults.{same_fault}
use Rattle.paged.proofs.Going.{no_want}
use Rattle.paged.proofs.Showing.{shows_still}
use Rattle.paged.proofs.state.Paged.next.Goals as goal

pub returns-in_err-below : goal.returns-in_err-below
returns-in_err-below g c =
    let handed = c.from_residual in
    let all = c.all_below.ensures in
    record {
      entries = λ held holds. IfOk-from_err handed.result _ handed.ensures.0;
      rules = IfOk-from_err handed.result _ handed.ensures.0;
      held = λ held holds is. IfOk-from_err handed.result _ handed.ensures.0;
      are = λ entries has. IfOk-from_err handed.result _ handed.ensures.0;
      damaged = λ part told held holds is. all.damaged part (same_fault handed.ensures.1 c.in_err-below.was told) holds.base holds.below;
      core = all.core;
      root = all.root;
      below = all.below;
      ran = all.ran;
      steady = IfOk-from_err handed.result _ handed.ensures.0;
      device = λ told. all.device (same_fault handed.ensures.1 c.in_err-below.was told);
      memory = λ told. all.memory (same_fault handed.ensures.1 c.in_err-below.was told);
    }

-- memory was refused once the pages had been read
pub returns-in_err-view : goal.returns-in_err-view
returns-in_err-view g c =
    let handed = c.from_residual-in_err-view in
    let all = c.all_below.ensures in
    record {
      entries = λ held holds. IfOk-from_err handed.result _ handed.ensures.0;
      rules = IfOk-from_err handed.result _ handed.ensures.0;
      held = λ held holds is. IfOk-from_err handed.result _ handed.ensures.0;
      are = λ entries has. IfOk-from_err handed.result _ handed.ensures.0;
      damaged = λ part told held holds is. no_want handed.result handed.ensures.1 (LookupFault.Damaged part) (λ is. cc) told;
      core = all.core;
      root = all.root;
      below = all.below;
      ran = all.ran;
      steady = IfOk-from_err handed.result _ handed.ensures.0;
      device = λ told. no_want handed.result handed.ensures.1 LookupFault.Device (λ is. cc) told;
      memory = λ told. c.in_ok-below.ensures.steady;
    }

pub returns-in_err-entries : goal.returns-in_err-entries
returns-in_err-entries g c =
    let handed = c.from_residual-in_err-entries in
    let all = c.all_below.ensures in
    record {
      entries = λ held holds. IfOk-from_err handed.result _ handed.ensures.0;
      rules = IfOk-from_err handed.result _ handed.ensures.0;
      held = λ held holds is. IfOk-from_err handed.result _ handed.ensures.0;
      are = λ entries has. IfOk-from_err handed.result _ handed.ensures.0;
      damaged = λ part told held holds is. no_want handed.result handed.ensures.1 (LookupFault.Damaged part) (λ is. cc) told;
      core = all.core;
      root = all.root;
      below = all.below;
      ran = all.ran;
      steady = IfOk-from_err handed.result _ handed.ensures.0;
      device = λ told. no_want handed.result handed.ensures.1 LookupFault.Device (λ is. cc) told;
      memory = λ told. c.in_ok-below.ensures.steady;
    }

-- the view that was lent is what is held
abbrev Held : Rules → seen.View Decoded → Type 0
Held rules view = IsHeld rules view

held_still : (rules other : Rules) (view held : seen.View Decoded) → other ≡ rules → view ≡ held → IsHeld rules held → IsHeld other view
held_still rules other view held same lent is = subst (λ (r : Rules). Held r view) (sym same) (subst (Held rules) (sym lent) is)

pub returns-in_err-core : goal.returns-in_err-core
returns-in_err-core g c =
    let handed = c.from_residual-in_err-core in
    let was = c.in_err-core.was in
    let all = c.all_below.ensures in
    let old = c.args.self.now.core in
    let new = c.all_below.new.self.core in
    record {
      entries = λ held holds. IfOk-from_err handed.result _ handed.ensures.0;
      rules = IfOk-from_err handed.result _ handed.ensures.0;
      held = λ held holds is. IfOk-from_err handed.result _ handed.ensures.0;
      are = λ entries has. IfOk-from_err handed.result _ handed.ensures.0;
      damaged = λ part told held holds is.
          let lent = c.in_ok-view.ensures held
          (shows_still old new holds.base c.deref.result.now held all.core (c.deref.ensures.value ∙ c.in_ok-below.ensures.all holds.base holds.below) holds.shows) in
          c.renewed_core.ensures.damaged part (same_fault handed.ensures.1 was told)
          (held_still old.rules _ _ held (c.rules-rules.ensures ∙ ap (λ (core : State Decoded). core.rules) all.core) lent is);
      core = all.core;
      root = all.root;
      below = all.below;
      ran = all.ran;
      steady = IfOk-from_err handed.result _ handed.ensures.0;
      device = λ told. absurd (c.renewed_core.ensures.device (same_fault handed.ensures.1 was told));
      memory = λ told. c.in_ok-below.ensures.steady;
    }

pub returns : goal.returns
returns g c =
    let all = c.all_below.ensures in
    let old = c.args.self.now.core in
    let new = c.all_below.new.self.core in
    let rules_are = c.rules-rules.ensures ∙ ap (λ (core : State Decoded). core.rules) all.core in
    let lent : (held : seen.View Decoded) → Holds g.D.Device.disk c.args.device.now c.args.self.now held → c.in_ok-view.view ≡ held =
    λ held holds. c.in_ok-view.ensures held
    (shows_still old new holds.base c.deref.result.now held all.core (c.deref.ensures.value ∙ c.in_ok-below.ensures.all holds.base holds.below) holds.shows)
    in
    record {
      entries = λ held holds. c.in_ok-entries.ensures.held ∙ (λ i. cut (rules_are i).format (held_entries (lent held holds i)));
      rules = c.in_ok-core.ensures.rules ∙ rules_are;
      held = λ held holds is.
          let Shown : seen.View Decoded → Type 0 = λ v. Shows c.in_ok-core.core (base_of v) v in
          subst Shown (lent held holds) (c.in_ok-core.ensures.held (held_still old.rules _ _ held rules_are (lent held holds) is));
      are = c.in_ok-below.ensures.are;
      damaged = λ part told. absurd (no_fault told);
      core = all.core;
      root = all.root;
      below = all.below;
      ran = all.ran;
      steady = c.in_ok-below.ensures.steady;
      device = λ told. absurd (no_fault told);
      memory = λ told. c.in_ok-below.ensures.steady;
    }
