use Rattle.std.proofs.Common.{◌≡◌, ◌∙◌, refl, sym, ap, subst, ⊎_elim, inl, inr, ℕ, List, [], Err}
use Rattle.names.specs.declared.format.Rules.{Rules}
use Rattle.names.specs.Key.{Key}
use Rattle.histories.specs.Mapped.{mapped}
use Rattle.histories.specs.View as seen
use Rattle.histories.specs.View.{view}
use Rattle.histories.specs.declared.stored.Stored.{Stored}
use Rattle.snapshots.specs.declared.object_cache.ObjectCache.{ObjectCache}
use Rattle.snapshots.specs.Keeping.{IsHeld}
use Rattle.snapshots.proofs.Showing.{held_as_it_is}
use Rattle.shelf.proofs.Staying.{shelves_ran}
use Rattle.decoded.specs.Decoded.{Decoded}
use Rattle.recovery.specs.Known.{AllKnown}
use Rattle.decoded.specs.Shown.{plans_held}
use Rattle.decoded.specs.Standing.{with_plans}
use Rattle.recovery.specs.Taken.{HasRedone}
use Rattle.recovery.specs.Written.{IsWritten}
use Rattle.checkpoint.specs.Pages.{HoldsPages}
use Rattle.snapshots.specs.ObjectCache.{HasEntries}
use Rattle.paged.specs.Chosen.{HasHeldEntries}
use Rattle.paged.specs.Lying.{base_of, LiesBelow}
use Rattle.paged.proofs.Staying.{below_ran}
use Rattle.durable.specs.Opened.{IsDamageBehind}
use Rattle.durable.specs.Rules.{rules_by}
use Rattle.durable.specs.ReadWhole.{entries_under}
use Rattle.durable.specs.Stands.{HoldsBase}
use Rattle.durable.specs.declared.fault.Fault.TheVariants as Fault
use Rattle.checkpoint.proofs.Faults.{err_is}
use Rattle.durable.proofs.Bases.{base_held, base_entries, page_entry_or_plans, read_thrice}
use Rattle.durable.proofs.FoundFaults.{behind_pages, behind_log, only_read_memory}
use Rattle.durable.proofs.Payloads.{log_still}
use Rattle.durable.proofs.Reading.{redone_holds}
use Rattle.durable.proofs.content.read_objects.Goals as goal

pub returns-in_err-chosen-clause-damaged : goal.returns-in_err-chosen-clause-damaged
returns-in_err-chosen-clause-damaged g c keeps damage told payloads log rules base ws history holds written =
    c.chosen_of.ensures.damaged keeps damage
    (c.in_err-chosen.was ∙ ap Err (sym (err_is c.from_residual.result _ (Fault.Damaged damage) c.from_residual.ensures.1 told))) payloads log

pub returns-in_err-paged-clause-damaged : goal.returns-in_err-paged-clause-damaged
returns-in_err-paged-clause-damaged g c keeps damage told payloads log rules base ws history holds written =
    let disk = g.D.Device.disk in
    let content = disk.content c.chosen_of.new.device in
    let root = c.args.root.now in
    let kept = c.chosen_of.ensures.ran.kept keeps in
    let Base : List ℕ → Type 0 = λ x. HoldsBase rules x root base in
    let there = subst Base (sym (c.chosen_of.ensures.ran.seen keeps)) holds in
    let held : seen.View Decoded = with_plans (view rules base) in
    let is_held = base_held rules content root base history there c.rules.result c.rules.ensures in
    let entries = base_entries rules content root base history there in
    let fault = page_entry_or_plans c.in_err-paged.field-0.0 damage
    (sym (err_is c.from_residual-in_err-paged.result _ (Fault.Damaged damage) c.from_residual-in_err-paged.ensures.1 told)) in
    ⊎_elim (λ is. c.read.ensures.damaged kept (inl (c.in_err-paged.was ∙ ap Err is)) held is_held entries there.revision)
    (λ other.
    ⊎_elim (λ is. c.read.ensures.damaged kept (inr (inl (c.in_err-paged.was ∙ ap Err is))) held is_held entries there.revision)
    (λ is. c.read.ensures.damaged kept (inr (inr (c.in_err-paged.was ∙ ap Err is))) held is_held entries there.revision) other)
    fault

pub returns-in_err-chosen-clause-behind : goal.returns-in_err-chosen-clause-behind
returns-in_err-chosen-clause-behind g c keeps damage told =
    let content = g.D.Device.disk.content c.args.device.now in
    let is = c.chosen_of.ensures.told damage (c.in_err-chosen.was ∙ ap Err (sym (err_is c.from_residual.result _ (Fault.Damaged damage) c.from_residual.ensures.1 told))) in
    subst (IsDamageBehind content c.args.root.now) (sym is) tt

pub returns-in_err-paged-clause-behind : goal.returns-in_err-paged-clause-behind
returns-in_err-paged-clause-behind g c keeps damage told =
    let disk = g.D.Device.disk in
    let content = disk.content c.chosen_of.new.device in
    let root = c.args.root.now in
    let kept = c.chosen_of.ensures.ran.kept keeps in
    let Behind : List ℕ → Type 0 = λ x. IsDamageBehind x root damage in
    subst Behind (c.chosen_of.ensures.ran.seen keeps)
    (behind_pages content root c.read.result c.in_err-paged.field-0.0 c.in_err-paged.was
    (λ is rules base history holds.
    c.read.ensures.damaged kept is (with_plans (view rules base)) (base_held rules content root base history holds c.rules.result c.rules.ensures)
    (base_entries rules content root base history holds) holds.revision)
    damage (sym (err_is c.from_residual-in_err-paged.result _ (Fault.Damaged damage) c.from_residual-in_err-paged.ensures.1 told)))

pub returns-in_err-redo_log-clause-behind : goal.returns-in_err-redo_log-clause-behind
returns-in_err-redo_log-clause-behind g c keeps damage told =
    behind_log (g.D.Device.disk.content c.args.device.now) c.args.root.now damage
    (c.redo_log.ensures.told damage (c.in_err-redo_log.was ∙ ap Err (sym (err_is c.from_residual-in_err-redo_log.result _ (Fault.Damaged damage) c.from_residual-in_err-redo_log.ensures.1 told))))

pub returns-in_err-redo_log-clause-damaged : goal.returns-in_err-redo_log-clause-damaged
returns-in_err-redo_log-clause-damaged g c keeps damage told payloads log rules base ws history holds written =
    let disk = g.D.Device.disk in
    let mid = c.chosen_of.new.device in
    let content = disk.content mid in
    let root = c.args.root.now in
    let kept = c.chosen_of.ensures.ran.kept keeps in
    let same = c.chosen_of.ensures.ran.seen keeps in
    let Base : List ℕ → Type 0 = λ x. HoldsBase rules x root base in
    let there = subst Base (sym same) holds in
    let held : seen.View Decoded = with_plans (view rules base) in
    let below : List (Key × Stored Decoded) = base_of held in
    let found = c.in_ok-paged.ensures.held kept held (base_held rules content root base history there c.rules.result c.rules.ensures)
    (base_entries rules content root base history there) there.revision in
    let first : rules ≡ rules_by root.label = there.numbers in
    let own : rules ≡ c.in_ok-paged.paged.core.rules = first ∙ sym (c.in_ok-paged.ensures.rules ∙ c.rules.ensures) in
    let By : Rules → seen.View Decoded → Type 0 = λ r v. IsWritten r v ws payloads in
    let known : AllKnown c.in_ok-paged.paged.core below payloads =
    λ payload key has writes. found.2 key (λ some. c.in_ok-chosen.ensures.all keeps payloads log some payload key has writes) in
    let log_there = log_still c.args.log.now c.chosen_of.new.log payloads (disk.content c.args.device.now) (disk.content c.read.new.device) c.chosen_of.ensures.log
    (c.read.ensures.ran.seen kept ∙ same) log in
    let own_written = subst (λ r. By r (mapped plans_held held)) own (subst (By rules) (sym (held_as_it_is held)) written) in
    c.redo_log.ensures.damaged (c.read.ensures.ran.kept kept) damage
    (c.in_err-redo_log.was ∙ ap Err (sym (err_is c.from_residual-in_err-redo_log.result _ (Fault.Damaged damage) c.from_residual-in_err-redo_log.ensures.1 told)))
    payloads log_there below held found.1 known ws own_written

pub returns-clause-found : goal.returns-clause-found
returns-clause-found g c keeps payloads log rules base ws history holds written =
    let disk = g.D.Device.disk in
    let mid = c.chosen_of.new.device in
    let content = disk.content mid in
    let root = c.args.root.now in
    let kept = c.chosen_of.ensures.ran.kept keeps in
    let same = c.chosen_of.ensures.ran.seen keeps in
    let Base : List ℕ → Type 0 = λ x. HoldsBase rules x root base in
    let there = subst Base (sym same) holds in
    let held : seen.View Decoded = with_plans (view rules base) in
    let below : List (Key × Stored Decoded) = base_of held in
    let found = c.in_ok-paged.ensures.held kept held (base_held rules content root base history there c.rules.result c.rules.ensures)
    (base_entries rules content root base history there) there.revision in
    let first : rules ≡ rules_by root.label = there.numbers in
    let own : rules ≡ c.in_ok-paged.paged.core.rules = first ∙ sym (c.in_ok-paged.ensures.rules ∙ c.rules.ensures) in
    let known : AllKnown c.in_ok-paged.paged.core below payloads =
    λ payload key has writes. found.2 key (λ some. c.in_ok-chosen.ensures.all keeps payloads log some payload key has writes) in
    let log_there = log_still c.args.log.now c.chosen_of.new.log payloads (disk.content c.args.device.now) (disk.content c.read.new.device) c.chosen_of.ensures.log
    (c.read.ensures.ran.seen kept ∙ same) log in
    let Lies : ObjectCache → Type 0 = λ s. LiesBelow disk c.redo_log.new.device s below in
    let Redone : Rules → Type 0 = λ r. HasRedone r below held c.in_ok-redo_log.field-0.core payloads in (
      subst Lies (sym c.in_ok-redo_log.ensures.cache) (below_ran disk c.in_ok-paged.paged below c.read.new.device c.redo_log.new.device c.redo_log.ensures.ran found.0),
      subst Redone (sym own) (c.in_ok-redo_log.ensures.found (c.read.ensures.ran.kept kept) payloads log_there below held found.1 known),
    )

pub returns-clause-redone : goal.returns-clause-redone
returns-clause-redone g c none =
    let disk = g.D.Device.disk in
    let core = c.in_ok-redo_log.field-0.core in
    let read = c.in_ok-paged.ensures.no_pages none in
    let held = read.1 in
    let own : c.in_ok-paged.paged.core.rules ≡ rules_by c.args.root.now.label = c.in_ok-paged.ensures.rules ∙ c.rules.ensures in
    let Lies : ObjectCache → Type 0 = λ s. LiesBelow disk c.redo_log.new.device s [] in
    let Held : Rules → Type 0 = λ r. IsHeld r held.0 in
    let redone = c.in_ok-redo_log.ensures.redone [] held.0 held.2 (λ _ _. refl) in
    let Redone : Rules → Type 0 = λ r. HasRedone r [] held.0 core redone.0 in (
      subst Lies (sym c.in_ok-redo_log.ensures.cache) (below_ran disk c.in_ok-paged.paged [] c.read.new.device c.redo_log.new.device c.redo_log.ensures.ran read.0),
      redone_holds (rules_by c.args.root.now.label) held.0 core redone.0 (subst Held c.rules.ensures held.1) (subst Redone own redone.1),
    )

pub returns-clause-whole : goal.returns-clause-whole
returns-clause-whole g c keeps =
    let Pages : List ℕ → Type 0 = λ x. HoldsPages x c.args.root.now in
    subst Pages (c.chosen_of.ensures.ran.seen keeps) (c.in_ok-paged.ensures.whole (c.chosen_of.ensures.ran.kept keeps))

pub returns-clause-entries : goal.returns-clause-entries
returns-clause-entries g c keeps =
    let disk = g.D.Device.disk in
    let root = c.args.root.now in
    let paged = c.in_ok-paged.paged in
    let Has : ObjectCache → List ℕ → Type 0 = λ s x. HasEntries disk c.redo_log.new.device s (entries_under root x) in
    let read = c.in_ok-paged.ensures.entries (c.chosen_of.ensures.ran.kept keeps) in
    let after = shelves_ran disk paged.cache.shelf c.read.new.device c.redo_log.new.device (entries_under root (disk.content c.chosen_of.new.device)) c.redo_log.ensures.ran read in
    subst (λ s. Has s (disk.content c.args.device.now)) (sym c.in_ok-redo_log.ensures.cache) (subst (Has paged.cache) (c.chosen_of.ensures.ran.seen keeps) after)

pub returns-clause-kept : goal.returns-clause-kept
returns-clause-kept g c keeps =
    let root = c.args.root.now in
    let By : Rules → List ℕ → Type 0 = λ r x. HasHeldEntries r root.label (entries_under root x) in
    let content = g.D.Device.disk.content c.args.device.now in
    subst (λ r. By r content) c.rules.ensures
    (subst (By c.rules.result) (c.chosen_of.ensures.ran.seen keeps) (c.in_ok-paged.ensures.kept (c.chosen_of.ensures.ran.kept keeps)))

pub returns-clause-groups : goal.returns-clause-groups
returns-clause-groups g c keeps payloads log =
    let disk = g.D.Device.disk in
    let kept = c.chosen_of.ensures.ran.kept keeps in
    c.in_ok-redo_log.ensures.groups (c.read.ensures.ran.kept kept) payloads
    (log_still c.args.log.now c.chosen_of.new.log payloads (disk.content c.args.device.now) (disk.content c.read.new.device) c.chosen_of.ensures.log
    (c.read.ensures.ran.seen kept ∙ c.chosen_of.ensures.ran.seen keeps) log)

pub returns-in_err-redo_log-clause-ran : goal.returns-in_err-redo_log-clause-ran
returns-in_err-redo_log-clause-ran g c =
    read_thrice g.D.Device.disk c.args.device.now c.chosen_of.new.device c.read.new.device c.redo_log.new.device c.chosen_of.ensures.ran c.read.ensures.ran c.redo_log.ensures.ran

pub returns-clause-ran : goal.returns-clause-ran
returns-clause-ran g c =
    read_thrice g.D.Device.disk c.args.device.now c.chosen_of.new.device c.read.new.device c.redo_log.new.device c.chosen_of.ensures.ran c.read.ensures.ran c.redo_log.ensures.ran

pub returns-in_err-paged-clause-unfailed : goal.returns-in_err-paged-clause-unfailed
returns-in_err-paged-clause-unfailed g c told =
    c.read.ensures.memory (c.in_err-paged.was
    ∙ ap Err (only_read_memory c.in_err-paged.field-0.0 (sym (err_is c.from_residual-in_err-paged.result _ Fault.Memory c.from_residual-in_err-paged.ensures.1 told))))
    ∙ c.in_ok-chosen.ensures.steady
