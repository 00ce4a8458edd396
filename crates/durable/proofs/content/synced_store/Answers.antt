use Rattle.std.proofs.Common.{arith, rules as common, ◌≡◌, ◌∙◌, refl, sym, ap, subst, List, [], ℕ, map, Result, Err, IsErrOf}
use Rattle.device.specs.Run.{Ran}
use Rattle.device.specs.Step.{Same}
use Rattle.names.specs.declared.format.Rules.{Rules}
use Rattle.gatelog.specs.Log.{HoldsLog}
use Rattle.roots.specs.Root.{log_sector, HoldsRoot, MayHaveFloor}
use Rattle.histories.specs.View as seen
use Rattle.histories.specs.View.{view}
use Rattle.records.specs.Payload.{writes_in}
use Rattle.roots.specs.declared.root.Root.{Root}
use Rattle.roots.proofs.Syncing.{only_after}
use Rattle.snapshots.proofs.Showing.{held_as_it_is}
use Rattle.decoded.specs.Decoded.{Decoded}
use Rattle.decoded.specs.Standing.{write_with_plans, with_plans}
use Rattle.recovery.specs.Written.{Write}
use Rattle.checkpoint.specs.Pages.{HoldsPages}
use Rattle.paged.specs.Chosen.{HasHeldEntries}
use Rattle.paged.specs.Lying.{base_of}
use Rattle.paged.specs.Paged.{HasEntries}
use Rattle.paged.proofs.Staying.{below_free}
use Rattle.durable.specs.declared.fault.Damage.{Damage}
use Rattle.durable.specs.declared.fault.Fault.{Fault as AnyFault}
use Rattle.durable.specs.declared.fault.Fault.TheVariants as Fault
use Rattle.durable.specs.Faults.{of_root_fault}
use Rattle.durable.specs.Stands.{HoldsBase}
use Rattle.durable.specs.Rules.{rules_at, rules_by}
use Rattle.durable.proofs.Called.{err_same}
use Rattle.durable.proofs.Renewing.{failed_then}
use Rattle.durable.proofs.Unwritten.{read_then}
use Rattle.durable.specs.declared.content.Opened.{Opened}
use Rattle.durable.specs.Opened.{IsDamageBehind, IsRedone, HasRead}
use Rattle.durable.specs.ReadWhole.{entries_under}
use Rattle.durable.proofs.Bases.{read_thrice}
use Rattle.durable.proofs.FoundFaults.{err_of, found_none, found_no_root, behind_counts, no_root_memory}
use Rattle.checkpoint.proofs.Faults.{err_is}
use Rattle.durable.proofs.Payloads.{log_still}
use Rattle.durable.proofs.Reading.{base_is, base_here, no_log_here, written_here, opened_shows}
use Rattle.durable.proofs.content.synced_store.Goals as goal

pub returns-in_err-root-clause-read : goal.returns-in_err-root-clause-read
returns-in_err-root-clause-read g c =
    let disk = g.D.Device.disk in
    let Read : Result Opened AnyFault → Type 0 = λ r. HasRead disk c.args.device.now c.synced_root.new.device r in
    subst Read (sym (err_of c.from_residual.result (of_root_fault c.in_err-root.field-0.0) c.from_residual.ensures.1))
    (found_no_root disk c.args.device.now c.synced_root.new.device c.synced_root.ensures.ran c.synced_root.result c.in_err-root.field-0.0 c.in_err-root.was
    c.synced_root.ensures.cause c.synced_root.ensures.damaged c.synced_root.ensures.header c.synced_root.ensures.root)

pub returns-in_err-paged-in-Ok-clause-read : goal.returns-in_err-paged-in-Ok-clause-read
returns-in_err-paged-in-Ok-clause-read g c =
    let disk = g.D.Device.disk in
    let content = disk.content c.args.device.now in
    let root = c.in_ok-root.root in
    let fault = c.in_err-paged-in-Ok.field-0.0 in
    let first : Ran disk c.args.device.now c.open_log.new.device Same =
    read_then disk c.args.device.now c.synced_root.new.device c.open_log.new.device c.synced_root.ensures.ran c.open_log.ensures.ran
    in
    let Read : Result Opened AnyFault → Type 0 = λ r. HasRead disk c.args.device.now c.read_objects.new.device r in
    subst Read (sym (err_of c.from_residual-in_err-paged-in-Ok.result fault c.from_residual-in_err-paged-in-Ok.ensures.1))
    (found_none disk c.args.device.now c.read_objects.new.device
    (read_then disk c.args.device.now c.open_log.new.device c.read_objects.new.device first c.read_objects.ensures.ran) fault
    (λ is. c.read_objects.ensures.refusal.0 (c.in_err-paged-in-Ok.was ∙ ap Err is)) (λ is. c.read_objects.ensures.refusal.1 (c.in_err-paged-in-Ok.was ∙ ap Err is))
    (λ is. failed_then disk c.args.device.now c.open_log.new.device c.read_objects.new.device first (c.read_objects.ensures.cause (c.in_err-paged-in-Ok.was ∙ ap Err is)))
    (λ keeps damage is rules h stands.
    let counts = c.in_ok-root.ensures.found keeps in
    let kept = c.synced_root.ensures.ran.kept keeps in
    let root_same : disk.content c.synced_root.new.device ≡ content = c.synced_root.ensures.ran.seen keeps in
    let log = c.in-Ok.found in
    let found = c.in-Ok.ensures.found kept in
    let payloads : List (List ℕ) = found.0 in
    let later : List Write = map write_with_plans (writes_in stands.groups) in
    let In : List ℕ → Type 0 = λ x. HoldsLog (log_sector root) payloads log.last_gate_sector x in
    let At : ℕ → List ℕ → Type 0 = λ at x. HoldsLog at payloads log.last_gate_sector x in
    let there : HoldsLog (log_sector root) payloads log.last_gate_sector content =
    subst In root_same (subst (λ at. At at (disk.content c.synced_root.new.device)) c.log_sector.ensures.place found.2) in
    let given : HoldsLog log.first_gate_sector payloads log.last_gate_sector (disk.content c.open_log.new.device) =
    subst (λ at. At at (disk.content c.open_log.new.device)) (sym c.in-Ok.ensures.place.0) (subst (At c.log_sector.result) (sym (c.open_log.ensures.ran.seen kept)) found.2) in
    let Keeps : List ℕ → Type 0 = λ x. HoldsBase rules x root stands.base in
    c.read_objects.ensures.damaged (first.kept keeps) damage (c.in_err-paged-in-Ok.was ∙ ap Err is) payloads given rules stands.base later
    (base_is rules content h stands) (subst Keeps (sym (first.seen keeps)) (base_here rules content h stands root counts))
    (written_here rules content h stands root counts payloads log.last_gate_sector there))
    (λ keeps damage is.
    let Behind : List ℕ → Type 0 = λ x. IsDamageBehind x root damage in
    behind_counts content root (c.in_ok-root.ensures.found keeps) damage
    (subst Behind (first.seen keeps) (c.read_objects.ensures.behind (first.kept keeps) damage (c.in_err-paged-in-Ok.was ∙ ap Err is)))))

pub returns-in_ok-paged-in-Ok-clause-read : goal.returns-in_ok-paged-in-Ok-clause-read
returns-in_ok-paged-in-Ok-clause-read g c =
    let disk = g.D.Device.disk in
    let content = disk.content c.args.device.now in
    let root = c.in_ok-root.root in
    let log = c.in-Ok.found in
    let paged = c.in_ok-paged-in-Ok.paged in
    let read = c.in_ok-paged-in-Ok.ensures in
    let May : Root → Type 0 = λ r. MayHaveFloor r.label.format r.label.floor in
    record {
      rules = read.rules ∙ ap (λ (r : Root). rules_by r.label) (sym read.root);
      floor = subst May (sym read.root) c.in_ok-root.ensures.floor;
      works = read.works;
      in_data = omega (arith, read.log.first, c.in-Ok.ensures.place.0, c.log_sector.ensures.place, c.in_ok-root.ensures.in_data);
      found = λ keeps rules h stands.
          let counts = c.in_ok-root.ensures.found keeps in
          let kept = c.synced_root.ensures.ran.kept keeps in
          let root_same : disk.content c.synced_root.new.device ≡ content = c.synced_root.ensures.ran.seen keeps in
          let same : disk.content c.open_log.new.device ≡ content = c.open_log.ensures.ran.seen kept ∙ root_same in
          let held : seen.View Decoded = with_plans (view rules stands.base) in
          let later : List Write = map write_with_plans (writes_in stands.groups) in
          let opened = c.in-Ok.ensures.found kept in
          let payloads : List (List ℕ) = opened.0 in
          let In : List ℕ → Type 0 = λ x. HoldsLog (log_sector root) payloads log.last_gate_sector x in
          let At : ℕ → List ℕ → Type 0 = λ at x. HoldsLog at payloads log.last_gate_sector x in
          let there : HoldsLog (log_sector root) payloads log.last_gate_sector content =
          subst In root_same (subst (λ at. At at (disk.content c.synced_root.new.device)) c.log_sector.ensures.place opened.2) in
          let given : HoldsLog log.first_gate_sector payloads log.last_gate_sector (disk.content c.open_log.new.device) =
          subst (λ at. At at (disk.content c.open_log.new.device)) (sym c.in-Ok.ensures.place.0) (subst (At c.log_sector.result) (sym (c.open_log.ensures.ran.seen kept)) opened.2) in
          let Keeps : List ℕ → Type 0 = λ x. HoldsBase rules x root stands.base in
          let found = read.found (c.open_log.ensures.ran.kept kept) payloads given rules stands.base later (base_is rules content h stands)
          (subst Keeps (sym same) (base_here rules content h stands root counts)) (written_here rules content h stands root counts payloads log.last_gate_sector there) in (
            read.rules ∙ sym (base_here rules content h stands root counts).numbers,
            record {
              base = base_of held;
              below = found.0;
              shows = opened_shows rules content h stands root counts payloads log.last_gate_sector held (held_as_it_is held) there (base_of held)
                  (below_free disk paged (base_of held) c.read_objects.new.device found.0) paged.core found.1;
            },
          );
      redone = λ none.
          let found = read.redone (ap (λ (r : Root). r.pages) (sym read.root) ∙ none) in
          let Redone : Rules → Type 0 = λ r. IsRedone r found.1.0 in
          (found.1.0, record { base = []; below = found.0; shows = found.1.1 }, subst Redone (sym read.rules) found.1.2);
      log = λ keeps.
          let Counts : Root → Type 0 = λ r. HoldsRoot content r in
          let opened = c.in-Ok.ensures.found (c.synced_root.ensures.ran.kept keeps) in
          let Of : ℕ → List ℕ → Type 0 = λ start x. HoldsLog start opened.0 log.last_gate_sector x in
          record {
            counts = subst Counts (sym read.root) (c.in_ok-root.ensures.found keeps);
            start = read.log.first ∙ c.in-Ok.ensures.place.0 ∙ c.log_sector.ensures.place ∙ ap log_sector (sym read.root);
            payloads = opened.0;
            holds = log_still log c.read_objects.new.log opened.0 content content read.log refl
                (subst (λ start. Of start content) (sym c.in-Ok.ensures.place.0) (subst (Of c.log_sector.result) (c.synced_root.ensures.ran.seen keeps) opened.2));
            counted = read.log.count ∙ opened.1;
          };
      damaged = λ keeps damage is rules h stands. cc;
      told = λ keeps damage is. cc;
      ran = read_thrice disk c.args.device.now c.synced_root.new.device c.open_log.new.device c.read_objects.new.device c.synced_root.ensures.ran c.open_log.ensures.ran
          c.read_objects.ensures.ran;
      refusal = ((λ is. cc), (λ is. cc));
      cause = λ is. cc;
    }

pub returns-in-Err-Damaged-clause-read : goal.returns-in-Err-Damaged-clause-read
returns-in-Err-Damaged-clause-read g c =
    let disk = g.D.Device.disk in
    let content = disk.content c.args.device.now in
    let root = c.in_ok-root.root in
    let told = c.read_pages_alone.ensures in
    let first : Ran disk c.args.device.now c.open_log.new.device Same =
    read_then disk c.args.device.now c.synced_root.new.device c.open_log.new.device c.synced_root.ensures.ran c.open_log.ensures.ran
    in
    found_none disk c.args.device.now c.read_pages_alone.new.device (read_then disk c.args.device.now c.open_log.new.device c.read_pages_alone.new.device first told.ran)
    c.read_pages_alone.result told.refusal.0 told.refusal.1
    (λ is. failed_then disk c.args.device.now c.open_log.new.device c.read_pages_alone.new.device first (told.cause is))
    (λ keeps damage _ rules h stands.
    let root_same : disk.content c.synced_root.new.device ≡ content = c.synced_root.ensures.ran.seen keeps in
    let None : ℕ → List ℕ → Type 0 = λ at x. (payloads : List (List ℕ)) (last : ℕ) → HoldsLog at payloads last x → ⊥ in
    let At : ℕ → Type 0 = λ at. None at (disk.content c.synced_root.new.device) in
    let found : IsErrOf c.open_log.result (Fault.Damaged c.in-Err-Damaged.damage) = search common in
    no_log_here rules content h stands root (c.in_ok-root.ensures.found keeps)
    (subst (None (log_sector root)) root_same
    (subst At c.log_sector.ensures.place (c.open_log.ensures.damaged (c.synced_root.ensures.ran.kept keeps) c.in-Err-Damaged.damage found))))
    (λ keeps damage is.
    let Behind : List ℕ → Type 0 = λ x. IsDamageBehind x root damage in
    let here = disk.content c.open_log.new.device in
    let found : IsErrOf c.open_log.result (Fault.Damaged c.in-Err-Damaged.damage) = search common in
    let of_log = subst (IsDamageBehind here root) (sym (c.open_log.ensures.log c.in-Err-Damaged.damage found)) tt in
    behind_counts content root (c.in_ok-root.ensures.found keeps) damage (subst Behind (first.seen keeps) (told.behind (first.kept keeps) of_log damage is)))

pub returns-in-Err-clause-read : goal.returns-in-Err-clause-read
returns-in-Err-clause-read g c =
    let disk = g.D.Device.disk in
    let told = c.in-Err.ensures in
    let excluded : (damage : Damage) → c.in-Err.fault ≡ Fault.Damaged damage → ⊥ = λ damage is. search common in
    found_none disk c.args.device.now c.open_log.new.device
    (read_then disk c.args.device.now c.synced_root.new.device c.open_log.new.device c.synced_root.ensures.ran c.open_log.ensures.ran) c.in-Err.fault
    (λ is. told.refusal.0 (ap Err is)) (λ is. told.refusal.1 (ap Err is))
    (λ is. failed_then disk c.args.device.now c.synced_root.new.device c.open_log.new.device c.synced_root.ensures.ran (told.cause (ap Err is)))
    (λ keeps damage is. absurd (excluded damage is)) (λ keeps damage is. absurd (excluded damage is))

pub returns-in_ok-paged-in-Ok-clause-whole : goal.returns-in_ok-paged-in-Ok-clause-whole
returns-in_ok-paged-in-Ok-clause-whole g c keeps =
    let disk = g.D.Device.disk in
    let content = disk.content c.args.device.now in
    let paged = c.in_ok-paged-in-Ok.paged in
    let read = c.in_ok-paged-in-Ok.ensures in
    let first : Ran disk c.args.device.now c.open_log.new.device Same =
    read_then disk c.args.device.now c.synced_root.new.device c.open_log.new.device c.synced_root.ensures.ran c.open_log.ensures.ran
    in
    let Counts : Root → Type 0 = λ r. HoldsRoot content r in
    let kept = c.synced_root.ensures.ran.kept keeps in
    let log = c.in-Ok.found in
    let opened = c.in-Ok.ensures.found kept in
    let Log : ℕ → List ℕ → Type 0 = λ at x. HoldsLog at opened.0 log.last_gate_sector x in
    let given : HoldsLog log.first_gate_sector opened.0 log.last_gate_sector (disk.content c.open_log.new.device) =
    subst (λ at. Log at (disk.content c.open_log.new.device)) (sym c.in-Ok.ensures.place.0) (subst (Log c.log_sector.result) (sym (c.open_log.ensures.ran.seen kept)) opened.2) in
    let Kept : List ℕ → Root → Type 0 = λ x r. HasHeldEntries (rules_at r) r.label (entries_under r x) in
    let In : List ℕ → Root → Type 0 = λ x r. HoldsPages x r in
    let Has : List ℕ → Root → Type 0 = λ x r. HasEntries disk c.read_objects.new.device paged (entries_under r x) in
    record {
      counts = subst Counts (sym read.root) (c.in_ok-root.ensures.found keeps);
      pages = subst (In content) (sym read.root) (subst (λ x. In x c.in_ok-root.root) (first.seen keeps) (read.whole (first.kept keeps)));
      entries = subst (Has content) (sym read.root) (subst (λ x. Has x c.in_ok-root.root) (first.seen keeps) (read.entries (first.kept keeps)));
      kept = subst (Kept content) (sym read.root) (subst (λ x. Kept x c.in_ok-root.root) (first.seen keeps) (read.kept (first.kept keeps)));
      log = record {
        payloads = opened.0;
        last = log.last_gate_sector;
        log = subst (λ r. Log (log_sector r) content) (sym read.root) (subst (Log (log_sector c.in_ok-root.root)) (c.synced_root.ensures.ran.seen keeps)
            (subst (λ at. Log at (disk.content c.synced_root.new.device)) c.log_sector.ensures.place opened.2));
        groups = read.groups (c.open_log.ensures.ran.kept kept) opened.0 given;
      };
    }

pub returns-in_ok-paged-in-Ok-clause-durable : goal.returns-in_ok-paged-in-Ok-clause-durable
returns-in_ok-paged-in-Ok-clause-durable g c = λ keeps.
    let disk = g.D.Device.disk in
    let kept = c.synced_root.ensures.ran.kept keeps in
    let rest : Ran disk c.synced_root.new.device c.read_objects.new.device Same =
    read_then disk c.synced_root.new.device c.open_log.new.device c.read_objects.new.device c.open_log.ensures.ran c.read_objects.ensures.ran
    in
    only_after disk c.synced_root.new.device c.read_objects.new.device rest kept (c.in_ok-root.ensures.durable keeps)

pub returns-in_err-root-clause-unfailed : goal.returns-in_err-root-clause-unfailed
returns-in_err-root-clause-unfailed g c told =
    absurd (no_root_memory c.in_err-root.field-0.0 (sym (err_is c.from_residual.result _ Fault.Memory c.from_residual.ensures.1 told)))

pub returns-in_err-paged-in-Ok-clause-unfailed : goal.returns-in_err-paged-in-Ok-clause-unfailed
returns-in_err-paged-in-Ok-clause-unfailed g c told =
    c.read_objects.ensures.unfailed (c.in_err-paged-in-Ok.was
    ∙ ap Err (sym (err_is c.from_residual-in_err-paged-in-Ok.result _ Fault.Memory c.from_residual-in_err-paged-in-Ok.ensures.1 told)))
    ∙ c.in-Ok.ensures.steady ∙ c.in_ok-root.ensures.steady

pub returns-in_ok-paged-in-Ok-clause-steady : goal.returns-in_ok-paged-in-Ok-clause-steady
returns-in_ok-paged-in-Ok-clause-steady g c = c.in_ok-paged-in-Ok.ensures.steady ∙ c.in-Ok.ensures.steady ∙ c.in_ok-root.ensures.steady

pub returns-in-Err-Damaged-clause-unfailed : goal.returns-in-Err-Damaged-clause-unfailed
returns-in-Err-Damaged-clause-unfailed g c told =
    let found : IsErrOf c.open_log.result (Fault.Damaged c.in-Err-Damaged.damage) = search common in
    c.read_pages_alone.ensures.unfailed (err_same told) ∙ c.open_log.ensures.unfailed_damaged c.in-Err-Damaged.damage found ∙ c.in_ok-root.ensures.steady

pub returns-in-Err-clause-unfailed : goal.returns-in-Err-clause-unfailed
returns-in-Err-clause-unfailed g c told = c.in-Err.ensures.unfailed (ap Err (err_same told)) ∙ c.in_ok-root.ensures.steady
