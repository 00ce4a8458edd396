use Rattle.std.proofs.Common.{◌≡◌, ◌∙◌, ◌+◌, ◌⊎◌, sym, subst, ap, Some, Err, IsErrOf, true≢false}
use Rattle.device.specs.Disk.{HasFailed}
use Rattle.roots.specs.declared.root.Root.{Root}
use Rattle.histories.specs.View.{view}
use Rattle.durable.specs.declared.upgraded.UpgradeFault.{UpgradeFault}
use Rattle.durable.specs.declared.upgraded.UpgradeFault.TheVariants as upgrade
use Rattle.durable.specs.Settled.{root_of}
use Rattle.durable.specs.Upgraded.{IsRefusal, refusals, first_of}
use Rattle.durable.proofs.Answering.{settled_serves}
use Rattle.durable.proofs.Older.{root_here}
use Rattle.durable.proofs.Upgrading.{only_device_is, only_failed_is}
use Rattle.store.specs.Upkeep.{IsToldUpgraded}
use Rattle.store.proofs.Keeping.{kept_unopened, same_root}
use Rattle.store.proofs.Upgrading.{failed_since, opening_whole, opening_unrefused, opening_unfailed, unchanged_by, either_kept, upgraded_settled, unfailed_kept, failed_either}
use Rattle.store.proofs.upkeep.upgrade.Goals as goal

pub returns-in-Err : goal.returns-in-Err
returns-in-Err g c =
    let disk = g.D.Device.disk in
    record {
      ok = λ rules h holds. tt;
      told = λ rules h holds. tt;
      failed = λ rules h holds.
          either_kept rules disk c.args.device c.in-Err.device h
          (kept_unopened rules disk c.args.device c.in-Err.device h holds (c.in-Err.ensures.any_moment_err holds.keeps) (c.in-Err.ensures.content_err holds.keeps)
          (c.in-Err.ensures.left_err holds.keeps));
      kept = λ rules h holds other.
          kept_unopened rules disk c.args.device c.in-Err.device h holds (c.in-Err.ensures.any_moment_err holds.keeps) (c.in-Err.ensures.content_err holds.keeps)
          (c.in-Err.ensures.left_err holds.keeps);
      refused = λ rules h holds refusal.
          absurd (opening_unrefused c.in-Err.fault (c.in-Err.ensures.refusal rules h holds.keeps holds.read) (subst (λ x. IsRefusal x) c.from.ensures refusal));
      undamaged = λ rules h holds damage is.
          opening_whole c.in-Err.fault damage (c.in-Err.ensures.refusal rules h holds.keeps holds.read) (sym c.from.ensures ∙ is);
      never_failed = λ is. c.in-Err.ensures.never_failed.0 (only_failed_is c.in-Err.fault (sym c.from.ensures ∙ is));
      cause = λ is. c.in-Err.ensures.cause (only_device_is c.in-Err.fault (sym c.from.ensures ∙ is));
      steady = tt;
      unfailed = λ told.
          let Unchanged : UpgradeFault → Type 0 = λ x. (x ≡ upgrade.Memory) ⊎ IsRefusal x in
          c.in-Err.ensures.unfailed (opening_unfailed c.in-Err.fault c.in-Err.ensures.never_failed (subst Unchanged c.from.ensures told));
    }

pub returns-in-Ok-upgrade : goal.returns-in-Ok-upgrade
returns-in-Ok-upgrade g c =
    let disk = g.D.Device.disk in
    let opened = c.in-Ok.store in
    let new = c.upgrade.new.self in
    record {
      ok = λ rules h holds.
          let settled = c.in-Ok.ensures.settled rules h holds.keeps holds.read in
          upgraded_settled rules c.args.device opened new h holds (c.in-Ok.ensures.any_moment holds.keeps) (c.upgrade.ensures.any_moment rules h settled)
          (c.in-Ok-upgrade.ensures.settled rules h settled) c.into_device.result c.into_device.ensures;
      told = λ rules h holds.
          let settled = c.in-Ok.ensures.settled rules h holds.keeps holds.read in
          let Told : g.row.D.Denot → Type 0 = λ d. IsToldUpgraded rules h (disk.content d) holds.read.root c.in-Ok-upgrade.upgraded in
          let same = same_root (disk.content c.args.device) (disk.content opened.device) holds.read.root settled.read.root (c.in-Ok.ensures.content holds.keeps)
          holds.read.counts settled.read.counts
          in
          subst Told (sym c.into_device.ensures) (record {
            root = root_of new;
            counts = (c.in-Ok-upgrade.ensures.counts rules h settled).0;
            next = c.in-Ok-upgrade.ensures.next ∙ ap (λ (r : Root). r.generation + 1) (root_here opened rules h settled ∙ same);
            newest = c.in-Ok-upgrade.ensures.format;
            told = c.in-Ok-upgrade.ensures.told rules (view rules h) (settled_serves rules opened h settled);
          });
      failed = λ rules h holds. tt;
      kept = λ rules h holds. tt;
      refused = λ rules h holds. tt;
      undamaged = λ rules h holds. tt;
      never_failed = tt;
      cause = tt;
      steady = ap disk.failures c.into_device.ensures ∙ c.in-Ok-upgrade.ensures.steady ∙ c.in-Ok.ensures.steady;
      unfailed = tt;
    }

pub returns-in-Err-upgrade : goal.returns-in-Err-upgrade
returns-in-Err-upgrade g c =
    let disk = g.D.Device.disk in
    let opened = c.in-Ok.store in
    let new = c.upgrade.new.self in
    let told = c.in-Err-upgrade.fault in
    let is : c.upgrade.result ≡ Err told = c.in-Err-upgrade.is in
    let left = c.into_device-in-Err-upgrade.result in
    let same = c.into_device-in-Err-upgrade.ensures in
    let serving : IsErrOf c.upgrade.result upgrade.Failed → ⊥ = λ never. true≢false (sym c.in-Ok.ensures.serves ∙ c.upgrade.ensures.failed_only never) in
    record {
      ok = λ rules h holds. tt;
      told = λ rules h holds. tt;
      failed = λ rules h holds.
          let settled = c.in-Ok.ensures.settled rules h holds.keeps holds.read in
          failed_either rules c.args.device opened new h holds (c.in-Ok.ensures.any_moment holds.keeps) c.upgrade.result settled
          (λ unchanged. (c.upgrade.ensures.unchanged unchanged).0) (λ damage is. c.upgrade.ensures.damaged damage is rules h settled) serving left same
          (c.upgrade.ensures.any_moment rules h settled) (c.upgrade.ensures.device rules h settled) told is;
      kept = λ rules h holds other.
          let settled = c.in-Ok.ensures.settled rules h holds.keeps holds.read in
          unfailed_kept rules c.args.device opened new h holds (c.in-Ok.ensures.any_moment holds.keeps) c.upgrade.result settled
          (λ unchanged. (c.upgrade.ensures.unchanged unchanged).0) (λ damage is. c.upgrade.ensures.damaged damage is rules h settled) serving left same told is other;
      refused = λ rules h holds refusal.
          let settled = c.in-Ok.ensures.settled rules h holds.keeps holds.read in
          let counts = same_root (disk.content c.args.device) (disk.content opened.device) holds.read.root settled.read.root (c.in-Ok.ensures.content holds.keeps)
          holds.read.counts settled.read.counts
          in
          let Refuses : Root → Type 0 = λ r. first_of (refusals rules (view rules h) r) ≡ Some told in
          subst Refuses (root_here opened rules h settled ∙ counts)
          (c.upgrade.ensures.refused rules (view rules h) (settled_serves rules opened h settled) told refusal is);
      undamaged = λ rules h holds damage damaged.
          let settled = c.in-Ok.ensures.settled rules h holds.keeps holds.read in
          c.upgrade.ensures.damaged damage (is ∙ ap Err damaged) rules h settled;
      never_failed = λ never. serving (is ∙ ap Err never);
      cause = λ failed.
          let Failed : g.row.D.Denot → Type 0 = λ d. HasFailed disk c.args.device d in
          subst Failed (sym same) (failed_since disk c.args.device opened.device new.device c.in-Ok.ensures.count (c.upgrade.ensures.cause (is ∙ ap Err failed)));
      steady = tt;
      unfailed = λ unchanged. ap disk.failures same ∙ c.upgrade.ensures.unfailed (unchanged_by c.upgrade.result told is unchanged) ∙ c.in-Ok.ensures.steady;
    }
